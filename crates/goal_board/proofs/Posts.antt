-- A pass after a look and after a post.
use Rattle.std.proofs.Common.{◌≡◌, ◌≢◌, ℕ, zero, suc, ◌+◌, ◌<◌, ◌≤◌, max, Bool, true, false, true≢false, List, [], ◌∷◌, ◌++◌, length, map, get_or, set, Option, None, Some, All, sym, refl, ap, ◌∙◌, subst, inr, arith, length-set}
use Rattle.std.specs.Vec.{vec_capacity}
use Rattle.std.specs.declared.vec.Vec.{Vec}
use Rattle.std.specs.Global.{Global}
use Rattle.std.proofs.lemmas.List.{get_or-set_other, get_or-set_same, length_push}
use Rattle.std.proofs.lemmas.List.Elements.{All-push, All-contains, Contains-push}
use mathlib.Core.Logic.{dite}
use native.Mathlib.Decide.{ℕ_discrete}
use Rattle.board_core.specs.declared.entry.Entry.{Entry}
use Rattle.board_core.specs.declared.entry.Source.{Source}
use Rattle.board_core.specs.declared.view.GoalMark.{GoalMark}
use Rattle.goal_board.specs.declared.view.Terms.{Terms}
use Rattle.goal_board.specs.declared.pass.Posted.{Posted}
use Rattle.goal_facts.specs.Found.{Found}
use Rattle.goal_board.specs.Lists.{trues}
use Rattle.goal_board.specs.Rule.{Sat, MayNumber, numbered, marked, looked, entry_of}
use Rattle.goal_board.specs.Passes.{front_after}
use Rattle.goal_board.specs.Inside.{IsPass, IsEvidenced}

-- ---- flags
pub trues_le : (bs : List Bool) → trues bs ≤ length bs
trues_le [] = omega arith
trues_le (true ∷ bs) = omega (arith, trues_le bs)
trues_le (false ∷ bs) = omega (arith, trues_le bs)

-- where one flag is false, fewer are true than there are
pub trues_below : (bs : List Bool) (g : ℕ) → g < length bs → get_or bs g false ≡ false → trues bs < length bs
trues_below [] g lt e = absurd (omega arith)
trues_below (true ∷ bs) zero lt e = absurd (true≢false e)
trues_below (false ∷ bs) zero lt e = omega (arith, trues_le bs)
trues_below (true ∷ bs) (suc g) lt e = omega (arith, trues_below bs g (omega arith) e)
trues_below (false ∷ bs) (suc g) lt e = omega (arith, trues_below bs g (omega arith) e)

trues_set : (bs : List Bool) (g : ℕ) → g < length bs → get_or bs g false ≡ false → trues (set bs g true) ≡ trues bs + 1
trues_set [] g lt e = absurd (omega arith)
trues_set (true ∷ bs) zero lt e = absurd (true≢false e)
trues_set (false ∷ bs) zero lt e = omega arith
trues_set (true ∷ bs) (suc g) lt e = omega (arith, trues_set bs g (omega arith) e)
trues_set (false ∷ bs) (suc g) lt e = omega (arith, trues_set bs g (omega arith) e)

flags_kept : (bs : List Bool) (g h : ℕ) → g < length bs → get_or bs h false ≡ true → get_or (set bs g true) h false ≡ true
flags_kept bs g h lt e = dite (ℕ_discrete h g)
    (λ same. subst (λ (x : ℕ). get_or (set bs g true) x false ≡ true) (sym same) (get_or-set_same bs g true false lt))
    (λ ne. get_or-set_other bs g h true false ne ∙ e)

down : (b : Bool) → (b ≡ true → ⊥) → b ≡ false
down true h = absurd (h refl)
down false h = refl

-- ---- lists
map_push : {A B : Type 0} (f : A → B) (l : List A) (a : A) → map f (l ++ a ∷ []) ≡ map f l ++ f a ∷ []
map_push f [] a = refl
map_push f (x ∷ xs) a = ap (λ l. f x ∷ l) (map_push f xs a)

get_front : {A : Type 0} (ys : List A) (x d : A) (k : ℕ) → k < length ys → get_or (ys ++ x ∷ []) k d ≡ get_or ys k d
get_front [] x d k h = absurd (omega arith)
get_front (y ∷ ys) x d zero h = refl
get_front (y ∷ ys) x d (suc k) h = get_front ys x d k (omega arith)

all_front : {A : Type 0} (P : A → Type 0) (ys : List A) (x : A) → All P (ys ++ x ∷ []) → All P ys
all_front P ys x all k d lt = subst P (get_front ys x d k lt) (all k d (omega (arith, lt, length_push ys x)))

-- ---- a look
pub pass_looked : (posts : Vec Posted Global) (posted : List Bool) (by front : ℕ) (me : Sat) (goal : ℕ) (mark : Option GoalMark) → IsPass posts posted by front me
    → IsPass posts posted by (front_after front mark) (looked me.0 goal mark, me.1)
pass_looked posts posted by front me goal None i = record {
  parts = i.parts;
  slots = i.slots;
  caller = i.caller;
  idle = i.idle;
  front_is = i.front_is;
  entries = i.entries;
  own = i.own;
  flagged = i.flagged;
  real = i.real;
  counted = i.counted;
  left = i.left;
  room = i.room;
  evidenced = i.evidenced;
}
pass_looked posts posted by front me goal (Some m) i = record {
  parts = i.parts;
  slots = i.slots;
  caller = i.caller;
  idle = i.idle;
  front_is = ap (λ (x : ℕ). max x (m.number + 1)) i.front_is;
  entries = i.entries;
  own = i.own;
  flagged = i.flagged;
  real = i.real;
  counted = i.counted;
  left = i.left;
  room = i.room;
  evidenced = i.evidenced;
}

-- ---- a post
-- no flag is up for a goal for which the caller hasn't posted
pub flag_down : (posts : Vec Posted Global) (posted : List Bool) (by front : ℕ) (me : Sat) (goal : ℕ) → IsPass posts posted by front me
    → All (λ (e : Entry). e.goal ≢ goal) me.0.known.entries → get_or posted goal false ≡ false
flag_down posts posted by front me goal i new = down (get_or posted goal false) (λ up. i.real goal up new)

-- so there is room for the post
pub has_room : (posts : Vec Posted Global) (posted : List Bool) (by front : ℕ) (me : Sat) (goal : ℕ) → IsPass posts posted by front me → goal < length posted
    → All (λ (e : Entry). e.goal ≢ goal) me.0.known.entries → (length posts.items < vec_capacity posts) × (0 < me.0.left)
has_room posts posted by front me goal i range new =
    let few = trues_below posted goal range (flag_down posts posted by front me goal i new) in
    (omega (arith, few, i.counted, i.room), omega (arith, few, i.counted, i.left))

pub may_number : (t : Terms) (posts : Vec Posted Global) (posted : List Bool) (by front : ℕ) (me : Sat) (goal : ℕ) (source : Source) → IsPass posts posted by front me
    → length posted ≡ t.goals → goal < length posted → All (λ (e : Entry). e.goal ≢ goal) me.0.known.entries → Found t.signals.value.circuit t.signals.value.lits t.options source goal → MayNumber t me.0 goal source
may_number t posts posted by front me goal source i goals range new found = record {
  live = omega (arith, i.parts);
  left = (has_room posts posted by front me goal i range new).1;
  idle = i.idle;
  range = omega (arith, goals, range);
  first = λ k d lt. inr (new k d lt);
  found = found;
}

pub pass_posted : (posts more : Vec Posted Global) (posted : List Bool) (by front : ℕ) (me : Sat) (goal : ℕ) (source : Source) (number : ℕ) (p : Posted)
    → IsPass posts posted by front me → goal < length posted → All (λ (e : Entry). e.goal ≢ goal) me.0.known.entries
    → more.items ≡ posts.items ++ p ∷ [] → vec_capacity posts ≤ vec_capacity more → p.entry ≡ entry_of me.0 number goal source → ((t : Terms) → me.0.terms ≡ Some t → IsEvidenced t p)
    → IsPass more (set posted goal true) by (number + 1) (marked (numbered me.0 (entry_of me.0 number goal source)) goal, me.1)
pass_posted posts more posted by front me goal source number p i range new items capacity is ev =
    let e : Entry = entry_of me.0 number goal source in
    let entries = me.0.known.entries in
    let lowered = flag_down posts posted by front me goal i new in
    let room = has_room posts posted by front me goal i range new in
    let long = ap length items ∙ length_push posts.items p in
    record {
      parts = i.parts;
      slots = i.slots;
      caller = i.caller;
      idle = refl;
      front_is = refl;
      entries = ap (λ l. l ++ e ∷ []) i.entries ∙ ap (λ (x : Entry). map (λ (q : Posted). q.entry) posts.items ++ x ∷ []) (sym is) ∙ sym (map_push (λ (q : Posted). q.entry) posts.items p) ∙ ap (λ l. map (λ (q : Posted). q.entry) l) (sym items);
      own = All-push (λ (x : Entry). x.caller ≡ by) entries e i.own i.caller;
      flagged = All-push (λ (x : Entry). get_or (set posted goal true) x.goal false ≡ true) entries e
          (λ k d lt. flags_kept posted goal _ range (i.flagged k d lt))
          (get_or-set_same posted goal true false range);
      real = λ h up none. dite (ℕ_discrete h goal)
          (λ same. All-contains (λ (x : Entry). x.goal ≢ h) (entries ++ e ∷ []) e none (Contains-push entries e) (sym same))
          (λ ne. i.real h (sym (get_or-set_other posted goal h true false ne) ∙ up) (all_front (λ (x : Entry). x.goal ≢ h) entries e none));
      counted = omega (arith, trues_set posted goal range lowered, i.counted, long);
      left = omega (arith, i.left, room.1, long, length-set posted goal true);
      room = omega (arith, i.room, capacity, length-set posted goal true);
      evidenced = λ t told. subst (All (IsEvidenced t)) (sym items) (All-push (IsEvidenced t) posts.items p (i.evidenced t told) (ev t told));
    }
