-- Where one seat stands for all callers, what its caller knows is all.
use Rattle.std.proofs.Common.{◌≡◌, ◌≢◌, ℕ, zero, suc, ◌+◌, ◌<◌, cond, eqb, List, [], ◌∷◌, length, get_or, Option, None, Some, All, sym, refl, ap, ◌∙◌, subst, inl, inr, ⊎_elim, arith}
use Rattle.std.specs.Prelude.{slice_get, sum_by, count_by, nat_eq}
use Rattle.std.proofs.lemmas.Option.{same_Some, slice_get_within, get_or_from_slice_get, slice_get-get_or, none-some}
use Rattle.std.proofs.lemmas.List.Sums.{sum_by-cons}
use Rattle.std.proofs.lemmas.List.Elements.{Contains-get_or}
use mathlib.Core.Logic.{dite}
use mathlib.Core.Option.{some, some-injective}
use native.Mathlib.Decide.{ℕ_discrete}
use lib.ListN.{get_elem?}
use Rattle.aig_model.specs.SignalList.{SignalList}
use Rattle.aig_model.specs.declared.parts.Kind.{Kind}
use Rattle.aig_model.specs.declared.parts.Kind.TheVariants as kinds
use Rattle.board_core.specs.declared.entry.Entry.{Entry}
use Rattle.board_core.specs.declared.view.GoalMark.{GoalMark}
use Rattle.board_core.specs.declared.view.View.{View as Known}
use Rattle.board_core.specs.Core.{HasView, mark_of, word_of}
use Rattle.board_core.specs.Good.{IsEntry, IsMarked}
use Rattle.board_core.specs.Good as good
use Rattle.goal_board.specs.declared.view.View.{View}
use Rattle.goal_board.specs.declared.view.Terms.{Terms}
use Rattle.goal_facts.specs.Found.{IsOfKind}
use Rattle.goal_facts.proofs.Truth.{found_is_in_range}
use Rattle.goal_board.specs.Lists.{total}
use Rattle.goal_board.specs.Rule.{IsFound, Kept}
use Rattle.goal_board.specs.History.{IsHistory, HasEntry, IsMark}
use Rattle.goal_board.specs.Ends.{IsEnd, number_of, times}
use Rattle.goal_board.proofs.Sums.{terms_le}
use Rattle.goal_board.proofs.Steps.{found_at}

-- ---- sums
total_sum : {A : Type 0} (f : A → ℕ) (l : List A) → total f l ≡ sum_by f l
total_sum f [] = refl
total_sum f (x ∷ xs) = ap (λ n. f x + n) (total_sum f xs) ∙ sym (sum_by-cons f x xs)

total_none : {A : Type 0} (f : A → ℕ) (l : List A) → ((j : ℕ) (a : A) → slice_get l j ≡ Some a → f a ≡ 0) → total f l ≡ 0
total_none f [] h = refl
total_none f (x ∷ xs) h = omega (arith, h 0 x refl, total_none f xs (λ j a e. h (suc j) a e))

-- where it is 0 elsewhere
total_only : {A : Type 0} (f : A → ℕ) (l : List A) (j : ℕ) (a : A) → slice_get l j ≡ Some a → ((i : ℕ) (b : A) → i ≢ j → slice_get l i ≡ Some b → f b ≡ 0) → total f l ≡ f a
total_only f [] j a e h = absurd (none-some a e)
total_only f (x ∷ xs) zero a e h = omega (arith, ap f (same_Some x a e), total_none f xs (λ j b d. h (suc j) b (λ k. omega arith) d))
total_only f (x ∷ xs) (suc j) a e h = omega (arith, h 0 x (λ k. omega arith) refl, total_only f xs j a e (λ i b ne d. h (suc i) b (λ k. ne (omega arith)) d))

-- ---- views
abbrev entries_with : ℕ → Option Known → ℕ
entries_with n o = count_by (λ (e : Entry). nat_eq e.number n) (good.entries_of o)

others_none : (n j : ℕ) (views : List (Option Known)) → ((i : ℕ) (y : Known) → slice_get views i ≡ Some (Some y) → i ≡ j) → (i : ℕ) (o : Option Known) → i ≢ j → slice_get views i ≡ Some o → entries_with n o ≡ 0
others_none n j views only i None ne at = refl
others_none n j views only i (Some y) ne at = absurd (ne (only i y at))

-- the one live view has all entries
times_only : (n j : ℕ) (views : List (Option Known)) (x : Known) → slice_get views j ≡ Some (Some x) → ((i : ℕ) (y : Known) → slice_get views i ≡ Some (Some y) → i ≡ j) → times n x.entries ≡ good.times n views
times_only n j views x at only =
    let own : times n x.entries ≡ entries_with n (Some x) = total_sum (λ (e : Entry). cond (eqb e.number n) 1 0) x.entries in
    own ∙ sym (total_only (entries_with n) views j (Some x) at (others_none n j views only)) ∙ total_sum (entries_with n) views

-- ---- what is found
same_kind : (s : SignalList) (goal : ℕ) (a b : Kind) → IsOfKind s.circuit s.lits a goal → IsOfKind s.circuit s.lits b goal → a ≡ b
same_kind s goal kinds.Reached kinds.Reached x y = refl
same_kind s goal kinds.Reached kinds.Unreachable x y = absurd (y x)
same_kind s goal kinds.Unreachable kinds.Reached x y = absurd (x y)
same_kind s goal kinds.Unreachable kinds.Unreachable x y = refl

found_here : (t : Terms) (hs : List Entry) (n : ℕ) (e : Entry) → All (IsFound t) hs → IsEntry hs n e → IsFound t e
found_here t hs n e all at = subst (IsFound t) (get_or_from_slice_get hs n e e at) (all n e (slice_get_within hs n e at))

pub is_history : (t : Terms) (ws : List ℕ) (vs : List View) (k : Kept t ws vs) → IsHistory t k.core.history
is_history t ws vs k =
    let h : List Entry = k.core.history in
    let at : (i : ℕ) (d : Entry) → i < length h → IsEntry h i (get_or h i d) = λ i d lt. slice_get-get_or h i d lt in
    record {
      legal = record {
        entries = λ n e here.
            let p = k.sound.posted n e here in
            let f = found_here t h n e k.found here in
            record {
              number = p.number;
              caller = omega (arith, p.caller, k.sound.few);
              goal = omega (arith, p.goal, k.goals);
              low = omega (arith, p.low, p.number);
              source = found_is_in_range t.signals.value.circuit t.signals.value.lits t.options e.source e.goal f.0;
              kind = f.1;
            };
        once = λ i j d lt inside. dite (ℕ_discrete ((get_or h i d).caller) ((get_or h j d).caller))
            (λ same. inr (k.sound.apart i j (get_or h i d) (get_or h j d) lt (at i d (omega arith)) (at j d inside) same).0)
            (λ ne. inl ne);
        kinds = λ i j d lt inside same.
            let a = found_at t h i (get_or h i d) k.found (at i d (omega arith)) in
            let b = found_at t h j (get_or h j d) k.found (at j d inside) in
            same_kind t.signals.value ((get_or h j d).goal) ((get_or h i d).kind) ((get_or h j d).kind) (subst (λ (g : ℕ). IsOfKind t.signals.value.circuit t.signals.value.lits ((get_or h i d).kind) g) same a) b;
      };
      ordered = λ i j d lt inside same.
          let number = (k.sound.posted i (get_or h i d) (at i d (omega arith))).number in
          omega (arith, number, (k.sound.apart i j (get_or h i d) (get_or h j d) lt (at i d (omega arith)) (at j d inside) same).1);
      found = k.found;
    }

-- ---- the end
module _ (t : Terms) (ws : List ℕ) (vs : List View) (id : ℕ) (v : View) (k : Kept t ws vs) (me : get_elem? vs id ≡ some v) (all : v.parts ≡ t.callers) (live : 0 < v.parts)
    (idle : v.known.unmarked ≡ None) where
  -- no other caller is live
  only : (j : ℕ) (x : Known) → HasView k.core j x → j ≡ v.caller
  only j x at =
      let s = k.seated j x at in
      dite (ℕ_discrete s.0 id)
      (λ e.
      let is : s.1 ≡ v = some-injective s.1 v (sym s.2 ∙ ap (λ (n : ℕ). get_elem? vs n) e ∙ me) in
      sym s.4 ∙ ap (λ (y : View). y.caller) is)
      (λ ne. absurd (omega (arith, terms_le (λ (u : View). u.parts) vs id s.0 v s.1 ne me s.2, k.parts, all, s.3)))

  mine : HasView k.core v.caller v.known
  mine = (k.each id v me).known live

  marked_entry : (g : ℕ) → IsMarked k.core.marks g → HasEntry k.core.history g
  marked_entry g m = let named = k.sound.named g m.0 m.1 in record { number = m.0.number; entry = named.entry; place = named.place; goal_is = named.goal }

  -- each entry's goal is marked
  entry_marked_by : (n : ℕ) (e : Entry) → IsEntry k.core.history n e → (o : Option Known) → slice_get k.core.views e.caller ≡ Some o → IsMarked k.core.marks e.goal
  entry_marked_by n e at None there = k.sound.left n e at there
  entry_marked_by n e at (Some x) there =
      let here : slice_get k.core.views v.caller ≡ Some (Some x) = ap (λ (j : ℕ). slice_get k.core.views j) (sym (only e.caller x there)) ∙ there in
      let same : v.known ≡ x = same_Some v.known x (same_Some (Some v.known) (Some x) (sym mine ∙ here)) in
      let none : x.unmarked ≡ None = ap (λ (y : Known). y.unmarked) (sym same) ∙ idle in
      ⊎_elim
      (λ (un : x.unmarked ≡ Some e). absurd (none-some e (sym none ∙ un)))
      (λ (m : IsMarked k.core.marks e.goal). m)
      ((k.sound.knows e.caller x there).marked n e at refl)

  entry_marked : (n : ℕ) (e : Entry) → IsEntry k.core.history n e → IsMarked k.core.marks e.goal
  entry_marked n e at = entry_marked_by n e at (get_or k.core.views e.caller None) (slice_get-get_or k.core.views e.caller None (k.sound.posted n e at).caller)

  is_mark : (g : ℕ) (o : Option GoalMark) → g < t.goals → mark_of k.core g ≡ o → IsMark k.core.history g (number_of o)
  is_mark g None lt is = λ h.
      let m = entry_marked h.number h.entry h.place in
      let read : mark_of k.core h.entry.goal ≡ Some m.0 = get_or_from_slice_get k.core.marks h.entry.goal (Some m.0) None m.1 in
      none-some m.0 (sym is ∙ ap (λ (x : ℕ). mark_of k.core x) (sym h.goal_is) ∙ read)
  is_mark g (Some m) lt is =
      let at : slice_get k.core.marks g ≡ Some (Some m) = slice_get-get_or k.core.marks g None (omega (arith, lt, k.goals)) ∙ ap (λ (o : Option GoalMark). Some o) is in
      let named = k.sound.named g m at in
      (named.entry, named.place, named.goal)

  pub ends : (marks : List (Option ℕ)) → length marks ≡ t.goals → ((g : ℕ) (m : Option GoalMark) → g < t.goals → get_or ws (g + 1) 0 ≡ word_of m → get_or marks g None ≡ number_of m) → IsEnd t v.known marks
  ends marks count read =
      let knows = k.sound.knows v.caller v.known mine in
      record {
        history = k.core.history;
        is_history = is_history t ws vs k;
        led = record { events = k.events; core = k.core; led = k.led; history_is = refl };
        numbered = λ n. times_only n v.caller k.core.views v.known mine only ∙ k.sound.once n;
        places = knows.known;
        settled = λ i d lt. marked_entry (get_or v.known.settled i d) (knows.settled (get_or v.known.settled i d) (Contains-get_or v.known.settled i d lt));
        marks_are = record {
          count = count;
          each = λ g mark at.
              let lt : g < t.goals = omega (arith, slice_get_within marks g mark at, count) in
              let is : number_of (mark_of k.core g) ≡ mark = sym (read g (mark_of k.core g) lt (k.marks g lt)) ∙ get_or_from_slice_get marks g mark None at in
              subst (IsMark k.core.history g) is (is_mark g (mark_of k.core g) lt refl);
        };
      }
