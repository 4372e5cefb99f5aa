-- A core that is kept in parts, after each event.
use Rattle.std.proofs.Common.{◌≡◌, ℕ, ◌<◌, ◌≤◌, arith, List, [], ◌∷◌, ◌++◌, length, set, get_or, refl, sym, ap, subst, ◌∙◌, Some, None, Option, Result, Ok, Err, OnOk}
use Rattle.std.specs.Prelude.{slice_get}
use Rattle.std.specs.Option.{unwrap_or, IfSome}
use Rattle.std.proofs.lemmas.Option.{same_Some, slice_get_within, slice_get-get_or}
use Rattle.aig_model.specs.declared.parts.Kind.{Kind}
use Rattle.board_core.specs.declared.entry.Entry.{Entry}
use Rattle.board_core.specs.declared.entry.Source.{Source}
use Rattle.board_core.specs.declared.event.Event.{Event}
use Rattle.board_core.specs.declared.view.GoalMark.{GoalMark}
use Rattle.board_core.specs.declared.view.View.{View}
use Rattle.board_core.specs.Core.{Core, core_of, HasView, CanNumber, CanMark, CanLook, CanJoin, IsStep, mark_by, first_mark, fresh_view, next_entry, with_entry, with_mark, with_look, with_all, numbered, marked, looked, split, joined}
use Rattle.board_core.specs.Good.{Fact, Good, IsFact, IsSound}
use Rattle.board_core.proofs.Kept.{stays_good}

-- the views that are read twice are one
same_view : (vs : List (Option View)) (k : ℕ) (v w : View) → slice_get vs k ≡ Some (Some v) → slice_get vs k ≡ Some (Some w) → v ≡ w
same_view vs k v w here there = same_Some v w (same_Some (Some v) (Some w) (sym here ∙ there))

pub number_after : (hs more : List Entry) (ms : List (Option GoalMark)) (vs : List (Option View)) (now : Core) → core_of hs ms vs ≡ now
    → (k g : ℕ) (kind : Kind) (source : Source) (can : CanNumber now k g) (old new : View) → slice_get vs k ≡ Some (Some old)
    → more ≡ hs ++ record { number = length hs; caller = k; goal = g; kind = kind; source = source; low = old.front } ∷ []
    → new ≡ with_entry old (record { number = length hs; caller = k; goal = g; kind = kind; source = source; low = old.front })
    → core_of more ms (set vs k (Some new)) ≡ numbered now k can.view (next_entry now k can.view g kind source)
number_after hs more ms vs now is k g kind source can old new here history view =
    let P : Core → Type 0 = λ x. (can : CanNumber x k g) → core_of more ms (set vs k (Some new)) ≡ numbered x k can.view (next_entry x k can.view g kind source) in
    let c : Core = core_of hs ms vs in
    let base : P c = λ can. subst (λ (w : View). core_of more ms (set vs k (Some new)) ≡ numbered c k w (next_entry c k w g kind source)) (same_view vs k old can.view here can.live)
    (λ i. core_of (history i) ms (set vs k (Some (view i)))) in
    subst P is base can

-- the same, where the number is that of a list with room for one more
pub number_reserved : (hs room more : List Entry) (ms : List (Option GoalMark)) (vs : List (Option View)) (now : Core) (n : ℕ) → core_of hs ms vs ≡ now → room ≡ hs → n ≡ length hs
    → (k g : ℕ) (kind : Kind) (source : Source) (can : CanNumber now k g) (old new : View) → slice_get vs k ≡ Some (Some old)
    → more ≡ room ++ record { number = n; caller = k; goal = g; kind = kind; source = source; low = old.front } ∷ []
    → new ≡ with_entry old (record { number = n; caller = k; goal = g; kind = kind; source = source; low = old.front })
    → core_of more ms (set vs k (Some new)) ≡ numbered now k can.view (next_entry now k can.view g kind source)
number_reserved hs room more ms vs now n is kept count k g kind source can old new here history view =
    let entry : ℕ → Entry = λ m. record { number = m; caller = k; goal = g; kind = kind; source = source; low = old.front } in
    number_after hs more ms vs now is k g kind source can old new here
    (history ∙ ap (λ (l : List Entry). l ++ entry n ∷ []) kept ∙ ap (λ (m : ℕ). hs ++ entry m ∷ []) count)
    (view ∙ ap (λ (m : ℕ). with_entry old (entry m)) count)

pub first_unwrapped : (o : Option GoalMark) (m : GoalMark) → unwrap_or o m ≡ first_mark o m
first_unwrapped None m = refl
first_unwrapped (Some n) m = refl

pub mark_after : (hs : List Entry) (ms : List (Option GoalMark)) (vs : List (Option View)) (now : Core) → core_of hs ms vs ≡ now
    → (k : ℕ) (can : CanMark now k) (old new : View) (e : Entry) (m : GoalMark) → slice_get vs k ≡ Some (Some old) → old.unmarked ≡ Some e
    → new ≡ with_mark old e.goal → m ≡ first_mark (get_or ms e.goal None) (mark_by e)
    → core_of hs (set ms e.goal (Some m)) (set vs k (Some new)) ≡ marked now k can.view can.entry
mark_after hs ms vs now is k can old new e m here unmarked view mark =
    let P : Core → Type 0 = λ x. (can : CanMark x k) → core_of hs (set ms e.goal (Some m)) (set vs k (Some new)) ≡ marked x k can.view can.entry in
    let c : Core = core_of hs ms vs in
    let base : P c = λ can. (
    let same : old ≡ can.view = same_view vs k old can.view here can.live in
    let entry : e ≡ can.entry = same_Some e can.entry (sym unmarked ∙ ap (λ (w : View). w.unmarked) same ∙ can.unmarked) in
    subst (λ (w : View). core_of hs (set ms e.goal (Some m)) (set vs k (Some new)) ≡ marked c k w can.entry) same
    (subst (λ (x : Entry). core_of hs (set ms e.goal (Some m)) (set vs k (Some new)) ≡ marked c k old x) entry
    (λ i. core_of hs (set ms e.goal (Some (mark i))) (set vs k (Some (view i)))))
    ) in
    subst P is base can

pub look_after : (hs : List Entry) (ms : List (Option GoalMark)) (vs : List (Option View)) (now : Core) → core_of hs ms vs ≡ now
    → (k g : ℕ) (can : CanLook now k g) (old new : View) → slice_get vs k ≡ Some (Some old) → new ≡ with_look old g (get_or ms g None)
    → core_of hs ms (set vs k (Some new)) ≡ looked now k can.view g
look_after hs ms vs now is k g can old new here view =
    let P : Core → Type 0 = λ x. (can : CanLook x k g) → core_of hs ms (set vs k (Some new)) ≡ looked x k can.view g in
    let c : Core = core_of hs ms vs in
    let base : P c = λ can. subst (λ (w : View). core_of hs ms (set vs k (Some new)) ≡ looked c k w g) (same_view vs k old can.view here can.live)
    (λ i. core_of hs ms (set vs k (Some (view i)))) in
    subst P is base can

pub split_after : (hs : List Entry) (ms : List (Option GoalMark)) (vs more : List (Option View)) (now : Core) → core_of hs ms vs ≡ now
    → (new : View) → new ≡ fresh_view → more ≡ vs ++ Some new ∷ [] → core_of hs ms more ≡ split now
split_after hs ms vs more now is new fresh views =
    let P : Core → Type 0 = λ x. core_of hs ms more ≡ split x in
    subst P is (λ i. core_of hs ms ((views ∙ ap (λ (v : View). vs ++ Some v ∷ []) fresh) i))

pub join_after : (hs : List Entry) (ms : List (Option GoalMark)) (vs : List (Option View)) (now : Core) → core_of hs ms vs ≡ now
    → (k j : ℕ) (can : CanJoin now k j) (ends stays both : View) → slice_get vs k ≡ Some (Some ends) → slice_get vs j ≡ Some (Some stays) → both ≡ with_all stays ends
    → core_of hs ms (set (set vs k None) j (Some both)) ≡ joined now k can.from j can.into
join_after hs ms vs now is k j can ends stays both from into all =
    let P : Core → Type 0 = λ x. (can : CanJoin x k j) → core_of hs ms (set (set vs k None) j (Some both)) ≡ joined x k can.from j can.into in
    let c : Core = core_of hs ms vs in
    let base : P c = λ can.
    subst (λ (w : View). core_of hs ms (set (set vs k None) j (Some both)) ≡ joined c k w j can.into) (same_view vs k ends can.from from can.from_live)
    (subst (λ (w : View). core_of hs ms (set (set vs k None) j (Some both)) ≡ joined c k ends j w) (same_view vs j stays can.into into can.into_live)
    (λ i. core_of hs ms (set (set vs k None) j (Some (all i))))) in
    subst P is base can

-- a step keeps a core good, where it comes about
pub good_after : {T E : Type 0} (r : Result T E) (c d : Core) (event told : Event) → told ≡ event → OnOk r (IsStep c event d)
    → OnOk r ((facts : List Fact) → Good c facts → IsFact facts told → Good d facts)
good_after (Ok x) c d event told same step = λ facts good fact. stays_good facts c d event good (subst (λ (e : Event). IsFact facts e) same fact) step
good_after (Err e) c d event told same step = tt

-- a live caller's view is within the list
pub live_inside : (hs : List Entry) (ms : List (Option GoalMark)) (vs : List (Option View)) (now : Core) → core_of hs ms vs ≡ now → (k : ℕ) (v : View) → HasView now k v → k < length vs
live_inside hs ms vs now is k v live = slice_get_within vs k (Some v) (ap (λ (c : Core). slice_get c.views k) is ∙ live)

-- the number of a mark is below the length of the history
pub mark_below : (hs : List Entry) (ms : List (Option GoalMark)) (vs : List (Option View)) (g : ℕ) (o : Option GoalMark) → IsSound (core_of hs ms vs) → g < length ms → o ≡ get_or ms g o
    → IfSome o (λ m. m.number < length hs)
mark_below hs ms vs g None sound inside is = tt
mark_below hs ms vs g (Some m) sound inside is =
    let at : slice_get ms g ≡ Some (Some m) = slice_get-get_or ms g (Some m) inside ∙ ap (λ (o : Option GoalMark). Some o) (sym is) in
    let named = sound.named g m at in
    slice_get_within hs m.number named.entry named.place

pub some_less : (n limit : ℕ) (o : Option GoalMark) → n ≤ limit → IfSome o (λ m. m.number < n) → IfSome o (λ m. m.number < limit)
some_less n limit None le h = tt
some_less n limit (Some m) le h = omega (arith, h, le)

-- the goal of an unmarked entry is within the marks
pub unmarked_inside : (hs : List Entry) (ms : List (Option GoalMark)) (vs : List (Option View)) (k : ℕ) (v : View) (e : Entry) → IsSound (core_of hs ms vs) → slice_get vs k ≡ Some (Some v) → v.unmarked ≡ Some e
    → e.goal < length ms
unmarked_inside hs ms vs k v e sound here is =
    let knows = sound.knows k v here in
    let own = (knows.unmarked e is).0 in
    (sound.posted e.number e (knows.known e own)).goal

-- the view that is read at a place
pub read_view : (vs : List (Option View)) (k : ℕ) (slot : Option View) (v : View) → k < length vs → slot ≡ get_or vs k slot → slot ≡ Some v → slice_get vs k ≡ Some (Some v)
read_view vs k slot v inside read is = slice_get-get_or vs k slot inside ∙ ap (λ (o : Option View). Some o) (sym read ∙ is)

-- a goal in range is within the marks
pub goal_inside : (hs : List Entry) (ms : List (Option GoalMark)) (vs : List (Option View)) (now : Core) → core_of hs ms vs ≡ now → (g : ℕ) → g < length now.marks → g < length ms
goal_inside hs ms vs now is g range = omega (arith, ap (λ (c : Core). length c.marks) is, range)

-- the view that a slice has at a place
pub found_view : (vs slice : List (Option View)) (k : ℕ) (slot : Option View) (v : View) → slice ≡ vs → slot ≡ get_or slice k slot → k < length vs → slot ≡ Some v → slice_get vs k ≡ Some (Some v)
found_view vs slice k slot v same read inside is = read_view vs k slot v inside (read ∙ ap (λ (l : List (Option View)). get_or l k slot) same) is
