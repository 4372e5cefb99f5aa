-- A mark keeps a core sound.
use Rattle.std.proofs.Common.{◌≡◌, ℕ, ◌<◌, List, length, set, refl, sym, ap, subst, ◌∙◌, arith, Some, None, inl, inr, Option}
use Rattle.std.specs.Prelude.{slice_get}
use Rattle.std.proofs.lemmas.Bool.{cases_eq}
use Rattle.std.proofs.lemmas.Option.{same_Some, slice_get-get_or, none-some}
use Rattle.std.proofs.lemmas.List.{length-set}
use Rattle.std.proofs.lemmas.List.Elements.{Contains-push_cases}
use Rattle.board_core.specs.declared.entry.Entry.{Entry}
use Rattle.board_core.specs.declared.view.GoalMark.{GoalMark}
use Rattle.board_core.specs.declared.view.View.{View}
use Rattle.board_core.specs.Core.{Core, CanMark, mark_of, mark_by, first_mark, with_mark, marked}
use Rattle.board_core.specs.Good.{IsEntry, IsMarked, IsNamed, Knows, IsSound, times}
use Rattle.board_core.proofs.Places.{get-set_same, get-set_other}
use Rattle.board_core.proofs.Views.{all_know-set, spent-set, times-set, knows-more_marks}

-- a goal that is marked stays marked
marks-grow : (marks : List (Option GoalMark)) (g : ℕ) (m : GoalMark) → g < length marks → (i : ℕ) → IsMarked marks i → IsMarked (set marks g (Some m)) i
marks-grow marks g m inside i h =
    elim (cases_eq i g) [
      | inl same ↦ (m, subst (λ (x : ℕ). slice_get (set marks g (Some m)) x ≡ Some (Some m)) (sym same) (get-set_same marks g (Some m) inside))
      | inr other ↦ (h.0, get-set_other marks g i (Some m) other ∙ h.1)
    ]

-- the goal's first mark names an entry for it
first-named : (history : List Entry) (old : Option GoalMark) (e : Entry) (m : GoalMark) → IsEntry history e.number e
    → ((n : GoalMark) → old ≡ Some n → IsNamed history e.goal n) → first_mark old (mark_by e) ≡ m → IsNamed history e.goal m
first-named history None e m at named is =
    subst (λ (x : GoalMark). IsNamed history e.goal x) is (record { entry = e; place = at; goal = refl; kind = refl })
first-named history (Some n) e m at named is = subst (λ (x : GoalMark). IsNamed history e.goal x) is (named n refl)

-- the caller after its mark
knows-mark : (history : List Entry) (marks more : List (Option GoalMark)) (k : ℕ) (v : View) (e : Entry) → ((g : ℕ) → IsMarked marks g → IsMarked more g) → IsMarked more e.goal
    → v.unmarked ≡ Some e → Knows history marks k v → Knows history more k (with_mark v e.goal)
knows-mark history marks more k v e grows here unmarked h = record {
  known = h.known;
  own = h.own;
  settled = λ g has. elim (Contains-push_cases v.settled e.goal g has) [ inl old ↦ grows g (h.settled g old) | inr is ↦ subst (λ (x : ℕ). IsMarked more x) is here ];
  marked = λ n x at own. elim (h.marked n x at own) [
    | inl is ↦ inr (subst (λ (y : Entry). IsMarked more y.goal) (same_Some e x (sym unmarked ∙ is)) here)
    | inr m ↦ inr (grows x.goal m)
  ];
  unmarked = λ x is. absurd (none-some x is);
  front = h.front;
  above = h.above;
}

pub mark-sound : (c : Core) (k : ℕ) → (can : CanMark c k) → IsSound c → IsSound (marked c k can.view can.entry)
mark-sound c k can s =
    let v : View = can.view in
    let e : Entry = can.entry in
    let own = s.knows k v can.live in
    let at : IsEntry c.history e.number e = own.known e (own.unmarked e can.unmarked).0 in
    let inside : e.goal < length c.marks = (s.posted e.number e at).goal in
    let first : GoalMark = first_mark (mark_of c e.goal) (mark_by e) in
    let marks = set c.marks e.goal (Some first) in
    let views = set c.views k (Some (with_mark v e.goal)) in
    let count : length views ≡ length c.views = length-set c.views k (Some (with_mark v e.goal)) in
    let size : length marks ≡ length c.marks = length-set c.marks e.goal (Some first) in
    let here : IsMarked marks e.goal = (first, get-set_same c.marks e.goal (Some first) inside) in
    let grows : (g : ℕ) → IsMarked c.marks g → IsMarked marks g = marks-grow c.marks e.goal first inside in
    record {
      few = omega (arith, count, s.few);
      posted = λ n x is. (
          let p = s.posted n x is in
          record { number = p.number; caller = omega (arith, p.caller, count); goal = omega (arith, p.goal, size); low = p.low }
          );
      apart = s.apart;
      once = λ n. (
          let sums = times-set n c.views k (Some v) (Some (with_mark v e.goal)) can.live in
          let same : times n views ≡ times n c.views = omega (arith, sums) in
          same ∙ s.once n
          );
      named = λ g m is. elim (cases_eq g e.goal) [
        | inl same ↦ (
            let read : Some (Some first) ≡ Some (Some m) = sym (get-set_same c.marks e.goal (Some first) inside) ∙ (ap (λ (x : ℕ). slice_get marks x) (sym same) ∙ is) in
            let is_first : first ≡ m = same_Some first m (same_Some (Some first) (Some m) read) in
            subst (λ (x : ℕ). IsNamed c.history x m) (sym same)
            (first-named c.history (mark_of c e.goal) e m at
            (λ old found. s.named e.goal old (slice_get-get_or c.marks e.goal None inside ∙ ap (λ (x : Option GoalMark). Some x) found)) is_first)
            )
        | inr other ↦ s.named g m (sym (get-set_other c.marks e.goal g (Some first) other) ∙ is)
      ];
      knows = all_know-set c.history marks c.views k (Some v) (with_mark v e.goal) can.live (knows-mark c.history c.marks marks k v e grows here can.unmarked own)
          (λ j w other is. knows-more_marks c.history c.marks marks j w grows (s.knows j w is));
      left = λ n x is spent. grows x.goal (s.left n x is (spent-set c.views k x.caller (Some v) (with_mark v e.goal) can.live spent));
    }
