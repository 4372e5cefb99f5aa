-- The views of a core after one of them has changed.
use Rattle.std.proofs.Common.{◌≡◌, ◌≢◌, ℕ, ◌+◌, List, set, get_or, sym, ap, subst, ◌∙◌, Some, None, inl, inr, Option}
use Rattle.std.specs.Prelude.{slice_get, count_by, nat_eq}
use Rattle.std.proofs.lemmas.Bool.{cases_eq}
use Rattle.std.proofs.lemmas.Option.{same_Some, slice_get_within, get_or_from_slice_get, none-some}
use Rattle.std.proofs.lemmas.List.Sums.{sum_by-set}
use Rattle.board_core.specs.declared.entry.Entry.{Entry}
use Rattle.board_core.specs.declared.view.GoalMark.{GoalMark}
use Rattle.board_core.specs.declared.view.View.{View}
use Rattle.board_core.specs.Good.{IsMarked, Knows, entries_of, times}
use Rattle.board_core.proofs.Places.{get-set_same, get-set_other}

-- each live view holds what its caller knows
abbrev pub AllKnow : List Entry → List (Option GoalMark) → List (Option View) → Type 0
AllKnow history marks views = (k : ℕ) (v : View) → slice_get views k ≡ Some (Some v) → Knows history marks k v

-- what holds of the new view, and of each other one, holds of all
pub all_know-set : (history : List Entry) (marks : List (Option GoalMark)) (views : List (Option View)) (k : ℕ) (old : Option View) (new : View)
    → slice_get views k ≡ Some old → Knows history marks k new
    → ((j : ℕ) (w : View) → j ≢ k → slice_get views j ≡ Some (Some w) → Knows history marks j w) → AllKnow history marks (set views k (Some new))
all_know-set history marks views k old new here knows others j w at =
    elim (cases_eq j k) [
      | inl same ↦ (
          let read : Some (Some new) ≡ Some (Some w) = sym (get-set_same views k (Some new) (slice_get_within views k old here)) ∙ (ap (λ n. slice_get (set views k (Some new)) n) (sym same) ∙ at) in
          let is : new ≡ w = same_Some new w (same_Some (Some new) (Some w) read) in
          subst (λ (x : View). Knows history marks j x) is (subst (λ (n : ℕ). Knows history marks n new) (sym same) knows)
          )
      | inr other ↦ others j w other (sym (get-set_other views k j (Some new) other) ∙ at)
    ]

-- a caller that is spent now was spent before
pub spent-set : (views : List (Option View)) (k j : ℕ) (old : Option View) (new : View) → slice_get views k ≡ Some old → slice_get (set views k (Some new)) j ≡ Some None
    → slice_get views j ≡ Some None
spent-set views k j old new here at =
    elim (cases_eq j k) [
      | inl same ↦ (
          let read : Some (Some new) ≡ Some None = sym (get-set_same views k (Some new) (slice_get_within views k old here)) ∙ (ap (λ n. slice_get (set views k (Some new)) n) (sym same) ∙ at) in
          let clash : Some new ≡ None = same_Some (Some new) None read in
          absurd (none-some new (sym clash))
          )
      | inr other ↦ sym (get-set_other views k j (Some new) other) ∙ at
    ]

-- how often the entries of one view have the number
abbrev pub in_view : ℕ → Option View → ℕ
in_view n o = count_by (λ (e : Entry). nat_eq e.number n) (entries_of o)

pub times-set : (n : ℕ) (views : List (Option View)) (k : ℕ) (old new : Option View) → slice_get views k ≡ Some old
    → times n (set views k new) + in_view n old ≡ times n views + in_view n new
times-set n views k old new here =
    let read : get_or views k old ≡ old = get_or_from_slice_get views k old old here in
    sym (ap (λ (o : Option View). times n (set views k new) + in_view n o) read) ∙ sum_by-set (in_view n) views k new old (slice_get_within views k old here)

-- more marks take nothing from what a caller knows
pub knows-more_marks : (history : List Entry) (marks more : List (Option GoalMark)) (k : ℕ) (v : View) → ((g : ℕ) → IsMarked marks g → IsMarked more g) → Knows history marks k v
    → Knows history more k v
knows-more_marks history marks more k v grows h = record {
  known = h.known;
  own = h.own;
  settled = λ g c. grows g (h.settled g c);
  marked = λ n e at own. elim (h.marked n e at own) [ inl unmarked ↦ inl unmarked | inr m ↦ inr (grows e.goal m) ];
  unmarked = h.unmarked;
  front = h.front;
  above = h.above;
}
