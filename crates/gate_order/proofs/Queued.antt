-- Queues that hand out the least place first.
use Rattle.std.proofs.Common.{◌≡◌, ◌≢◌, ℕ, suc, inl, inr, ◌+◌, ◌<◌, ◌≤◌, nat_eq, List, [], ◌∷◌, map, get_or, arith, All, sym, ap, ◌∙◌}
use Rattle.std.specs.List.Sorted.{IsPermutation}
use Rattle.std.specs.Ordering.{nat_cmp}
use Rattle.std.specs.BinaryHeap.{IsUpperBound}
use Rattle.std.specs.declared.cmp.Reverse.{Reverse}
use Rattle.std.proofs.lemmas.Bool.Decides.{nat_tests}
use Rattle.std.proofs.lemmas.List.Elements.{All-nil, All-cons, All-weaker}
use Rattle.std.proofs.lemmas.List.Sorted.{All-permutation}
use Rattle.aig_model.specs.Literal.{number}
use Rattle.gate_order.specs.PlaceOrder.{times, Queues}
use Rattle.gate_order.proofs.Times.{times-nil, times-cons, times-permutation, equal_number}

-- what a heap in reversed order says of its top
pub least_from_top : (x : Reverse ℕ) (xs : List (Reverse ℕ)) → IsUpperBound (λ (a b : Reverse ℕ). nat_cmp b.0 a.0) x xs
    → All (λ n. x.0 ≤ n) (map (λ (r : Reverse ℕ). r.0) xs)
least_from_top x [] above = All-nil (λ n. x.0 ≤ n)
least_from_top x (y ∷ ys) above =
    All-cons (λ n. x.0 ≤ n) y.0 (map (λ (r : Reverse ℕ). r.0) ys) (let no = above.0 in grind (arith, nat_tests)) (least_from_top x ys above.1)

-- ---- the places that wait for nothing from the start
pub queues_none : (waits : List ℕ) → Queues waits 0 []
queues_none waits = record { inside = All-nil (λ n. n < 0); once = λ place h. absurd (omega (arith, h)) }

-- a place that no element is at least as great as does not stand in the list
pub times_below : (n bound : ℕ) (list : List ℕ) → All (λ m. m < bound) list → bound ≤ n → times n list ≡ 0
times_below n bound [] all h = times-nil n
times_below n bound (m ∷ list) all h =
    elim (equal_number m n) [
      | inl e ↦ absurd (omega (arith, all 0 0 (omega arith), e.0))
      | inr ne ↦ omega (arith, times-cons n m list, ne.1, times_below n bound list (λ k d l. all (suc k) d (omega (arith, l))) h)
    ]

pub queues_more_ready : (waits queue longer : List ℕ) (bound : ℕ) → Queues waits bound queue → get_or waits bound 0 ≡ 0 → IsPermutation (bound ∷ queue) longer
    → Queues waits (bound + 1) longer
queues_more_ready waits queue longer bound is none moved = record {
  inside = All-permutation (λ n. n < bound + 1) (bound ∷ queue) longer moved
      (All-cons (λ n. n < bound + 1) bound queue (omega arith) (All-weaker (λ n. n < bound) (λ n. n < bound + 1) (λ n h. omega arith) queue is.inside));
  once = λ place h.
      let moved_times : times place longer ≡ number (nat_eq bound place) + times place queue = times-permutation place (bound ∷ queue) longer moved ∙ times-cons place bound queue in
      elim (equal_number bound place) [
        | inl e ↦
            let absent : times place queue ≡ 0 = times_below place bound queue is.inside (omega (arith, e.0)) in
            let waits_none : get_or waits place 0 ≡ 0 = ap (λ p. get_or waits p 0) (sym e.0) ∙ none in
            rw waits_none (omega (arith, e.1))
        | inr ne ↦ omega (arith, ne.1, ne.0, is.once place (omega (arith, h, ne.0)))
      ];
}

pub queues_more_waiting : (waits queue : List ℕ) (bound : ℕ) → Queues waits bound queue → (get_or waits bound 0 ≡ 0 → ⊥) → Queues waits (bound + 1) queue
queues_more_waiting waits queue bound is some = record {
  inside = All-weaker (λ n. n < bound) (λ n. n < bound + 1) (λ n h. omega arith) queue is.inside;
  once = λ place h.
      elim (equal_number bound place) [
        | inl e ↦
            let absent : times place queue ≡ 0 = times_below place bound queue is.inside (omega (arith, e.0)) in
            let waits_some : get_or waits place 0 ≢ 0 = λ none. some (ap (λ p. get_or waits p 0) e.0 ∙ none) in
            grind (arith, nat_tests)
        | inr ne ↦ is.once place (omega (arith, h, ne.0))
      ];
}
