use Rattle.std.proofs.Common.{◌≡◌, ◌≢◌, ℕ, zero, suc, ◌+◌, ◌-◌, ◌%◌, ◌<◌, List, length, get_or, arith, ap, ◌∙◌, sym, All, AllPairs}
use Rattle.std.specs.List.Sorted.{IsPermutation, IsStrictlyIncreasing}
use Rattle.std.proofs.lemmas.Bool.{false≢true}
use Rattle.std.proofs.lemmas.List.{get_or_default}
use Rattle.std.proofs.lemmas.List.Sorted.{IsPermutation-sym, All-permutation}
use Rattle.aig_model.specs.WellFormed.{left_sides}
use Rattle.aig_model.specs.declared.parts.AndGate.{AndGate}
use Rattle.gate_order.specs.GateOrder.{DefineApart}
use Rattle.gate_order.proofs.Times.{apart-permutation}
use Rattle.circuit_rows.proofs.order_rows.are_apart.Goals as goal
use Rattle.circuit_rows.proofs.order_rows.are_apart.Goals.{then-are_even, else-are_even}

rising_far : (xs : List ℕ) → IsStrictlyIncreasing xs → (i n : ℕ) → i + n + 1 < length xs → get_or xs i 0 < get_or xs (i + n + 1) 0
rising_far xs rising i zero h = let e : i + 0 + 1 ≡ i + 1 = omega arith in omega (arith, rising i (omega arith), ap (λ k. get_or xs k 0) e)
rising_far xs rising i (suc n) h =
    let e : i + suc n + 1 ≡ i + n + 1 + 1 = omega arith in
    omega (arith, rising_far xs rising i n (omega arith), rising (i + n + 1) (omega arith), ap (λ k. get_or xs k 0) e)

apart-from_rising : (xs : List ℕ) → IsStrictlyIncreasing xs → AllPairs (λ m n. m ≢ n) xs
apart-from_rising xs rising i j d before inside same =
    let e : i + (j - i - 1) + 1 ≡ j = omega arith in
    omega (arith, rising_far xs rising i (j - i - 1) (omega arith), ap (λ k. get_or xs k 0) e, same, get_or_default xs i d 0 (omega arith), get_or_default xs j d 0 inside)

define_apart : (gates : List AndGate) (sorted : List ℕ) → IsPermutation (left_sides gates) sorted → All (λ side. side % 2 ≡ 0) sorted → IsStrictlyIncreasing sorted
    → DefineApart gates
define_apart gates sorted same even rising =
    let back = IsPermutation-sym (left_sides gates) sorted same in
    record {
      even = All-permutation (λ side. side % 2 ≡ 0) sorted (left_sides gates) back even;
      apart = apart-permutation sorted (left_sides gates) back (apart-from_rising sorted rising);
    }

pub returns : goal.returns
returns c holds =
    let sorted = c.sort_unstable.new.self.items in
    let same : IsPermutation (left_sides c.args.gates.now) sorted = rw (← c.as_slice.ensures, ← c.in_ok-sides.ensures) c.sort_unstable.ensures.permutation in
    elim c.if-are_even.branch [
      | then-are_even w ↦
          define_apart c.args.gates.now sorted same (rw c.as_slice-2.ensures.value at (c.are_even.ensures w.if-are_even.true))
          (rw w.as_slice-then-are_even.ensures.value at (w.are_rising.ensures (sym w.result-is ∙ holds)))
      | else-are_even w ↦ absurd (false≢true (sym w.if-are_even.false ∙ (sym w.result-is ∙ holds)))
    ]
