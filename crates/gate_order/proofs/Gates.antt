-- Gates that stand by their variables.
use Rattle.std.proofs.Common.{◌≡◌, ℕ, zero, suc, inl, inr, ◌%◌, ◌<◌, ◌≤◌, ◌^◌, Ok, Err, Result, Some, None, Option, lit≤, ◌-◌, List, [], length, get_or, arith, MatchOption, sym, ap}
use Rattle.std.specs.List.Sorted.{IsPermutation, IsNonDecreasingBy, IsSearchInRange, IsBinarySearchResult}
use Rattle.std.specs.Result.{result_ok}
use Rattle.std.specs.Ordering.{nat_cmp, ordering_index}
use Rattle.std.proofs.lemmas.Bool.{cases_lt}
use Rattle.std.proofs.lemmas.Bool.Decides.{nat_tests}
use Rattle.std.proofs.lemmas.Cmp.{ranked}
use Rattle.std.proofs.lemmas.List.{length-map, get_or-map}
use Rattle.std.proofs.lemmas.List.Sorted.{IsPermutation-map, All-permutation, IsNonDecreasingBy-from_default}
use Rattle.aig_model.specs.Literal.{var}
use Rattle.aig_model.specs.WellFormed.{left_sides}
use Rattle.aig_model.specs.declared.parts.AndGate.{AndGate}
use Rattle.gate_order.specs.GateOrder.{DefineApart}
use Rattle.gate_order.specs.SortedGates.{AreSorted, no_gate, gate_at, DefinedAt, IsNowhere}
use Rattle.gate_order.proofs.Times.{apart-permutation}

-- ---- left sides that are even and differ
pub apart_again : (gates other : List AndGate) → IsPermutation gates other → DefineApart gates → DefineApart other
apart_again gates other same define =
    let sides : IsPermutation (left_sides gates) (left_sides other) = IsPermutation-map (λ (g : AndGate). g.lhs) gates other same in
    record {
      even = All-permutation (λ lhs. lhs % 2 ≡ 0) (left_sides gates) (left_sides other) sides define.even;
      apart = apart-permutation (left_sides gates) (left_sides other) sides define.apart;
    }

pub sorted_from_sides : (gates : List AndGate) → DefineApart gates → IsNonDecreasingBy (λ (g : AndGate). g.lhs) gates → AreSorted gates
sorted_from_sides gates define rise i j d before inside =
    let lhs : AndGate → ℕ = λ g. g.lhs in
    let size = length-map gates lhs in
    let at_i : get_or (left_sides gates) i 0 ≡ lhs (get_or gates i d) = get_or-map lhs gates i d 0 (omega arith) in
    let at_j : get_or (left_sides gates) j 0 ≡ lhs (get_or gates j d) = get_or-map lhs gates j d 0 inside in
    omega (arith, rise i j d (omega arith) inside, define.apart i j 0 before (omega arith), define.even i 0 (omega arith), define.even j 0 (omega arith))

module _ (gates : List AndGate) (sorted : AreSorted gates) where
  -- two places whose gates define one variable are one
  pub one_place : (i j : ℕ) → i < length gates → j < length gates → var ((gate_at gates i).lhs) ≡ var ((gate_at gates j).lhs) → i ≡ j
  one_place i j left right same =
      elim (cases_lt i j) [
        | inl before ↦ absurd (omega (arith, same, sorted i j no_gate before right))
        | inr after ↦ elim (cases_lt j i) [
          | inl later ↦ absurd (omega (arith, same, sorted j i no_gate later left))
          | inr not_later ↦ omega arith
        ]
      ]

  -- variables rise, so a place is no greater than its variable
  pub place-le-var : (i : ℕ) → i < length gates → i ≤ var ((gate_at gates i).lhs)
  place-le-var zero h = omega arith
  place-le-var (suc i) h = omega (arith, place-le-var i (omega arith), sorted i (suc i) no_gate (omega arith) h)

  pub few_gates : (r : Option ℕ) → MatchOption r (gates ≡ []) (λ side. (side < 2 ^ 32) × (side ≡ (gate_at gates (length gates - 1)).lhs)) → length gates ≤ 2 ^ 31
  few_gates None none = rw none (lit≤ tt)
  few_gates (Some side) is =
      elim (cases_lt 0 (length gates)) [
        | inl some ↦ omega (arith, is.0, is.1, place-le-var (length gates - 1) (omega arith))
        | inr none ↦ omega arith
      ]

  -- ---- the search for a variable
  variables_rise : (v : ℕ) → IsNonDecreasingBy (λ (g : AndGate). ordering_index (nat_cmp (var g.lhs) v)) gates
  variables_rise v =
      IsNonDecreasingBy-from_default (λ (g : AndGate). ordering_index (nat_cmp (var g.lhs) v)) gates no_gate (λ i j le inside.
      let rise : var ((gate_at gates i).lhs) ≤ var ((gate_at gates j).lhs) = grind (arith, sorted i j no_gate, λ (same : i ≡ j). ap (gate_at gates) same) in
      grind (arith, nat_tests))

  pub found_place : (v : ℕ) (r : Result ℕ ℕ) → IsSearchInRange r (length gates) → IsBinarySearchResult (λ (g : AndGate). nat_cmp (var g.lhs) v) gates r
      → MatchOption (result_ok r) (IsNowhere gates v) (DefinedAt gates v)
  found_place v (Ok place) inside equal = record { inside = inside; defines = ranked _ v _ (sym (equal no_gate)) }
  found_place v (Err place) inside parted =
      let parts = parted (variables_rise v) in
      λ k d h same. elim (cases_lt k place) [
        | inl before ↦ absurd (omega (arith, ranked _ v _ (sym (parts.0 k d (omega arith) before)), same))
        | inr after ↦ absurd (omega (arith, ranked _ v _ (sym (parts.1 k d after h)), same))
      ]
