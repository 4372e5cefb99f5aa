-- Gates that were written read back.
use Rattle.std.proofs.Common.{◌≡◌, ℕ, ◌+◌, ◌-◌, ◌*◌, ◌^◌, ◌<◌, ◌≤◌, true, not, ◌&&◌, nat_lt, nat_le, List, [], ◌∷◌, ◌++◌, map, length, refl, sym, ap, ◌∙◌, append_assoc, arith}
use Rattle.std.specs.List.{AllByRecursion, flat_map}
use Rattle.std.proofs.lemmas.Bool.Decides.{nat_tests}
use Rattle.aig_model.specs.WellFormed.{left_sides}
use Rattle.aig_model.specs.declared.parts.AndGate.{AndGate}
use Rattle.text_words.specs.Text.{Rest}
use Rattle.aig_ascii.specs.Demands.{AllMet}
use Rattle.aig_ascii.proofs.FirstFaults.{met-append}
use Rattle.aig_binary.specs.Deltas.{delta_value, behind_delta, delta_text}
use Rattle.aig_binary.specs.Sections.{delta_demands, left_at, right_at, gate_at, gate_demands, behind_gate, gates_demands, gates_at, behind_gates}
use Rattle.aig_binary.specs.BinaryOrder.{lits_from}
use Rattle.aig_binary.specs.CircuitFile.{larger_input, smaller_input, gate_bytes}
use Rattle.aig_binary.specs.RoundTrip.{larger_first}
use Rattle.aig_binary.proofs.DeltasBack.{StandsDelta, delta-back}
use Rattle.aig_binary.proofs.InputsBelow.{IsAbove}

delta-met : (least most n : ℕ) (r : Rest) (rest : List ℕ) → StandsDelta r n rest → n < 2 ^ 32 → least ≤ n → n ≤ most → AllMet (delta_demands least most r)
delta-met least most n r rest d few low high =
    let v = d.value in
    let below : nat_lt (delta_value r.bytes) (2 ^ 32) ≡ true = grind (arith, nat_tests) in
    let lower : nat_le least (delta_value r.bytes) ≡ true = grind (arith, nat_tests) in
    let upper : nat_le (delta_value r.bytes) most ≡ true = grind (arith, nat_tests) in (
      ap not d.uncut,
      (
        ap (λ t. t && nat_lt (delta_value r.bytes) (2 ^ 32)) d.short ∙ below,
        (ap (λ t. t && nat_le (delta_value r.bytes) most) lower ∙ upper, tt),
      ),
    )

-- ---- one gate

pub record StandsGate (lhs : ℕ) (g : AndGate) (r : Rest) (rest : List ℕ) : Type 0 where
  pub met : AllMet (gate_demands lhs r)
  pub is : gate_at lhs r ≡ larger_first g
  pub behind : (behind_gate r).bytes ≡ rest

abbrev pub gate_with : ℕ → ℕ → ℕ → AndGate
gate_with lhs left right = record { lhs = lhs; left = left; right = right }

pub gate-same : (l m a b c d : ℕ) → l ≡ m → a ≡ b → c ≡ d → gate_with l a c ≡ gate_with m b d
gate-same l m a b c d first second third = ap (λ n. gate_with n a c) first ∙ (ap (λ n. gate_with m n c) second ∙ ap (gate_with m b) third)

gate-back : (lhs : ℕ) (g : AndGate) (r : Rest) (rest : List ℕ) → g.lhs ≡ lhs → IsAbove g → r.bytes ≡ gate_bytes g ++ rest → StandsGate lhs g r rest
gate-back lhs g r rest side above is =
    let larger = larger_input g in
    let smaller = smaller_input g in
    let below : larger < g.lhs = omega (arith, above.left, above.right) in
    let order : smaller ≤ larger = omega arith in
    let first_few : g.lhs - larger < 2 ^ 32 = omega (arith, above.few) in
    let second_few : larger - smaller < 2 ^ 32 = omega (arith, above.few, below) in
    let first = delta-back r (g.lhs - larger) (delta_text (larger - smaller) ++ rest) first_few (is ∙ append_assoc (delta_text (g.lhs - larger)) (delta_text (larger - smaller)) rest) in
    let second = delta-back (behind_delta r) (larger - smaller) rest second_few first.behind in
    let left : left_at lhs r ≡ larger = omega (arith, first.value, side, below) in
    let right : right_at lhs r ≡ smaller = omega (arith, left, second.value, order) in
    record {
      met =
          met-append (delta_demands 1 lhs r) (delta_demands 0 (left_at lhs r) (behind_delta r))
          (delta-met 1 lhs (g.lhs - larger) r (delta_text (larger - smaller) ++ rest) first first_few (omega (arith, below)) (omega (arith, side)))
          (delta-met 0 (left_at lhs r) (larger - smaller) (behind_delta r) rest second second_few (omega arith) (omega (arith, left)));
      is = gate-same lhs g.lhs (left_at lhs r) larger (right_at lhs r) smaller (sym side) left right;
      behind = second.behind;
    }

-- ---- gates, one after another

pub record StandGates (v : ℕ) (gates : List AndGate) (r : Rest) (rest : List ℕ) : Type 0 where
  pub met : AllMet (gates_demands v (length gates) r)
  pub are : gates_at v (length gates) r ≡ map larger_first gates
  pub behind : (behind_gates (length gates) r).bytes ≡ rest

pub gates-back : (v : ℕ) (gates : List AndGate) (r : Rest) (rest : List ℕ) → left_sides gates ≡ lits_from v (length gates) → AllByRecursion IsAbove gates → r.bytes ≡ flat_map gate_bytes gates ++ rest
    → StandGates v gates r rest
gates-back v [] r rest sides above is = record { met = tt; are = refl; behind = is }
gates-back v (g ∷ gates) r rest sides above is =
    let side : g.lhs ≡ 2 * v = cc in
    let others : left_sides gates ≡ lits_from (v + 1) (length gates) = cc in
    let one = gate-back (2 * v) g r (flat_map gate_bytes gates ++ rest) side above.0 (is ∙ append_assoc (gate_bytes g) (flat_map gate_bytes gates) rest) in
    let more = gates-back (v + 1) gates (behind_gate r) rest others above.1 one.behind in
    record {
      met = met-append (gate_demands (2 * v) r) (gates_demands (v + 1) (length gates) (behind_gate r)) one.met more.met;
      are = ap (λ x. x ∷ gates_at (v + 1) (length gates) (behind_gate r)) one.is ∙ ap (λ xs. larger_first g ∷ xs) more.are;
      behind = more.behind;
    }
