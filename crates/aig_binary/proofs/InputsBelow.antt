-- In the binary order the inputs of each gate are below its left side.
use Rattle.std.proofs.Common.{◌≡◌, ℕ, zero, suc, ◌+◌, ◌*◌, ◌^◌, ◌<◌, ◌≤◌, List, [], ◌∷◌, map, length, Contains, sym, subst, inl, inr, arith}
use Rattle.std.specs.List.{AllByRecursion}
use Rattle.std.proofs.lemmas.Bool.{cases_lt, cases_eq}
use Rattle.aig_model.specs.Literal.{var}
use Rattle.aig_model.specs.WellFormed.{left_sides, limit, IsInRange, IsOrdered, IsCircuit}
use Rattle.aig_model.specs.declared.parts.AndGate.{AndGate}
use Rattle.aig_model.specs.declared.parts.Parts.{Parts}
use Rattle.aig_model.proofs.Elements.{Contains-head, Contains-later}
use Rattle.aig_ascii.proofs.SpelledItems.{gate_numbers, ranges}
use Rattle.aig_binary.specs.BinaryOrder.{lits_from, IsBinary}
use Rattle.aig_binary.proofs.LinesBack.{definers-placed}

pub record IsAbove (g : AndGate) : Type 0 where
  pub left : g.left < g.lhs
  pub right : g.right < g.lhs
  pub few : g.lhs < 2 ^ 32

-- the variables from v on are those of the literals from v on
within : (v n w : ℕ) → v ≤ w → w < v + n → Contains (map var (lits_from v n)) w
within v zero w low high = absurd (omega arith)
within v (suc n) w low high =
    elim (cases_eq v w) as (λ _. Contains (map var (lits_from v (suc n))) w) [
      | inl same ↦ Contains-head (var (2 * v)) w (map var (lits_from (v + 1) n)) (let e : var (2 * v) ≡ w = omega arith in e)
      | inr other ↦ Contains-later (var (2 * v)) w (map var (lits_from (v + 1) n)) (within (v + 1) n w (omega arith) (omega arith))
    ]

-- a literal whose variable is none of these, and is in range, is below the first
below : (top v n lit : ℕ) (sides : List ℕ) → sides ≡ lits_from v n → v + n ≡ suc top → IsInRange top lit → (¬ Contains (map var sides) (var lit)) → lit < 2 * v
below top v n lit sides are whole range none =
    elim (cases_lt (var lit) v) as (λ _. lit < 2 * v) [
      | inl h ↦ omega (arith, h)
      | inr h ↦ absurd (none (subst (λ (xs : List ℕ). Contains (map var xs) (var lit)) (sym are) (within v n (var lit) (omega (arith, h)) (omega (arith, whole, range)))))
    ]

each-above : (top v : ℕ) (gates : List AndGate) → IsOrdered gates → left_sides gates ≡ lits_from v (length gates) → v + length gates ≡ suc top → top ≤ limit
    → AllByRecursion (λ (g : AndGate). AllByRecursion (IsInRange top) (gate_numbers g)) gates → AllByRecursion IsAbove gates
each-above top v [] ordered sides whole few range = tt
each-above top v (g ∷ gates) ordered sides whole few range =
    let side : g.lhs ≡ 2 * v = cc in
    let others : left_sides gates ≡ lits_from (v + 1) (length gates) = cc in
    let left = below top v (length (g ∷ gates)) g.left (left_sides (g ∷ gates)) sides whole range.0.1.0 ordered.0 in
    let right = below top v (length (g ∷ gates)) g.right (left_sides (g ∷ gates)) sides whole range.0.1.1.0 ordered.1 in (
      record { left = omega (arith, left, side); right = omega (arith, right, side); few = omega (arith, range.0.0, few) },
      each-above top (v + 1) gates ordered.2 others (omega (arith, whole)) few range.1,
    )

pub inputs-below : (c : Parts) → IsCircuit c → IsBinary c → AllByRecursion IsAbove c.gates
inputs-below c is b =
    let p = definers-placed c b in
    each-above c.top (1 + length c.inputs + length c.latches) c.gates is.ordered p.gates (omega (arith, p.top)) is.sized.top (ranges c is).gates
