-- The variables that a circuit defines are different and within its greatest one.
use Rattle.std.proofs.Common.{◌≡◌, ◌≢◌, ℕ, ◌+◌, ◌<◌, ◌≤◌, inl, inr, List, ◌∷◌, ◌++◌, length, sym, ◌∙◌, arith, All, AllPairs, length-append}
use Rattle.std.proofs.lemmas.Bool.{false≢true}
use Rattle.std.proofs.lemmas.Bool.Decides.{Decides-eqb, eqb_tells}
use Rattle.std.proofs.lemmas.List.{length-map}
use Rattle.std.proofs.lemmas.List.Elements.{All-map, All-weaker, All-cons, All-contains}
use Rattle.std.proofs.lemmas.List.Kept.{AllPairs-cons}
use Rattle.std.proofs.lemmas.Map.Made.{IsDistinct-from_AllPairs}
use Rattle.std.proofs.lemmas.Map.Steps.{length-le_from_distinct_below}
use Rattle.std.proofs.lemmas.Map.Views.{Contains-from_any}
use Rattle.aig_model.specs.Literal.{var}
use Rattle.aig_model.specs.WellFormed.{IsCircuit, IsInRange, IsDefining, definers, defined, latch_lits, left_sides}
use Rattle.aig_model.specs.declared.parts.Latch.{Latch}
use Rattle.aig_model.specs.declared.parts.AndGate.{AndGate}
use Rattle.aig_model.specs.declared.parts.Parts.{Parts}
use Rattle.aig_model.proofs.Building.{sections}

-- different numbers below n are at most n
length-apart_below : (xs : List ℕ) (n : ℕ) → AllPairs (λ v w. v ≢ w) xs → All (λ v. v < n) xs → length xs ≤ n
length-apart_below xs n apart below =
    length-le_from_distinct_below xs n (IsDistinct-from_AllPairs Decides-eqb xs apart)
    (λ q found. All-contains (λ v. v < n) xs q below
    (Contains-from_any (λ x y same. elim (eqb_tells x y) [ inl e ↦ e.1 | inr e ↦ absurd (false≢true (sym e.0 ∙ same)) ]) q xs found))

-- with variable 0 the variables that are defined are different still
apart_with_constant : (c : Parts) → IsCircuit c → AllPairs (λ v w. v ≢ w) (0 ∷ defined c)
apart_with_constant c ok =
    AllPairs-cons (λ v w. v ≢ w) 0 (defined c)
    (All-map (λ v. 0 ≢ v) var (definers c) (All-weaker IsDefining (λ lit. 0 ≢ var lit) (λ lit defining none. omega (arith, defining.positive, none)) (definers c) ok.defining))
    ok.once

below_top : (c : Parts) → IsCircuit c → All (λ v. v < c.top + 1) (0 ∷ defined c)
below_top c ok =
    All-cons (λ v. v < c.top + 1) 0 (defined c) (omega arith)
    (All-map (λ v. v < c.top + 1) var (definers c)
    (All-weaker (IsInRange c.top) (λ lit. var lit < c.top + 1) (λ lit range. omega arith) (definers c) ((sections (IsInRange c.top) c ok.in_range).0)))

length-defined : (c : Parts) → length (defined c) ≡ length c.inputs + length c.latches + length c.gates
length-defined c =
    omega (
      arith,
      length-map (definers c) var,
      length-append c.inputs (latch_lits c.latches ++ left_sides c.gates),
      length-append (latch_lits c.latches) (left_sides c.gates),
      length-map c.latches (λ (l : Latch). l.lit),
      length-map c.gates (λ (g : AndGate). g.lhs),
    )

pub definers_within_top_lem : (c : Parts) → IsCircuit c → length c.inputs + length c.latches + length c.gates ≤ c.top
definers_within_top_lem c ok =
    omega (arith, length-apart_below (0 ∷ defined c) (c.top + 1) (apart_with_constant c ok) (below_top c ok), length-defined c)
