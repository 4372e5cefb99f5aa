-- A circuit unrolled over the steps 0 to last.
use Rattle.std.specs.Prelude.{ℕ, ◌+◌, ◌≤◌, ◌≡◌, List}
use Rattle.cnf_base.specs.Meaning.{CnfFormula}
use Rattle.aig_model.specs.WellFormed.{IsCircuit, latch_lits}
use Rattle.aig_model.specs.declared.parts.Parts.{Parts}
use Rattle.unroll.specs.declared.start.Start.{Start}
use Rattle.unroll.specs.Starts.{IsStart}
use Rattle.unroll.specs.Frames.{vars_before, frames_formula}

pub record Unrolling : Type 0 where
  pub circuit : Parts
  pub start : Start
  pub last : ℕ

-- what is kept of it
pub record IsKept (u : Unrolling) (formula : CnfFormula) (latches inputs : List ℕ) (width : ℕ) : Type 0 where
  pub circuit : IsCircuit u.circuit
  pub start : IsStart u.circuit u.start
  pub formula_is : formula ≡ frames_formula u.circuit u.start u.last
  pub few : vars_before u.circuit (u.last + 1) ≤ 4000000
  pub latches_are : latches ≡ latch_lits u.circuit.latches
  pub inputs_are : inputs ≡ u.circuit.inputs
  pub width_is : width ≡ u.circuit.top + 1
