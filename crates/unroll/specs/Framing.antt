-- A formula that begins with the frames of some steps and goes on with a question.
use Rattle.std.specs.Prelude.{ℕ, ◌+◌, ◌≤◌, ◌≡◌, List, length, take}
use Rattle.cnf_base.specs.Meaning.{CnfFormula}
use Rattle.aig_model.specs.WellFormed.{IsCircuit}
use Rattle.aig_model.specs.declared.parts.Parts.{Parts}
use Rattle.unroll.specs.declared.start.Start.{Start}
use Rattle.unroll.specs.Starts.{IsStart}
use Rattle.unroll.specs.Frames.{vars_before, frames_clauses, undefined_vars}

-- the first `frames` clauses are those of the steps 0 to last
pub record Framing : Type 0 where
  pub circuit : Parts
  pub start : Start
  pub last : ℕ
  pub undefined : List ℕ
  pub frames : ℕ
  pub formula : CnfFormula

pub record IsFraming (f : Framing) : Type 0 where
  pub circuit : IsCircuit f.circuit
  pub start : IsStart f.circuit f.start
  pub few : vars_before f.circuit (f.last + 1) ≤ 4000000
  pub undefined : f.undefined ≡ undefined_vars f.circuit
  pub inside : f.frames ≤ length f.formula.clauses
  pub vars : f.formula.vars ≡ vars_before f.circuit (f.last + 1)
  pub begins : take f.frames f.formula.clauses ≡ frames_clauses f.circuit f.start f.last

-- the frames are those of this circuit, from this start, of the steps 0 to last
pub record HasFrames (c : Parts) (start : Start) (last : ℕ) (f : Framing) : Type 0 where
  pub framing : IsFraming f
  pub circuit : f.circuit ≡ c
  pub start_is : f.start ≡ start
  pub last_is : f.last ≡ last

-- behind the same frames stands what makes this formula of them
pub record Puts (old new : Framing) (formula : CnfFormula) : Type 0 where
  pub frames : HasFrames old.circuit old.start old.last new
  pub formula_is : new.formula ≡ formula
