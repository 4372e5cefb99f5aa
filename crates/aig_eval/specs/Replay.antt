-- Where the replay of a trace stops.
use Rattle.std.specs.Prelude.{ℕ, ◌+◌, ◌<◌, ◌≡◌, Bool, false, List, [], map, take, length, get_or}
use Rattle.ketch_base.specs.First.{IsFirst}
use Rattle.aig_model.specs.Meaning.{Assignment, Agrees, IsLegal, Path, input_values}
use Rattle.aig_model.specs.declared.parts.Latch.{Latch}
use Rattle.aig_model.specs.declared.parts.Parts.{Parts}
use Rattle.aig_model.specs.declared.trace.Trace.{Trace}
use Rattle.aig_eval.specs.declared.fault.ReplayFault.{ReplayFault}
use Rattle.aig_eval.specs.declared.fault.ReplayFault.TheVariants.{Shape, NotReset, Constraint, OutOfMemory}

-- one value a latch at the start, one value an input in each row, and some row
pub record HasShape (c : Parts) (trace : Trace) : Type 0 where
  pub start : length trace.start ≡ length c.latches
  pub width : trace.rows.width ≡ length c.inputs
  pub some : 0 < length trace.rows.rows

-- latch k starts at another value than its fixed reset
pub record StartsWrong (c : Parts) (start : List Bool) (k : ℕ) : Type 0 where
  pub inside : k < length c.latches
  pub differs : (l : Latch) → ¬ Agrees ((get_or c.latches k l).reset) (get_or start k false)

-- on the path of the first t + 1 rows a constraint is false at step t, its last one
pub record FailsAt (c : Parts) (trace : Trace) (t : ℕ) : Type 0 where
  pub inside : t < length trace.rows.rows
  pub frames : List Assignment
  pub path : Path c trace.start frames
  pub rows : map (input_values c) frames ≡ take (t + 1) trace.rows.rows
  pub fails : ¬ IsLegal c (get_or frames t [])

-- what may stop a replay that begins in a reset state: the first false constraint, or lack of memory
abbrev pub MayStop : Parts → Trace → ReplayFault → Type 0
MayStop c trace Shape = ⊥
MayStop c trace (NotReset k) = ⊥
MayStop c trace (Constraint t) = IsFirst (FailsAt c trace) t
MayStop c trace OutOfMemory = Unit {0}
