use Rattle.std.proofs.Common.{◌≡◌, take, length}
use Rattle.aig_model.specs.WellFormed.{latch_lits}
use Rattle.aig_model.specs.Marks.{Defines}
use Rattle.aig_model.proofs.definers.define_latches.Given as goal

abbrev pub invariant-loop-latch : goal.invariant-loop-latch
invariant-loop-latch l = record { size : length l.defined ≡ length l.initial.defined; defines : Defines l.initial.defined l.defined (latch_lits (take l.latch-index l.latches)) }
