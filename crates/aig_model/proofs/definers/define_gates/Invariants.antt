use Rattle.std.proofs.Common.{◌≡◌, take, length}
use Rattle.aig_model.specs.WellFormed.{left_sides}
use Rattle.aig_model.specs.Marks.{Defines}
use Rattle.aig_model.proofs.definers.define_gates.Given as goal

abbrev pub invariant-loop-gate : goal.invariant-loop-gate
invariant-loop-gate l = record { size : length l.defined ≡ length l.initial.defined; defines : Defines l.initial.defined l.defined (left_sides (take l.gate-index l.gates)) }
