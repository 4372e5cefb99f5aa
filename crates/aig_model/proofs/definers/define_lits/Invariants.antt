use Rattle.std.proofs.Common.{◌≡◌, take, length}
use Rattle.aig_model.specs.Marks.{Defines}
use Rattle.aig_model.proofs.definers.define_lits.Given as goal

abbrev pub invariant-loop-lit : goal.invariant-loop-lit
invariant-loop-lit l = record { size : length l.defined ≡ length l.initial.defined; defines : Defines l.initial.defined l.defined (take l.lit-index l.lits) }
