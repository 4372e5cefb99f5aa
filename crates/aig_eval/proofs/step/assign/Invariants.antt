use Rattle.std.proofs.Common.{take}
use Rattle.aig_eval.specs.Filling.{Assigns}
use Rattle.aig_eval.proofs.step.assign.Given as goal

abbrev pub invariant-loop-place : goal.invariant-loop-place
invariant-loop-place l = Assigns (take l.place l.lits) (take l.place l.bits) l.initial.values l.values
