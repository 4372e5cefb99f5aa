use Rattle.std.proofs.Common.{take}
use Rattle.aig_eval.specs.Filling.{Solves}
use Rattle.aig_eval.proofs.step.solve.Given as goal

abbrev pub invariant-loop-place : goal.invariant-loop-place
invariant-loop-place l = Solves (take l.place l.gates) l.initial.values l.values
