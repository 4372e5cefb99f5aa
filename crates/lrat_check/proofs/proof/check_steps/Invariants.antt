use Rattle.std.proofs.Common.{◌≡◌, drop}
use Rattle.lrat_check.specs.FirstFault.{fault_from}
use Rattle.lrat_check.proofs.proof.check_steps.Given as goal

-- the steps that are left have the first fault of all
abbrev pub invariant-loop-place : goal.invariant-loop-place
invariant-loop-place l = fault_from l.place l.checker (drop l.place l.steps) ≡ fault_from 0 l.fn.checker l.steps
