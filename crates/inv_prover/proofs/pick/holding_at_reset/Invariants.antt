use Rattle.std.proofs.Common.{take}
use Rattle.aig_model.specs.Meaning.{IsReset}
use Rattle.inv_cert.specs.Resets.{HoldsAtReset}
use Rattle.inv_prover.specs.Greatest.{ArePicked}
use Rattle.inv_prover.proofs.pick.holding_at_reset.Given as goal

abbrev pub invariant-loop-clause : goal.invariant-loop-clause
invariant-loop-clause l = IsReset l.circuit l.state × ArePicked (HoldsAtReset l.circuit) (take l.clause-index l.clauses) l.picked
