use Rattle.std.proofs.Common.{take}
use Rattle.aig_model.specs.LatchClauses.{SatisfiesClause}
use Rattle.inv_prover.specs.Greatest.{ArePicked}
use Rattle.inv_prover.proofs.pick.holding_in.Given as goal

abbrev pub invariant-loop-clause : goal.invariant-loop-clause
invariant-loop-clause l = ArePicked (SatisfiesClause l.state) (take l.clause-index l.clauses) l.picked
