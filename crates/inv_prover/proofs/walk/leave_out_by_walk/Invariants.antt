use Rattle.std.proofs.Common.{◌≡◌, length}
use Rattle.aig_model.specs.LatchClauses.{SatisfiesClauses}
use Rattle.inv_prover.specs.Search.{Shrinks}
use Rattle.inv_prover.proofs.walk.leave_out_by_walk.Given as goal

abbrev pub invariant-loop : goal.invariant-loop
invariant-loop l = record {
  shrinks : Shrinks l.circuit l.initial.clauses l.clauses;
  size : length l.state ≡ length l.circuit.latches;
  satisfied : SatisfiesClauses l.state l.clauses;
}
