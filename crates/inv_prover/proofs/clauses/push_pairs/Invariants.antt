use Rattle.std.proofs.Common.{◌≡◌, ◌++◌, drop}
use Rattle.inv_prover.specs.Candidates.{clauses_of_pairs}
use Rattle.inv_prover.proofs.clauses.push_pairs.Given as goal

abbrev pub invariant-loop-place : goal.invariant-loop-place
invariant-loop-place l = l.clauses ++ clauses_of_pairs (drop l.place l.latches) ≡ l.initial.clauses ++ clauses_of_pairs l.latches
