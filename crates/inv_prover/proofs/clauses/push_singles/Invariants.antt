use Rattle.std.proofs.Common.{◌≡◌, ◌++◌, take}
use Rattle.std.specs.List.{flat_map}
use Rattle.inv_prover.specs.Candidates.{single_clauses}
use Rattle.inv_prover.proofs.clauses.push_singles.Given as goal

abbrev pub invariant-loop-latch : goal.invariant-loop-latch
invariant-loop-latch l = l.clauses ≡ l.initial.clauses ++ flat_map single_clauses (take l.latch-index l.latches)
