use Rattle.std.proofs.Common.{◌≡◌, ◌++◌, take}
use Rattle.std.specs.List.{flat_map}
use Rattle.inv_prover.specs.Candidates.{pair_clauses}
use Rattle.inv_prover.proofs.clauses.push_pairs_of.Given as goal

abbrev pub invariant-loop-second : goal.invariant-loop-second
invariant-loop-second l = l.clauses ≡ l.initial.clauses ++ flat_map (pair_clauses l.first) (take l.second-index l.others)
