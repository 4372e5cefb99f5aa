use Rattle.std.proofs.Common.{◌<◌, ◌^◌, take}
use Rattle.std.specs.List.{All}
use Rattle.solver_rows.proofs.learn_steps.are_small.Given as goal

-- the names so far are small
abbrev pub invariant-loop-name : goal.invariant-loop-name
invariant-loop-name l = All (λ name. name < 2 ^ 62) (take l.name-index l.proof_ids)
