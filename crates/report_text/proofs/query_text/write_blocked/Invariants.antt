use Rattle.std.proofs.Common.{◌≡◌, ◌∷◌, ◌++◌, length, take}
use Rattle.std.specs.Prelude.{codes, decimal}
use Rattle.std.specs.List.{flat_map}
use Rattle.report_text.proofs.query_text.write_blocked.Given as goal

abbrev pub invariant-loop-goal : goal.invariant-loop-goal
invariant-loop-goal l = l.out ≡ l.fn.out ++ (codes "blocked" ++ (32 ∷ decimal (length l.goals) ++ flat_map (λ n. 32 ∷ decimal n) (take l.goal-index l.goals)))
