use Rattle.std.proofs.Common.{◌≡◌, ℕ, ◌<◌, false, take, length, get_or}
use Rattle.std.specs.List.{list_any}
use Rattle.report_text.specs.declared.report.Block.{Block}
use Rattle.report_check.specs.Bounds.{excludes_goal}
use Rattle.report_check.proofs.bounds.cut_goals.Given as goal

abbrev pub invariant-loop-block : goal.invariant-loop-block
invariant-loop-block l =
    (length l.cut ≡ l.goals)
    × ((goal : ℕ) → goal < l.goals → get_or l.cut goal false ≡ list_any (λ (b : Block). excludes_goal goal b.name) (take l.block-index l.spents))
