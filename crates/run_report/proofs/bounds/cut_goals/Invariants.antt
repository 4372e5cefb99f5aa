use Rattle.std.proofs.Common.{◌≡◌, length, take}
use Rattle.run_report.specs.Ended.{AreCut}
use Rattle.run_report.proofs.bounds.cut_goals.Given as goal

abbrev pub invariant-loop-block : goal.invariant-loop-block
invariant-loop-block l = (length l.cut ≡ l.goals) × AreCut (take l.block-index l.spents) l.cut
