use Rattle.run_report.specs.Blocks.{AreOpen}
use Rattle.run_report.proofs.open_goals.open_blocks.Given as goal

abbrev pub invariant-loop-goal : goal.invariant-loop-goal
invariant-loop-goal l = AreOpen l.bounds l.goal l.blocks.items
