use Rattle.run_report.specs.Blocks.{AreAfter}
use Rattle.run_report.proofs.blocks.settle.Given as goal

abbrev pub invariant-loop-post : goal.invariant-loop-post
invariant-loop-post l = AreAfter l.fn.opens.items l.yielded l.blocks.items
