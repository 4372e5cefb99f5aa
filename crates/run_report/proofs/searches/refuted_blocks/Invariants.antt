use Rattle.std.proofs.Common.{◌≡◌, map}
use Rattle.run_report.specs.Searches.{block_of}
use Rattle.run_report.proofs.searches.refuted_blocks.Given as goal

abbrev pub invariant-loop-query : goal.invariant-loop-query
invariant-loop-query l = l.blocks ≡ map (block_of l.search) l.yielded
