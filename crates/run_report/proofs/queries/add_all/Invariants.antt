use Rattle.std.proofs.Common.{◌≡◌, ◌++◌}
use Rattle.run_report.proofs.queries.add_all.Given as goal

abbrev pub invariant-loop-next : goal.invariant-loop-next
invariant-loop-next l = l.blocks ≡ l.fn.blocks ++ l.yielded
