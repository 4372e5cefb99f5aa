use Rattle.std.proofs.Common.{◌++◌}
use Rattle.aig_binary.specs.Deltas.{delta_text}
use Rattle.aig_binary.proofs.Groups.{Left}
use Rattle.aig_binary.proofs.delta.push_delta.Given as goal

abbrev pub invariant-loop-left : goal.invariant-loop-left
invariant-loop-left l = Left (l.fn.text.items ++ delta_text l.delta) l.text.items l.left

abbrev pub decreases-loop-left : goal.decreases-loop-left
decreases-loop-left l = l.left
