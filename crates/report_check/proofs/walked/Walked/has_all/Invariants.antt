use Rattle.std.proofs.Common.{◌≡◌, ℕ, ◌+◌, ◌<◌, get_or, Some, slice_get}
use Rattle.report_text.specs.declared.report.HopBound.TheVariants as hop_bounds
use Rattle.report_check.proofs.walked.Walked.has_all.Given as goal

abbrev pub invariant-loop-batch : goal.invariant-loop-batch
invariant-loop-batch l = (k hop : ℕ) → k < l.batch → slice_get l.bounds.hops k ≡ Some (hop_bounds.To hop) → hop < get_or l.self.steps.items (k + 1) 0
