use Rattle.std.proofs.Common.{◌≡◌, [], take}
use Rattle.report_check.specs.Bounds.{steps_of}
use Rattle.report_check.specs.Known.{search_step}
use Rattle.report_check.proofs.bounds.first_step.Given as goal

abbrev pub invariant-loop-block : goal.invariant-loop-block
invariant-loop-block l = steps_of (search_step l.search) (take l.block-index l.spents) ≡ []
