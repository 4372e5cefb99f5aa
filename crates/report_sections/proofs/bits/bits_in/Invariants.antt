use Rattle.std.proofs.Common.{◌≡◌, [], length}
use Rattle.report_sections.specs.Seeds.{bits_from}
use Rattle.report_sections.proofs.bits.bits_in.Given as goal

abbrev pub invariant-loop-rest : goal.invariant-loop-rest
invariant-loop-rest l = bits_from l.bits l.rest ≡ bits_from [] l.fn.word

abbrev pub decreases-loop-rest : goal.decreases-loop-rest
decreases-loop-rest l = length l.rest
