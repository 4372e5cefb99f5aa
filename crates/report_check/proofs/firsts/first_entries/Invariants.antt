use Rattle.std.proofs.Common.{length, take}
use Rattle.report_check.specs.Known.{AreFirsts}
use Rattle.report_check.proofs.firsts.first_entries.Given as goal

abbrev pub invariant-loop-entry : goal.invariant-loop-entry
invariant-loop-entry l = AreFirsts (take l.entry-index l.history) l.goals l.firsts.items
