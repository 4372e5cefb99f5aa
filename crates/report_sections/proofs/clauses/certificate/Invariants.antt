use Rattle.std.proofs.Common.{◌≡◌, ◌-◌, []}
use Rattle.report_sections.specs.Certs.{kept_from}
use Rattle.report_sections.proofs.clauses.certificate.Given as goal

abbrev pub invariant-loop-number : goal.invariant-loop-number
invariant-loop-number l = kept_from (l.count - l._number) l.clauses l.kept l.lines ≡ kept_from l.count [] [] l.initial.lines
