use Rattle.std.proofs.Common.{◌≡◌, ◌-◌, []}
use Rattle.report_lines.specs.Reading.{items_read}
use Rattle.report_sections.specs.Seeds.{bits_read}
use Rattle.report_sections.proofs.bits.read_rows.Given as goal

abbrev pub invariant-loop-number : goal.invariant-loop-number
invariant-loop-number l =
    (items_read (λ _. bits_read l.width) l._number (l.count - l._number) l.rows.rows l.lines ≡ items_read (λ _. bits_read l.width) 0 l.count [] l.initial.lines) × (l.rows.width ≡ l.width)
