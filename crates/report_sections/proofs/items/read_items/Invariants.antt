use Rattle.std.proofs.Common.{◌≡◌, ◌-◌, []}
use Rattle.report_lines.specs.Reading.{items_read}
use Rattle.report_sections.proofs.items.read_items.Given as goal

abbrev pub invariant-loop-number : goal.invariant-loop-number
invariant-loop-number g l =
    items_read (g.R.ItemReader.told l.reader) l.number (l.count - l.number) l.items l.lines ≡ items_read (g.R.ItemReader.told l.reader) 0 l.count [] l.initial.lines
