use Rattle.std.proofs.Common.{◌≡◌, ◌-◌, length}
use Rattle.report_blocks.specs.Witness.{rows_from}
use Rattle.report_blocks.proofs.witness.rows.Given as goal

abbrev pub invariant-loop-number : goal.invariant-loop-number
invariant-loop-number l =
    (rows_from l.width (length l.initial.lines.bytes - l._number) l.rows.rows l.lines ≡ rows_from l.width (length l.initial.lines.bytes) l.initial.rows.rows l.initial.lines) × (l.rows.width ≡ l.width)
