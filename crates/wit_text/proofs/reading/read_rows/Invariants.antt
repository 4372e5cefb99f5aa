use Rattle.std.proofs.Common.{◌≡◌, [], length}
use Rattle.wit_text.specs.Reading.{there, end, rows_after}
use Rattle.wit_text.proofs.reading.read_rows.Given as goal

abbrev pub invariant-steps : goal.invariant-steps
invariant-steps l = record {
  width : l.rows.width ≡ l.inputs;
  last : end l.cursor ≡ end l.fn.cursor;
  left : rows_after (end l.fn.cursor) l.inputs l.rows.rows (there l.cursor) ≡ rows_after (end l.fn.cursor) l.inputs [] (there l.fn.cursor);
}

abbrev pub decreases-steps : goal.decreases-steps
decreases-steps l = length l.cursor.bytes
