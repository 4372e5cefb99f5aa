use Rattle.std.proofs.Common.{◌≡◌, ◌++◌, [], map, take, get_or}
use Rattle.wit_text.specs.WitnessText.{digit}
use Rattle.wit_text.proofs.writing.push_row.Given as goal

abbrev pub invariant-loop-column : goal.invariant-loop-column
invariant-loop-column l = l.out.items ≡ l.fn.out.items ++ map digit (take l.column (get_or l.rows.rows l.row []))
