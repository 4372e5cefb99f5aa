use Rattle.std.proofs.Common.{◌≡◌, ◌+◌, ◌-◌, ◌++◌}
use Rattle.text_words.specs.Text.{after_lines}
use Rattle.aig_binary.specs.Sections.{latches_demands, latches_of}
use Rattle.aig_binary.proofs.Counted.{SameDemands}
use Rattle.aig_binary.proofs.lines.read_latches.Given as goal

abbrev pub invariant-loop-var : goal.invariant-loop-var
invariant-loop-var l = record {
  demands : SameDemands (latches_demands l.top l.var (l.first + l.count - l.var) l.cursor) (latches_demands l.top l.first l.count l.fn.cursor);
  latches : l.latches ++ latches_of l.var (l.first + l.count - l.var) l.cursor ≡ latches_of l.first l.count l.fn.cursor;
  next : after_lines (l.first + l.count - l.var) l.cursor ≡ after_lines l.count l.fn.cursor;
}
