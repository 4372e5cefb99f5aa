use Rattle.std.proofs.Common.{◌≡◌, ◌+◌, length}
use Rattle.cnf_base.specs.Reading.{header_in}
use Rattle.cnf_base.proofs.header.find_header.Given as goal

abbrev pub invariant-loop-line : goal.invariant-loop-line
invariant-loop-line l = record {
  count : l.number + length l.lines ≡ length l.fn.lines;
  same : header_in l.number l.lines ≡ header_in 0 l.fn.lines;
}

abbrev pub decreases-loop-line : goal.decreases-loop-line
decreases-loop-line l = length l.lines
