use Rattle.std.proofs.Common.{sym, arith}
use Rattle.report_lines.proofs.Newlines.{line_ends, no_line}
use Rattle.report_lines.proofs.lines.front.Goals as goal

pub returns-then-byte-eq10 : goal.returns-then-byte-eq10
returns-then-byte-eq10 c = sym (line_ends c.args.rest.now c.loop-place.place (omega arith) c.loop-place.invariant (omega arith))

pub returns : goal.returns
returns c = sym (no_line c.args.rest.now (λ k h. c.loop-place.invariant k (omega arith)))
