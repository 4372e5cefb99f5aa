use Rattle.std.proofs.Common.{◌≡◌, drop}
use Rattle.text_words.specs.Text.{ends_line}
use Rattle.text_words.proofs.bytes.ends_line.Given as goal

abbrev pub invariant-loop-byte : goal.invariant-loop-byte
invariant-loop-byte l = ends_line (drop l.byte-index l.rest) ≡ ends_line l.rest
