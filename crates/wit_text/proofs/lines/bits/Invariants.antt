use Rattle.std.proofs.Common.{◌≡◌, Some, take}
use Rattle.wit_text.specs.Reading.{values_of}
use Rattle.wit_text.proofs.lines.bits.Given as goal

abbrev pub invariant-loop-byte : goal.invariant-loop-byte
invariant-loop-byte l = values_of (take l.byte-index l.line) ≡ Some l.bits
