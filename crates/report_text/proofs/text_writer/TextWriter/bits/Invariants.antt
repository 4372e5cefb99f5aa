use Rattle.std.proofs.Common.{◌≡◌, ◌++◌, map, take}
use Rattle.wit_text.specs.WitnessText.{digit}
use Rattle.report_text.proofs.text_writer.TextWriter.bits.Given as goal

abbrev pub invariant-loop-place : goal.invariant-loop-place
invariant-loop-place l = l.self ≡ l.fn.self ++ map digit (take l.place l.bits)
