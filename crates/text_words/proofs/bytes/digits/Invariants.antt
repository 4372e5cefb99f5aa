use Rattle.std.proofs.Common.{◌≡◌, ◌≤◌, drop, min}
use Rattle.text_words.specs.Text.{digits_after, behind_digits}
use Rattle.text_words.proofs.bytes.digits.Given as goal

abbrev pub invariant-loop-place : goal.invariant-loop-place
invariant-loop-place l = record {
  rest : behind_digits (drop l.place l.rest) ≡ behind_digits l.rest;
  value : min (digits_after l.value (drop l.place l.rest)) 18446744073709551615 ≡ min (digits_after 0 l.rest) 18446744073709551615;
  small : l.value ≤ 18446744073709551615;
}
