use Rattle.std.proofs.Common.{◌≡◌, ◌<◌, ℕ, min, take, get_or, true}
use Rattle.std.specs.Char.{is_ascii_digit}
use Rattle.std.specs.Str.Parse.{digits_value}
use Rattle.text_words.proofs.numbers.natural.Given as goal

abbrev pub invariant-loop-byte : goal.invariant-loop-byte
invariant-loop-byte l = record {
  digits : (k : ℕ) → k < l.byte-index → is_ascii_digit (get_or l.word k 0) ≡ true;
  value : l.value ≡ min (digits_value 10 (take l.byte-index l.word)) 18446744073709551615;
}
