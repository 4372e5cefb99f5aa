use Rattle.std.proofs.Common.{◌≡◌, ◌<◌, Some, min, length, get_or, true, sym, ap, ◌∙◌, arith, below_more}
use Rattle.std.specs.Char.{is_ascii_digit}
use Rattle.std.specs.Option.{option_map}
use Rattle.std.specs.Str.Parse.{digits_value}
use Rattle.std.proofs.lemmas.List.{take_all}
use Rattle.std.proofs.lemmas.Int.Digits.{digits_value_more}
use Rattle.std.proofs.lemmas.Bool.Decides.{nat_tests}
use Rattle.text_words.proofs.NaturalWords.{natural_of-digits, natural_of-other, digit_value-digit}
use Rattle.text_words.proofs.numbers.natural.Goals as goal

pub returns-then-not-is_ascii_digit : goal.returns-then-not-is_ascii_digit
returns-then-not-is_ascii_digit c =
    ap (option_map (λ n. min n 18446744073709551615))
    (sym (natural_of-other c.args.word.now c.loop-byte.byte-index c.loop-byte-test.true (sym c.is_ascii_digit.ensures.value ∙ c.if-not-is_ascii_digit.true)))

pub loop-byte-preserved : goal.loop-byte-preserved
loop-byte-preserved c =
    let digit : is_ascii_digit (get_or c.args.word.now c.loop-byte.byte-index 0) ≡ true = sym c.is_ascii_digit.ensures.value ∙ c.if-not-is_ascii_digit.false in
    let longer = digits_value_more 10 c.args.word.now c.loop-byte.byte-index c.loop-byte-test.true in
    let value = digit_value-digit (get_or c.args.word.now c.loop-byte.byte-index 0) digit in
    record {
      digits = below_more _ _ c.loop-byte.invariant.digits digit;
      value = omega (arith, longer, value.1);
    }

pub returns : goal.returns
returns c =
    let word = c.args.word.now in
    let some : 0 < length word = grind (arith, nat_tests) in
    let whole = natural_of-digits word some (λ k h. c.loop-byte.invariant.digits k (omega arith)) in
    ap Some (c.loop-byte.invariant.value ∙ ap (λ t. min (digits_value 10 t) 18446744073709551615) (take_all c.loop-byte.byte-index word c.loop-byte-test.false))
    ∙ ap (option_map (λ n. min n 18446744073709551615)) (sym whole)
