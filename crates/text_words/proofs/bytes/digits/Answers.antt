use Rattle.std.proofs.Common.{◌≡◌, min, ◌+◌, ◌*◌, drop, get_or, true, false, [], sym, ap, ◌∙◌, arith}
use Rattle.std.specs.Char.{is_ascii_digit, digit_value}
use Rattle.std.proofs.lemmas.List.{drop_all, take_rest}
use Rattle.text_words.specs.Text.{digits_after, behind_digits}
use Rattle.text_words.proofs.Runs.{digits_after-digit, digits_after-other, behind_digits-digit, behind_digits-other, digits_after-saturates, digit_value-digit}
use Rattle.text_words.proofs.bytes.digits.Goals as goal

pub loop-place-preserved : goal.loop-place-preserved
loop-place-preserved c =
    let bs = c.args.rest.now in
    let i = c.loop-place.place in
    let value = c.loop-place.value in
    let digit : is_ascii_digit (get_or bs i 0) ≡ true = sym c.is_ascii_digit.ensures.value ∙ c.if-not-is_ascii_digit.false in
    let same : min c.saturating_add-value.result 18446744073709551615 ≡ min (value * 10 + digit_value (get_or bs i 0)) 18446744073709551615 = omega (arith, digit_value-digit (get_or bs i 0) digit) in
    record {
      rest = sym (behind_digits-digit i bs c.loop-place-test.true digit) ∙ c.loop-place.invariant.rest;
      value = digits_after-saturates c.saturating_add-value.result (value * 10 + digit_value (get_or bs i 0)) (drop (i + 1) bs) same
          ∙ ap (λ n. min n 18446744073709551615) (sym (digits_after-digit value i bs c.loop-place-test.true digit)) ∙ c.loop-place.invariant.value;
      small = omega arith;
    }

pub returns-then-not-is_ascii_digit : goal.returns-then-not-is_ascii_digit
returns-then-not-is_ascii_digit c =
    let bs = c.args.rest.now in
    let i = c.loop-place.place in
    let other : is_ascii_digit (get_or bs i 0) ≡ false = sym c.is_ascii_digit.ensures.value ∙ c.if-not-is_ascii_digit.true in
    record {
      value = omega (arith, c.loop-place.invariant.value, digits_after-other c.loop-place.value i bs c.loop-place-test.true other, c.loop-place.invariant.small);
      rest = take_rest bs i ∙ sym (behind_digits-other i bs c.loop-place-test.true other) ∙ c.loop-place.invariant.rest;
    }

pub returns : goal.returns
returns c =
    let bs = c.args.rest.now in
    let i = c.loop-place.place in
    let none : drop i bs ≡ [] = drop_all i bs c.loop-place-test.false in
    record {
      value = omega (arith, c.loop-place.invariant.value, ap (digits_after c.loop-place.value) none, c.loop-place.invariant.small);
      rest = sym (ap behind_digits none) ∙ c.loop-place.invariant.rest;
    }
