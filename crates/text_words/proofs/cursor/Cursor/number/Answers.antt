use Rattle.std.proofs.Common.{◌≡◌, ◌≢◌, min, length, true, false, Some, sym, ap, ◌∙◌, subst, arith}
use Rattle.std.specs.Option.{option_map}
use Rattle.text_words.specs.Numbers.{natural_of}
use Rattle.text_words.specs.Text.{Rest, ends_line, word, is_gap, PassesField, behind_spaces, behind_digits}
use Rattle.text_words.proofs.Fields.{rest_at, natural_of-no_digit, natural_of-no_gap, some-digit, passes-field, length-behind_digits, length-behind_spaces}
use Rattle.text_words.proofs.cursor.Cursor.number.Goals as goal

pub returns-then-rest-self-clause-value : goal.returns-then-rest-self-clause-value
returns-then-rest-self-clause-value c =
    let bs = c.self.inside.rest.now in
    let none = natural_of-no_digit bs (omega (arith, ap length c.digits-value.ensures.rest)) in
    sym (ap (λ o. option_map (λ n. min n 18446744073709551615) o) none) ∙ ap (λ (r : Rest). option_map (λ n. min n 18446744073709551615) (natural_of (word r.bytes))) c.self.view_is

pub returns-then-not-is_gap-clause-value : goal.returns-then-not-is_gap-clause-value
returns-then-not-is_gap-clause-value c =
    let bs = c.self.inside.rest.now in
    let gap : is_gap (behind_digits bs) ≡ false = ap is_gap (sym c.digits-value.ensures.rest) ∙ sym c.is_gap.ensures ∙ c.if-not-is_gap.true in
    let none = natural_of-no_gap bs gap in
    sym (ap (λ o. option_map (λ n. min n 18446744073709551615) o) none) ∙ ap (λ (r : Rest). option_map (λ n. min n 18446744073709551615) (natural_of (word r.bytes))) c.self.view_is

pub invariant_of-self : goal.invariant_of-self
invariant_of-self c =
    omega (arith, ap length c.behind_spaces-self-inside.ensures, length-behind_spaces c.digits-value.result.1.now, ap length c.digits-value.ensures.rest, length-behind_digits c.self.inside.rest.now, c.self.invariant)

pub returns-clause-value : goal.returns-clause-value
returns-clause-value c =
    let bs = c.self.inside.rest.now in
    let gap : is_gap (behind_digits bs) ≡ true = ap is_gap (sym c.digits-value.ensures.rest) ∙ sym c.is_gap.ensures ∙ c.if-not-is_gap.false in
    let some : length (behind_digits bs) ≢ length bs = λ e. c.if-rest-self.false (ap length c.digits-value.ensures.rest ∙ e) in
    ap Some c.digits-value.ensures.value ∙ sym (ap (λ o. option_map (λ n. min n 18446744073709551615) o) (some-digit bs some gap))
    ∙ ap (λ (r : Rest). option_map (λ n. min n 18446744073709551615) (natural_of (word r.bytes))) c.self.view_is

pub returns-clause-passes : goal.returns-clause-passes
returns-clause-passes c =
    let bs = c.self.inside.rest.now in
    let size = c.self.inside.size in
    let gap : is_gap (behind_digits bs) ≡ true = ap is_gap (sym c.digits-value.ensures.rest) ∙ sym c.is_gap.ensures ∙ c.if-not-is_gap.false in
    let same : behind_spaces (behind_digits bs) ≡ c.behind_spaces-self-inside.result.now = sym (c.behind_spaces-self-inside.ensures ∙ ap behind_spaces c.digits-value.ensures.rest) in
    subst (λ (r : Rest). PassesField r (rest_at size c.behind_spaces-self-inside.result.now)) c.self.view_is
    (subst (λ xs. PassesField (rest_at size bs) (rest_at size xs)) same (passes-field size bs c.self.invariant (ap (λ (r : Rest). ends_line r.bytes) c.self.view_is ∙ c.requires) gap))
