use Rattle.std.proofs.Common.{◌≡◌, ◌≢◌, length, Some, None, sym, ap, ◌∙◌, option_and_then, arith}
use Rattle.std.proofs.lemmas.Bool.Decides.{nat_tests}
use Rattle.text_words.specs.Text.{behind_digits, digits_after}
use Rattle.aig_ascii.specs.Symbols.{place_at, name_behind, named, symbol_of}
use Rattle.aig_ascii.specs.SymbolTables.{if_exists, exists_symbol}
use Rattle.aig_ascii.proofs.SymbolLines.{leading-none, leading-some, named-none, exists-none, exists-some, within-cut, symbol_of-parts, some-name}
use Rattle.aig_ascii.proofs.symbols.existing_symbol.Goals as goal

pub returns-then-behind_index-behind_letter : goal.returns-then-behind_index-behind_letter
returns-then-behind_index-behind_letter c =
    let bs = c.in_ok-letter.behind_letter.now in
    let letter = c.in_ok-letter.letter.now in
    let none = leading-none bs (ap length (sym c.digits-index.ensures.rest) ∙ c.if-behind_index-behind_letter.true) in
    ap (λ l. exists_symbol c.args.sizes (symbol_of l)) c.in_ok-letter.ensures.cases.0
    ∙ ap (λ o. exists_symbol c.args.sizes (named (option_and_then (place_at letter) o) (name_behind (behind_digits bs)))) none
    ∙ ap (exists_symbol c.args.sizes) (named-none (name_behind (behind_digits bs)))

pub returns-in_err-place : goal.returns-in_err-place
returns-in_err-place c =
    let bs = c.in_ok-letter.behind_letter.now in
    let name = c.in_ok-space.name.now in
    let n = digits_after 0 bs in
    let letter = c.in_ok-letter.letter.now in
    let some : length (behind_digits bs) ≢ length bs = λ e. c.if-behind_index-behind_letter.false (ap length c.digits-index.ensures.rest ∙ e) in
    let spelled = symbol_of-parts c.args.line.now bs name letter c.in_ok-space.space.now n c.in_ok-letter.ensures.cases.0 (leading-some bs some) (sym c.digits-index.ensures.rest ∙ c.in_ok-space.ensures.cases.0)
    c.if-space-ne32.false (some-name name (λ e. grind (arith, nat_tests, c.is_empty.ensures, c.if-is_empty.false))) in
    let none : if_exists c.args.sizes (place_at letter n) ≡ None = sym (within-cut c.args.sizes letter n c.digits-index.result.0 c.requires c.digits-index.ensures.value) ∙ sym c.place_within.ensures ∙ c.in_err-place.was in
    rw c.from_residual-in_err-place.ensures (ap (exists_symbol c.args.sizes) spelled ∙ exists-none c.args.sizes (place_at letter n) name none)

pub returns : goal.returns
returns c =
    let bs = c.in_ok-letter.behind_letter.now in
    let name = c.in_ok-space.name.now in
    let n = digits_after 0 bs in
    let letter = c.in_ok-letter.letter.now in
    let some : length (behind_digits bs) ≢ length bs = λ e. c.if-behind_index-behind_letter.false (ap length c.digits-index.ensures.rest ∙ e) in
    let spelled = symbol_of-parts c.args.line.now bs name letter c.in_ok-space.space.now n c.in_ok-letter.ensures.cases.0 (leading-some bs some) (sym c.digits-index.ensures.rest ∙ c.in_ok-space.ensures.cases.0)
    c.if-space-ne32.false (some-name name (λ e. grind (arith, nat_tests, c.is_empty.ensures, c.if-is_empty.false))) in
    let place = exists-some c.args.sizes (place_at letter n) c.in_ok-place.place
    (sym (within-cut c.args.sizes letter n c.digits-index.result.0 c.requires c.digits-index.ensures.value) ∙ sym c.place_within.ensures ∙ c.in_ok-place.was) in
    (spelled ∙ ap (λ o. named o (Some name)) place.0, place.1)
