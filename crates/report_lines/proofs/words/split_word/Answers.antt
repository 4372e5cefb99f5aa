use Rattle.std.proofs.Common.{◌≡◌, ℕ, ◌+◌, ◌∷◌, take, drop, sym, ap, ◌∙◌, subst, arith}
use Rattle.std.specs.Prelude.{◌==◌}
use Rattle.std.specs.List.{position_or_len}
use Rattle.std.proofs.lemmas.List.{take_rest}
use Rattle.report_lines.specs.Words.{parts}
use Rattle.report_lines.proofs.Splitting.{parts_first}
use Rattle.report_lines.proofs.words.split_word.Goals as goal

pub returns-then-end-line : goal.returns-then-end-line
returns-then-end-line c =
    let line = c.args.line.now in
    let end = c.first_space-end.result in
    let is : end ≡ position_or_len (λ b. b == 32) line = c.first_space-end.ensures.place in
    let P : ℕ → Type 0 = λ n. parts line ≡ take n line ∷ parts (drop (n + 1) line) in
    let first : P end = subst P (sym is) (parts_first line (omega arith)) in
    first ∙ ap (λ rest. take end line ∷ parts rest) (sym (take_rest line (end + 1)))
