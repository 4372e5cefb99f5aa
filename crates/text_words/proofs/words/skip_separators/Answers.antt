use Rattle.std.proofs.Common.{◌≡◌, ◌<◌, ℕ, true, not, length, drop, get_or, sym, ap, subst, ◌∙◌, arith, length-drop, add-zero}
use Rattle.std.proofs.lemmas.List.{take_rest, get_or-drop}
use Rattle.std.proofs.lemmas.List.Sums.{passes_at_first}
use Rattle.text_words.specs.Words.{separates, words}
use Rattle.text_words.proofs.Splitting.{words-skip, false_from_not}
use Rattle.text_words.proofs.words.skip_separators.Goals as goal

pub returns-clause-same : goal.returns-clause-same
returns-clause-same c =
    let line = c.args.line.now in
    let by = c.args.separators in
    ap (words by) (take_rest line c.first_of_word-start.result)
    ∙ ap (λ n. words by (drop n line)) c.first_of_word-start.ensures.place
    ∙ words-skip by line

pub returns-clause-begins : goal.returns-clause-begins
returns-clause-begins c some =
    let line = c.args.line.now in
    let by = c.args.separators in
    let start = c.first_of_word-start.result in
    let rest = take_rest line start in
    let inside : start < length line = omega (arith, ap length rest, length-drop start line) in
    let P : ℕ → Type 0 = λ n. not (separates by (get_or line n 0)) ≡ true in
    let passes = subst P (sym c.first_of_word-start.ensures.place) (passes_at_first (λ b. not (separates by b)) line 0 (omega arith)) in
    ap (λ xs. separates by (get_or xs 0 0)) rest ∙ ap (separates by) (get_or-drop start line 0 0 ∙ ap (λ n. get_or line n 0) (add-zero start)) ∙ false_from_not _ passes
