use Rattle.std.proofs.Common.{◌∷◌, take, sym, ap, ◌∙◌, arith}
use Rattle.std.proofs.lemmas.List.{take_rest}
use Rattle.text_words.specs.Words.{words}
use Rattle.text_words.proofs.Splitting.{words-first, first_separator-later}
use Rattle.text_words.proofs.words.split_word.Goals as goal

pub returns : goal.returns
returns c =
    let line = c.args.line.now in
    let by = c.args.separators in
    let end = c.first_separator-end.result in
    let later = first_separator-later by line c.requires.some c.requires.begins in
    words-first by line end c.first_separator-end.ensures.place (omega arith) c.first_separator-end.ensures.within
    ∙ ap (λ rest. take end line ∷ words by rest) (sym (take_rest line end))
