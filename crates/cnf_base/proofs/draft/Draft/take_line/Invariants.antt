use Rattle.std.proofs.Common.{◌≡◌, map}
use Rattle.text_words.specs.Numbers.{integer_of}
use Rattle.cnf_base.specs.Dimacs.{words_of}
use Rattle.cnf_base.specs.Reading.{with_numbers}
use Rattle.cnf_base.proofs.draft.Draft.take_line.Given as goal

abbrev pub invariant-loop-word : goal.invariant-loop-word
invariant-loop-word l =
    with_numbers l.self (map integer_of l.word-iterator) ≡ with_numbers l.fn.self (map integer_of (words_of l.line))
