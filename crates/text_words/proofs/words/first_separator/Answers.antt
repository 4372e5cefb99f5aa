use Rattle.std.proofs.Common.{length, sym, ◌∙◌, arith}
use Rattle.std.proofs.lemmas.List.Sums.{position_or_len_is}
use Rattle.text_words.specs.Words.{separates}
use Rattle.text_words.proofs.words.first_separator.Goals as goal

pub returns-then-contains-clause-place : goal.returns-then-contains-clause-place
returns-then-contains-clause-place c =
    sym (position_or_len_is (separates c.args.separators) c.args.line.now c.loop-place.place 0 (omega arith) c.loop-place.invariant (λ _. sym c.contains.ensures ∙ c.if-contains.true))

pub returns-clause-place : goal.returns-clause-place
returns-clause-place c =
    sym (position_or_len_is (separates c.args.separators) c.args.line.now (length c.args.line.now) 0 (omega arith) (λ k h. c.loop-place.invariant k (omega arith)) (λ h. absurd (omega arith)))
