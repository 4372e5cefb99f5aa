use Rattle.std.proofs.Common.{not, length, sym, ap, ◌∙◌, arith}
use Rattle.std.proofs.lemmas.List.Sums.{position_or_len_is}
use Rattle.text_words.specs.Words.{separates}
use Rattle.text_words.proofs.words.first_of_word.Goals as goal

pub returns-then-not-contains-clause-place : goal.returns-then-not-contains-clause-place
returns-then-not-contains-clause-place c =
    sym (position_or_len_is (λ b. not (separates c.args.separators b)) c.args.line.now c.loop-place.place 0 (omega arith) (λ k h. ap not (c.loop-place.invariant k h)) (λ _. ap not (sym c.contains.ensures ∙ c.if-not-contains.true)))

pub returns-clause-place : goal.returns-clause-place
returns-clause-place c =
    sym (position_or_len_is (λ b. not (separates c.args.separators b)) c.args.line.now (length c.args.line.now) 0 (omega arith) (λ k h. ap not (c.loop-place.invariant k (omega arith))) (λ h. absurd (omega arith)))
