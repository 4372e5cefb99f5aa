use Rattle.std.proofs.Common.{◌≡◌, ◌++◌, ◌∷◌, [], length, take}
use Rattle.std.specs.Prelude.{codes}
use Rattle.report_text.specs.Text.{text, number_words, numbered_lines, inv_lines}
use Rattle.report_text.proofs.clause_text.write_invs.Given as goal

abbrev pub invariant-loop-inv : goal.invariant-loop-inv
invariant-loop-inv l = l.out ≡ l.fn.out ++ text (number_words (codes "invs") (length l.invs ∷ []) ∷ numbered_lines (λ _ i. inv_lines i) 0 (take l.inv-index l.invs))
