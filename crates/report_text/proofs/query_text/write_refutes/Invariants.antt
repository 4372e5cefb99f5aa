use Rattle.std.proofs.Common.{◌≡◌, ◌++◌, ◌∷◌, [], length, take}
use Rattle.std.specs.Prelude.{codes}
use Rattle.report_text.specs.Text.{text, number_words, numbered_lines, query_lines}
use Rattle.report_text.proofs.query_text.write_refutes.Given as goal

abbrev pub invariant-loop-block : goal.invariant-loop-block
invariant-loop-block l = l.out ≡ l.fn.out ++ text (number_words (codes "refutes") (length l.blocks ∷ []) ∷ numbered_lines (λ _ b. query_lines (codes "refute") b) 0 (take l.block-index l.blocks))
