use Rattle.std.proofs.Common.{◌≡◌, ◌++◌, ◌∷◌, [], length, take}
use Rattle.std.specs.Prelude.{codes}
use Rattle.report_text.specs.Text.{text, number_words, numbered_lines, seed_lines}
use Rattle.report_text.proofs.seed_text.write_seeds.Given as goal

abbrev pub invariant-loop-batch : goal.invariant-loop-batch
invariant-loop-batch l = l.out ≡ l.fn.out ++ text (number_words (codes "seeds") (length l.seeds ∷ []) ∷ numbered_lines seed_lines 0 (take l.batch l.seeds))
