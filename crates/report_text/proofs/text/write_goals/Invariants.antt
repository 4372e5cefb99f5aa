use Rattle.std.proofs.Common.{◌≡◌, ◌++◌, ◌∷◌, [], length, take}
use Rattle.std.specs.Prelude.{codes}
use Rattle.report_text.specs.Text.{text, number_words, numbered_lines, block_lines}
use Rattle.report_text.proofs.text.write_goals.Given as goal

abbrev pub invariant-loop-goal : goal.invariant-loop-goal
invariant-loop-goal l = l.out ≡ l.fn.out ++ text (number_words (codes "goals") (length l.blocks ∷ []) ∷ numbered_lines block_lines 0 (take l.goal l.blocks))
