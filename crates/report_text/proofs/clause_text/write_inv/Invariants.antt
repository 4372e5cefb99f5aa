use Rattle.std.proofs.Common.{◌≡◌, ◌∷◌, ◌++◌, [], length, take}
use Rattle.std.specs.Prelude.{codes}
use Rattle.report_text.specs.Text.{text, number_words, kept_lines}
use Rattle.report_text.proofs.clause_text.write_inv.Given as goal

abbrev pub invariant-loop-place : goal.invariant-loop-place
invariant-loop-place l =
    l.out ≡ l.fn.out ++ text (number_words (codes "inv") (length l.inv.clauses ∷ []) ∷ kept_lines (take l.place l.inv.clauses) (take l.place l.inv.kept))
