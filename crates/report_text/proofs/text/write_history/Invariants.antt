use Rattle.std.proofs.Common.{◌≡◌, ◌++◌, ◌∷◌, [], length, take}
use Rattle.std.specs.Prelude.{codes}
use Rattle.report_text.specs.Text.{text, number_words, numbered_lines, entry_words}
use Rattle.report_text.proofs.text.write_history.Given as goal

abbrev pub invariant-loop-entry : goal.invariant-loop-entry
invariant-loop-entry l =
    l.out ≡ l.fn.out ++ text (number_words (codes "history") (length l.entries ∷ []) ∷ numbered_lines (λ _ e. entry_words e ∷ []) 0 (take l.entry-index l.entries))
