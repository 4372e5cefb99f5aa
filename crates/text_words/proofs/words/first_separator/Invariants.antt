use Rattle.std.proofs.Common.{◌≡◌, ◌<◌, ℕ, get_or, false}
use Rattle.text_words.specs.Words.{separates}
use Rattle.text_words.proofs.words.first_separator.Given as goal

abbrev pub invariant-loop-place : goal.invariant-loop-place
invariant-loop-place l = (k : ℕ) → k < l.place → separates l.separators (get_or l.line k 0) ≡ false
