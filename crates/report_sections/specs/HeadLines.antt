-- The lines of a report's head and its last line, by what they tell.
use Rattle.std.specs.Prelude.{◌≡◌, ℕ, ◌<◌, ◌^◌, codes, [], ◌∷◌}
use Rattle.report_text.specs.Text.{Line, number_words}
use Rattle.report_sections.specs.declared.head.Size.{Size}
use Rattle.report_sections.specs.declared.head.Counts.{Counts}

abbrev pub IsVersion : ℕ → Type 0
IsVersion n = n ≡ 1

abbrev pub title_words : ℕ → Line
title_words n = number_words (codes "ketch") (n ∷ [])

pub record FitsSize (s : Size) : Type 0 where
  pub inputs : s.inputs < 2 ^ 32
  pub latches : s.latches < 2 ^ 32
  pub signals : s.signals < 2 ^ 32

abbrev pub size_words : Size → Line
size_words s = number_words (codes "size") (s.inputs ∷ s.latches ∷ s.signals ∷ [])

pub record FitsCounts (c : Counts) : Type 0 where
  pub reached : c.reached < 2 ^ 32
  pub unreachable : c.unreachable < 2 ^ 32
  pub unsettled : c.unsettled < 2 ^ 32

abbrev pub end_words : Counts → Line
end_words c = number_words (codes "end") (c.reached ∷ c.unreachable ∷ c.unsettled ∷ [])
