-- The lines of a text, by their bytes.
use Rattle.std.specs.Prelude.{ℕ, Bool, false, true, List, [], ◌∷◌, filter, map}
use Rattle.text_words.specs.Text.{Rest, whole, line_bytes, all_lines}

-- whether a line begins before the text's end: behind a newline at the end none does
abbrev pub is_some_line : List ℕ → Bool
is_some_line [] = false
is_some_line (b ∷ bs) = true

-- the bytes of each line, up to the line's end
abbrev pub lines : List ℕ → List (List ℕ)
lines text = map (λ (r : Rest). line_bytes r.bytes) (filter (λ (r : Rest). is_some_line r.bytes) (all_lines (whole text)))
