-- The words of a line.
use Rattle.std.specs.Prelude.{ℕ, Bool, false, true, ◌||◌, List, [], ◌∷◌, filter, ◌==◌, if◌then◌else◌}
use Rattle.std.specs.List.{slice_split}
use Rattle.text_words.specs.declared.words.Separators.{Separators}
use Rattle.text_words.specs.declared.words.Separators.TheVariants.{Spaces, Blanks}

-- whether a byte stands between words: a space, or a space or a tab
abbrev pub separates : Separators → ℕ → Bool
separates Spaces b = b == 32
separates Blanks b = (b == 32) || (b == 9)

abbrev pub is_some_word : List ℕ → Bool
is_some_word [] = false
is_some_word (b ∷ bs) = true

-- the parts between separators that aren't empty
abbrev pub words : Separators → List ℕ → List (List ℕ)
words by line = filter is_some_word (slice_split (separates by) line)

-- a comment begins with the letter c
abbrev pub is_comment : List ℕ → Bool
is_comment [] = false
is_comment (b ∷ bs) = b == 99

-- the words of a line; a comment has none
abbrev pub content : Separators → List ℕ → List (List ℕ)
content by line = if is_comment line then [] else words by line
