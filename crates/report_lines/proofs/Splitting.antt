-- The words of a line, from the first on.
use Rattle.std.proofs.Common.{◌≡◌, ℕ, ◌+◌, ◌<◌, ◌≤◌, Bool, List, [], ◌∷◌, length, take, drop, arith}
use Rattle.std.specs.Prelude.{◌==◌}
use Rattle.std.specs.List.{slice_split, position_or_len}
use Rattle.std.proofs.lemmas.List.Splits.{slice_split_first, slice_split_none}
use Rattle.std.proofs.lemmas.List.Sums.{fails_before_first}
use Rattle.report_lines.specs.Words.{parts}

-- the first word ends before a space
pub parts_first : (bytes : List ℕ) → position_or_len (λ b. b == 32) bytes < length bytes
    → parts bytes ≡ take (position_or_len (λ b. b == 32) bytes) bytes ∷ parts (drop (position_or_len (λ b. b == 32) bytes + 1) bytes)
parts_first bytes inside = slice_split_first (λ b. b == 32) bytes 0 inside

-- or it is the only one
pub parts_only : (bytes : List ℕ) → length bytes ≤ position_or_len (λ b. b == 32) bytes → parts bytes ≡ bytes ∷ []
parts_only bytes whole = slice_split_none (λ b. b == 32) bytes (λ k d h. fails_before_first (λ b. b == 32) bytes k d (omega arith))

pub ruleset split_words = (parts_first, parts_only)
