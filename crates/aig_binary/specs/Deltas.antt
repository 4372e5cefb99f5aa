-- Deltas (AIGER 1.9): groups of seven bits, the lowest first, a byte each; every byte but the last has its top bit (128) set.
use Rattle.std.specs.Prelude.{ℕ, zero, suc, ◌+◌, ◌*◌, ◌/◌, ◌%◌, Bool, not, ◌&&◌, nat_lt, nat_le, if◌then◌else◌, List, [], ◌∷◌, length}
use Rattle.std.specs.List.{list_any}
use Rattle.text_words.specs.Text.{Rest}

-- ---- read

-- whether a byte is the last one of a delta
abbrev pub is_last : ℕ → Bool
is_last b = nat_lt b 128

-- the bytes of the delta at the front, up to its last one or to the file's end
abbrev pub delta_bytes : List ℕ → List ℕ
delta_bytes [] = []
delta_bytes (b ∷ bs) = if is_last b then b ∷ [] else b ∷ delta_bytes bs

-- what follows them
abbrev pub behind_bytes : List ℕ → List ℕ
behind_bytes [] = []
behind_bytes (b ∷ bs) = if is_last b then bs else behind_bytes bs

-- the number that groups spell
abbrev pub groups_value : List ℕ → ℕ
groups_value [] = 0
groups_value (b ∷ bs) = b % 128 + 128 * groups_value bs

abbrev pub delta_value : List ℕ → ℕ
delta_value bytes = groups_value (delta_bytes bytes)

-- the file ends before the delta does, and before a byte too many
abbrev pub is_cut : List ℕ → Bool
is_cut bytes = not (list_any is_last bytes) && nat_lt (length bytes) 5

-- the delta has its last byte, and at most five bytes
abbrev pub is_short : List ℕ → Bool
is_short bytes = list_any is_last bytes && nat_le (length (delta_bytes bytes)) 5

abbrev pub behind_delta : Rest → Rest
behind_delta r = record { at = r.at + length (delta_bytes r.bytes); bytes = behind_bytes r.bytes }

-- ---- written

-- a number in as few groups as it takes, so many and one at most
abbrev pub groups : ℕ → ℕ → List ℕ
groups zero n = n ∷ []
groups (suc more) n = if nat_lt n 128 then n ∷ [] else (n % 128 + 128) ∷ groups more (n / 128)

-- a number below 2 ^ 32, which takes at most five
unfoldable pub delta_text : ℕ → List ℕ
delta_text n = groups 4 n
