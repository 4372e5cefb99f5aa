-- Truth values kept 64 to a word.
use Rattle.std.specs.Prelude.{ℕ, ◌/◌, ◌%◌, Bool, nat_eq, List, get_or, map}
use Rattle.std.specs.Int.{bit_at}
use Rattle.std.specs.List.{range_with_len}

-- value i is bit i mod 64 of word i div 64
abbrev pub bit_of : List ℕ → ℕ → Bool
bit_of words i = nat_eq (bit_at (get_or words (i / 64) 0) (i % 64)) 1

unfoldable pub unpacked : List ℕ → ℕ → List Bool
unpacked words len = map (bit_of words) (range_with_len 0 len)
