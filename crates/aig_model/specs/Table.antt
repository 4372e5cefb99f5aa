-- A table of truth values: rows of one width.
use Rattle.std.specs.Prelude.{ℕ, ◌*◌, Bool, List, map, take, drop}
use Rattle.std.specs.List.{range_with_len}

pub record Table : Type 0 where
  pub width : ℕ
  pub rows : List (List Bool)

-- row r of a list of values without gaps
abbrev pub row_of : ℕ → List Bool → ℕ → List Bool
row_of width bits r = take width (drop (r * width) bits)

unfoldable pub rows_of : ℕ → ℕ → List Bool → List (List Bool)
rows_of width len bits = map (row_of width bits) (range_with_len 0 len)
