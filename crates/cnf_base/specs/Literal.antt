-- Where what belongs to a literal stands in a list: two places for each variable, its own and its negation's.
use Rattle.std.specs.Prelude.{ℕ, ◌+◌, ◌*◌, ℤ, pos, negsuc}

abbrev pub lit_index : ℤ → ℕ
lit_index (pos n) = 2 * n
lit_index (negsuc n) = 2 * (n + 1) + 1
