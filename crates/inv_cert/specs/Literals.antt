-- The latch of a clause's literal, and its sign.
use Rattle.std.specs.Prelude.{ℕ, zero, suc, Bool, true, false, ℤ, pos, negsuc}

-- the latch that a literal names; 0 names none
abbrev pub latch_of : ℤ → ℕ
latch_of (pos zero) = 0
latch_of (pos (suc k)) = k
latch_of (negsuc k) = k

abbrev pub is_negated : ℤ → Bool
is_negated (pos n) = false
is_negated (negsuc k) = true
