-- Counts that stop at the end of 64 bits.
use Rattle.std.specs.Prelude.{ℕ, ◌+◌, ◌-◌, ◌^◌, ◌≤◌, min, max}

-- the count after this one; the last stays
abbrev pub next_count : ℕ → ℕ
next_count count = min (count + 1) (2 ^ 64 - 1)

-- a count rose, or stands at its end
abbrev pub Rose : ℕ → ℕ → Type 0
Rose before now = next_count before ≤ now

-- a count never falls, and goes no further than its end
abbrev pub CountsOn : ℕ → ℕ → Type 0
CountsOn before now = (before ≤ now) × (now ≤ max before (2 ^ 64 - 1))
