-- Lists of goals in rising order.
use Rattle.std.specs.Prelude.{ℕ, ◌+◌, ◌<◌, ◌≡◌, List, length, slice_index}

-- the goal is above the last one of the list, if there is one
abbrev pub IsAboveLast : List ℕ → ℕ → Type 0
IsAboveLast goals goal = (k : ℕ) → k + 1 ≡ length goals → slice_index goals k < goal
