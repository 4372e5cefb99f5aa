-- Lists of the users of each place, linked from the last user to the first.
use Rattle.std.specs.Prelude.{ℕ, ◌+◌, ◌-◌, ◌<◌, ◌≤◌, ◌≡◌, ◌≢◌, List, length, get_or, All}

-- the greatest user of a place among those below a bound, counted from 1, or 0 for none
pub record IsLastUser (uses : List ℕ) (bound place last : ℕ) : Type 0 where
  pub within : last ≤ bound
  pub user : 0 < last → get_or uses (last - 1) 0 ≡ place + 1
  pub none : (u : ℕ) → last ≤ u → u < bound → get_or uses u 0 ≢ place + 1

-- the last user of each place among those below a bound, and before each of these users the next earlier one
pub record AreLinked (uses : List ℕ) (bound : ℕ) (lasts earlier : List ℕ) : Type 0 where
  pub lasts_size : length lasts ≡ length uses
  pub earlier_size : length earlier ≡ length uses
  pub last : (place : ℕ) → place < length uses → IsLastUser uses bound place (get_or lasts place 0)
  pub before : (user place : ℕ) → user < bound → get_or uses user 0 ≡ place + 1 → IsLastUser uses user place (get_or earlier user 0)

-- each use names a place of the list
abbrev pub AreWithin : List ℕ → Type 0
AreWithin uses = All (λ named. named ≤ length uses) uses
