-- Steps of the walk over the hints.
use Rattle.std.specs.Prelude.{ℕ, ℤ, pos, negsuc, Option, Some, None}

-- the id that a hint names
abbrev pub named_id : ℤ → Option ℕ
named_id (pos id) = Some id
named_id (negsuc n) = None
