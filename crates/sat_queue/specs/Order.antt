-- The order in which variables are taken: a list of all of them.
use Rattle.std.specs.Prelude.{ℕ, ◌<◌, ◌≤◌, Bool, cond, not, nat_eq, is_none, Option, None, List, [], ◌∷◌, length, filter, slice_get, All}
use Rattle.std.specs.List.{IsDistinct}
use Rattle.sat_trail.specs.Trail.{Assignment, assignment_of}

-- the variables 1 up to as many as the list has, each once
pub record IsOrder (vars : List ℕ) : Type 0 where
  pub distinct : IsDistinct nat_eq vars
  pub in_range : All (λ v. (0 < v) × (v ≤ length vars)) vars

-- the list with one variable moved to the front, and the others in their order
abbrev pub with_front : ℕ → List ℕ → List ℕ
with_front v vars = v ∷ filter (λ x. not (nat_eq x v)) vars

-- the list from a variable on
abbrev pub from_on : ℕ → List ℕ → List ℕ
from_on v [] = []
from_on v (x ∷ xs) = cond (nat_eq x v) (x ∷ xs) (from_on v xs)

-- the variable after another one
abbrev pub follower : ℕ → List ℕ → Option ℕ
follower v [] = None
follower v (x ∷ xs) = cond (nat_eq x v) (slice_get xs 0) (follower v xs)

-- whether nothing on a trail assignments the variable there
abbrev pub is_unassigned : List Assignment → ℕ → Bool
is_unassigned assignments v = is_none (assignment_of v assignments)
