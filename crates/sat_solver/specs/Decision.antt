-- From where a decision looks for its variable.
use Rattle.std.specs.Prelude.{◌≡◌, ℕ, cond, nat_eq, false, Option, None, Some, List, [], ◌∷◌, All, Contains}
use Rattle.sat_trail.specs.Trail.{Assignment}
use Rattle.sat_queue.specs.Order.{is_unassigned}

-- the variables before one of them
abbrev pub before : ℕ → List ℕ → List ℕ
before v [] = []
before v (x ∷ xs) = cond (nat_eq x v) [] (x ∷ before v xs)

abbrev pub AreAssigned : List Assignment → List ℕ → Type 0
AreAssigned assignments vars = All (λ v. is_unassigned assignments v ≡ false) vars

-- all before this variable are assigned; without one, all are
abbrev pub IsPassed : List ℕ → List Assignment → Option ℕ → Type 0
IsPassed queue assignments None = AreAssigned assignments queue
IsPassed queue assignments (Some v) = Contains queue v × AreAssigned assignments (before v queue)
