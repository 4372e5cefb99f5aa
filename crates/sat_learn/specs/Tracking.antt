-- What is known of the marks while a conflict is resolved down to the first unique implication point.
use Rattle.std.specs.Prelude.{◌≡◌, ℕ, ◌+◌, ◌<◌, ◌≤◌, IsTrue, Bool, false, ◌&&◌, nat_eq, ℤ, neg_ℤ, nat_abs, List, ◌∷◌, if◌then◌else◌, length, map, count_by, slice_index_or, ◌⊎◌}
use Rattle.std.specs.List.{IsDistinct, list_any}
use Rattle.cnf_base.specs.Status.{has}
use Rattle.sat_trail.specs.Trail.{Assignment, TrailState, lits}
use Rattle.sat_learn.specs.Resolving.{is_marked, StandsAt, IsFalseAt}

-- whether an assignment is marked and of this level
abbrev pub is_open : ℕ → List Bool → Assignment → Bool
is_open level marks p = is_marked marks p.lit && nat_eq p.level level

-- a marked variable is assigned: at level 0, where one of its literals is kept too, at the present level, or its false literal
-- is kept
pub record IsFiled (t : TrailState) (kept root_lits : List ℤ) (var : ℕ) : Type 0 where
  pub assignment : Assignment
  pub place : ℕ
  pub stands : StandsAt t.assignments place assignment
  pub of_var : nat_abs assignment.lit ≡ var
  pub filed : (IsTrue (list_any (nat_eq var) (map nat_abs root_lits)) × (assignment.level ≡ 0)) ⊎ (IsTrue (has kept (neg_ℤ assignment.lit)) ⊎ (assignment.level ≡ t.level))

-- a literal is false at a level between 0 and the present one
pub record IsBetween (t : TrailState) (l : ℤ) : Type 0 where
  pub level : ℕ
  pub false_at : IsFalseAt t.assignments l level
  pub above_root : 0 < level
  pub below_present : level < t.level

-- a literal is marked, or false at a level below the present one
abbrev pub IsEarlier : TrailState → List Bool → ℤ → Type 0
IsEarlier t marks l = IsTrue (is_marked marks l) ⊎ ((level : ℕ) × IsFalseAt t.assignments l level × (level < t.level))

-- the marked variables, the literals that are or were kept, those of level 0 that are or were, and how many variables of the
-- present level are marked
pub record IsTracked (t : TrailState) (marks : List Bool) (kept root_lits : List ℤ) (open_count : ℕ) : Type 0 where
  pub above : 0 < t.level
  pub room : length marks ≡ t.vars + 1
  pub filed : (v : ℕ) → IsTrue (slice_index_or marks v false) → IsFiled t kept root_lits v
  pub between : (l : ℤ) → IsTrue (has kept l) → IsBetween t l
  pub roots_false : (l : ℤ) → IsTrue (has root_lits l) → IsTrue (has (lits t.assignments) (neg_ℤ l))
  pub number : open_count ≡ count_by (is_open t.level marks) t.assignments

-- a level that no kept literal is above, and that one has where it isn't 0
pub record IsGreatestLevel (t : TrailState) (kept : List ℤ) (level : ℕ) : Type 0 where
  pub covers : (l : ℤ) → IsTrue (has kept l) → (low : ℕ) × (low ≤ level) × IsFalseAt t.assignments l low
  pub reached : (level ≡ 0) ⊎ ((l : ℤ) × IsTrue (has kept l) × IsFalseAt t.assignments l level)

-- the literal at a place is marked and of the present level
pub record IsFirstUip (t : TrailState) (marks : List Bool) (place : ℕ) : Type 0 where
  pub assignment : Assignment
  pub stands : StandsAt t.assignments place assignment
  pub marked : IsTrue (is_marked marks assignment.lit)
  pub at_level : assignment.level ≡ t.level

-- it is the one of the present level, and beside it some of those that were kept are marked
pub record IsMinimized (t : TrailState) (marks : List Bool) (kept : List ℤ) (place : ℕ) : Type 0 where
  pub above : 0 < t.level
  pub room : length marks ≡ t.vars + 1
  pub first_uip : IsFirstUip t marks place
  pub marked : (v : ℕ) → IsTrue (slice_index_or marks v false) → (nat_abs first_uip.assignment.lit ≡ v) ⊎ IsTrue (list_any (nat_eq v) (map nat_abs kept))
  pub between : (l : ℤ) → IsTrue (has kept l) → IsBetween t l

-- the first literal and those of the kept ones that are marked, each variable once; they aren't marked any more
pub record IsTaken (old new : List Bool) (kept : List ℤ) (first : ℤ) (taken : List ℤ) : Type 0 where
  pub others : List ℤ
  pub form : taken ≡ first ∷ others
  pub from_kept : (l : ℤ) → IsTrue (has others l) → IsTrue (has kept l)
  pub distinct : IsDistinct nat_eq (map nat_abs taken)
  pub unmarked : (v : ℕ) → slice_index_or new v false ≡ (if list_any (nat_eq v) (map nat_abs taken) then false else slice_index_or old v false)
  pub covers : (l : ℤ) → IsTrue (has kept l) → IsTrue (is_marked old l) → IsTrue (list_any (nat_eq (nat_abs l)) (map nat_abs taken))

-- one literal of the present level is marked, at this place, and beside it those that are kept, each variable once
pub record IsResolved (t : TrailState) (marks : List Bool) (kept : List ℤ) (place : ℕ) (first : ℤ) : Type 0 where
  pub room : length marks ≡ t.vars + 1
  pub above : 0 < t.level
  pub assignment : Assignment
  pub stands : StandsAt t.assignments place assignment
  pub at_level : assignment.level ≡ t.level
  pub negated : first ≡ neg_ℤ assignment.lit
  pub marked : (v : ℕ) → IsTrue (slice_index_or marks v false) → (nat_abs assignment.lit ≡ v) ⊎ IsTrue (list_any (nat_eq v) (map nat_abs kept))
  pub kept_false : (l : ℤ) → IsTrue (has kept l) → (level : ℕ) × IsFalseAt t.assignments l level × (0 < level) × (level < t.level)
  pub distinct : IsDistinct nat_eq (map nat_abs kept)

-- these are the literal at a place, negated, and then those that are marked beside it; they aren't marked any more
pub record IsDrawn (t : TrailState) (old new : List Bool) (place : ℕ) (ls : List ℤ) : Type 0 where
  pub first : ℤ
  pub others : List ℤ
  pub form : ls ≡ first ∷ others
  pub resolved : IsResolved t old others place first
  pub unmarked : (v : ℕ) → slice_index_or new v false ≡ (if list_any (nat_eq v) (map nat_abs (first ∷ others)) then false else slice_index_or old v false)
