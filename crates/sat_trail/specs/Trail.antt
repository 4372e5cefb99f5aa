-- The trail: the literals that are true, in the order in which they were put, each with its level and its reason.
use Rattle.std.specs.Prelude.{◌≡◌, ℕ, ◌+◌, ◌≤◌, cond, nat_eq, nat_le, ℤ, neg_ℤ, nat_abs, Option, Some, None, List, [], ◌∷◌, length, map, filter, find, All}
use Rattle.std.specs.List.{IsDistinct}
use Rattle.cnf_base.specs.Status.{has}
use Rattle.cnf_base.specs.Dimacs.{IsLiteral}
use Rattle.sat_trail.specs.declared.clause_id.ClauseId.{ClauseId}
use Rattle.sat_trail.specs.declared.truth.Value.{Value}
use Rattle.sat_trail.specs.declared.truth.Value.TheVariants.{True, False, Unset}

-- a literal with its level, and the clause that was unit there; a decision has none
pub record Assignment : Type 0 where
  pub lit : ℤ
  pub level : ℕ
  pub reason : Option ClauseId

-- the literals put so far over the variables 1 to vars, the present level, and the least number of literals since the mark
pub record TrailState : Type 0 where
  pub vars : ℕ
  pub assignments : List Assignment
  pub level : ℕ
  pub low : ℕ

abbrev pub lits : List Assignment → List ℤ
lits assignments = map (λ p. p.lit) assignments

abbrev pub levels : List Assignment → List ℕ
levels assignments = map (λ p. p.level) assignments

-- the literals up to a level
abbrev pub upto : ℕ → List Assignment → List Assignment
upto level assignments = filter (λ p. nat_le p.level level) assignments

-- a literal's value where these are true
abbrev pub value_in : List ℤ → ℤ → Value
value_in true_lits l = cond (has true_lits l) True (cond (has true_lits (neg_ℤ l)) False Unset)

-- what put a variable there
abbrev pub assignment_of : ℕ → List Assignment → Option Assignment
assignment_of var assignments = find (λ p. nat_eq (nat_abs p.lit) var) assignments

-- an assignment of this variable has this reason, and any other is as it was
abbrev pub with_reason : ℕ → ClauseId → Assignment → Assignment
with_reason var reason p = cond (nat_eq (nat_abs p.lit) var) (record { lit = p.lit; level = p.level; reason = Some reason }) p

-- ---- what holds of every trail

-- a decision begins the next level, and any other literal stays at the present one
abbrev pub Joins : ℕ → ℕ → Option ClauseId → Type 0
Joins present level None = level ≡ present + 1
Joins present level (Some reason) = level ≡ present

-- from one level to another, assignment by assignment
abbrev pub Climbs : ℕ → List Assignment → ℕ → Type 0
Climbs from [] to = from ≡ to
Climbs from (p ∷ ps) to = Joins from p.level p.reason × Climbs p.level ps to

-- no variable stands twice, and the levels climb from 0 to the present one
pub record IsTrail (t : TrailState) : Type 0 where
  pub few_vars : t.vars ≤ 4000000
  pub in_range : All (IsLiteral t.vars) (lits t.assignments)
  pub distinct : IsDistinct nat_eq (map nat_abs (lits t.assignments))
  pub climbs : Climbs 0 t.assignments t.level
  pub low_reached : t.low ≤ length t.assignments
