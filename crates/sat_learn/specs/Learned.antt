-- The clause that is learned from a conflict.
use Rattle.std.specs.Prelude.{◌≡◌, ℕ, ◌<◌, IsTrue, IsFalse, nat_eq, ℤ, neg_ℤ, nat_abs, List, ◌∷◌, length, map, All}
use Rattle.std.specs.List.{IsDistinct}
use Rattle.cnf_base.specs.Status.{has}
use Rattle.cnf_base.specs.Dimacs.{IsLiteral}
use Rattle.sat_trail.specs.Trail.{Assignment, TrailState, lits, upto}

-- a literal is false by the assignments up to a level
abbrev pub IsFalseUpto : ℕ → List Assignment → ℤ → Type 0
IsFalseUpto level assignments l = IsTrue (has (lits (upto level assignments)) (neg_ℤ l))

-- it is not
abbrev pub IsFreeUpto : ℕ → List Assignment → ℤ → Type 0
IsFreeUpto level assignments l = IsFalse (has (lits (upto level assignments)) (neg_ℤ l))

-- places of literals of level 0
abbrev pub AreAtRoot : List Assignment → List ℕ → Type 0
AreAtRoot assignments places = All (λ place. place < length (upto 0 assignments)) places

-- a clause, the level to go back to, the hints by which the clause follows, the places of level 0 that they resolve, and the
-- literals that the analysis met
pub record LearnedState : Type 0 where
  pub lits : List ℤ
  pub backjump_level : ℕ
  pub hints : List ℤ
  pub roots : List ℕ
  pub met : List ℤ

-- at the level to go back to all literals of the clause are false but the first, which is false at the present level alone
pub record IsLearned (t : TrailState) (learned : LearnedState) : Type 0 where
  pub first : ℤ
  pub others : List ℤ
  pub form : learned.lits ≡ first ∷ others
  pub in_range : All (IsLiteral t.vars) (first ∷ others)
  pub distinct : IsDistinct nat_eq (map nat_abs (first ∷ others))
  pub first_false : IsFalseUpto t.level t.assignments first
  pub first_free : (k : ℕ) → k < t.level → IsFreeUpto k t.assignments first
  pub backjump_below : learned.backjump_level < t.level
  pub others_false : (l : ℤ) → IsTrue (has others l) → IsFalseUpto learned.backjump_level t.assignments l
  -- below that level one of them isn't false
  pub backjump_least : (k : ℕ) → k < learned.backjump_level → (l : ℤ) × IsTrue (has others l) × IsFreeUpto k t.assignments l
  pub at_root : AreAtRoot t.assignments learned.roots
  pub met_in_range : All (IsLiteral t.vars) learned.met
