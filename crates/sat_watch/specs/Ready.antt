-- What a caller keeps between the calls of a book and its trail.
use Rattle.std.specs.Prelude.{◌≡◌, ℕ, take}
use Rattle.sat_trail.specs.Trail.{TrailState, lits, upto}
use Rattle.sat_watch.specs.Book.{BookState, NoneFalse, NoneUnit, NoneFalseBelow, NoneUnitBelow, marks}

-- the trail is the one that the book has seen, as far as it kept its literals
pub record IsFollowed (b : BookState) (t : TrailState) : Type 0 where
  pub vars : t.vars ≡ b.vars
  pub agrees : take t.low (marks t.assignments) ≡ take t.low b.seen

-- what propagation asks for
pub record IsReady (b : BookState) (t : TrailState) : Type 0 where
  pub followed : IsFollowed b t
  pub none_false : NoneFalseBelow b.clauses t
  pub none_unit : NoneUnitBelow b.clauses t

-- up to no level is a clause false or unit: so it is after Quiet
pub record IsSettled (b : BookState) (t : TrailState) : Type 0 where
  pub followed : IsFollowed b t
  pub none_false : (k : ℕ) → NoneFalse b.clauses (lits (upto k t.assignments))
  pub none_unit : (k : ℕ) → NoneUnit b.clauses (lits (upto k t.assignments))
