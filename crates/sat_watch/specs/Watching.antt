-- How watches are chosen, and what a walk along the trail keeps of them.
use Rattle.std.specs.Prelude.{◌≡◌, ◌≢◌, ℕ, ◌+◌, ◌-◌, ◌/◌, ◌%◌, ◌<◌, ◌≤◌, cond, nat_eq, IsTrue, IsFalse, ℤ, pos, neg_ℤ, ◌↔◌, Option, None, Some, List, ◌∷◌, ◌++◌, length, take, slice_get, slice_set, slice_index_or}
use Rattle.cnf_base.specs.Status.{has, IsSatisfiedIn, IsFalseIn}
use Rattle.sat_trail.specs.declared.truth.Value.TheVariants.{False}
use Rattle.sat_trail.specs.Trail.{Assignment, TrailState, lits, upto, value_in}
use Rattle.sat_watch.specs.declared.links.Watch.{Watch}
use Rattle.sat_watch.specs.declared.visit.Visit.{Visit}
use Rattle.sat_watch.specs.declared.visit.Visit.TheVariants.{Kept, Moved, Conflict}
use Rattle.sat_watch.specs.Links.{watch_lits, watchers, AreLinked}
use Rattle.sat_watch.specs.Kept.{IsPair, IsWatched, Each, EachBefore}
use Rattle.sat_watch.specs.Scanning.{IsFalsifiedAt}

-- ---- the choice

-- the literal is false where the literals up to a level are true
abbrev pub IsFalseBy : List Assignment → ℕ → ℤ → Type 0
IsFalseBy assignments level l = IsTrue (has (lits (upto level assignments)) (neg_ℤ l))

-- the level from which on the literal is false
abbrev pub IsFalseFrom : List Assignment → ℤ → Option ℕ → Type 0
IsFalseFrom assignments l None = (level : ℕ) → ¬ IsFalseBy assignments level l
IsFalseFrom assignments l (Some from) = (level : ℕ) → IsFalseBy assignments level l ↔ (from ≤ level)

-- the first literal is falsified no earlier than the second
abbrev pub Lasts : List Assignment → ℤ → ℤ → Type 0
Lasts assignments first second = (level : ℕ) → IsFalseBy assignments level first → IsFalseBy assignments level second

-- the two literals of a clause that are falsified last
pub record IsChosen (assignments : List Assignment) (clause : List ℤ) (first second : ℤ) : Type 0 where
  pub pair : IsPair clause first second
  pub first_lasts : Lasts assignments first second
  pub second_lasts : (l : ℤ) → IsTrue (has clause l) → l ≢ first → Lasts assignments second l

-- ---- the start

-- what is known of the clauses before `watched_count`, where a trail has the literals before `start` from the look before
pub record AreKnown (clauses : List (List ℤ)) (heads : List (Option ℕ)) (watches : List Watch) (t : TrailState) (watched_count start : ℕ) : Type 0 where
  pub linked : AreLinked heads watches
  pub pairs : Each IsPair clauses (watch_lits watches)
  pub below : (k : ℕ) → length (upto k t.assignments) ≤ start → EachBefore watched_count (IsWatched (lits (upto k t.assignments)) (lits (upto k t.assignments))) clauses (watch_lits watches)
  pub here : EachBefore watched_count (IsWatched (take start (lits t.assignments)) (take start (lits t.assignments))) clauses (watch_lits watches)

-- ---- the walk

-- the watches are linked, and up to each level below the present one each clause is watched
pub record AreWatchedBelow (clauses : List (List ℤ)) (heads : List (Option ℕ)) (watches : List Watch) (t : TrailState) : Type 0 where
  pub linked : AreLinked heads watches
  pub pairs : Each IsPair clauses (watch_lits watches)
  pub below : (k : ℕ) → k < t.level → Each (IsWatched (lits (upto k t.assignments)) (lits (upto k t.assignments))) clauses (watch_lits watches)

-- and each clause that the trail's literals don't make true is watched by two that those before a place don't falsify
pub record AreWatchedTo (clauses : List (List ℤ)) (heads : List (Option ℕ)) (watches : List Watch) (t : TrailState) (place : ℕ) : Type 0 where
  pub before : AreWatchedBelow clauses heads watches t
  pub here : Each (IsWatched (lits t.assignments) (take place (lits t.assignments))) clauses (watch_lits watches)

-- ---- one watch

-- the other watch of the same clause
abbrev pub sibling : ℕ → ℕ
sibling w = cond (nat_eq (w % 2) 0) (w + 1) (w - 1)

-- the literals from one place up to another are false, but for this one
abbrev pub AreFalseBut : List ℤ → List ℤ → ℤ → ℕ → ℕ → Type 0
AreFalseBut true_lits clause other from to = (j : ℕ) (l : ℤ) → from ≤ j → j < to → slice_get clause j ≡ Some l → l ≢ other → IsFalseIn true_lits l

-- the clause's literal at a place isn't false, and is another than this one
pub record IsFreeAt (true_lits clause : List ℤ) (other : ℤ) (place : ℕ) : Type 0 where
  pub within : place < length clause
  pub lit : ℤ
  pub there : slice_get clause place ≡ Some lit
  pub not_false : value_in true_lits lit ≢ False
  pub differs : lit ≢ other

-- the clause at a place has a true literal
abbrev pub IsSatisfiedAt : List (List ℤ) → List ℤ → ℕ → Type 0
IsSatisfiedAt clauses true_lits place = (clause : List ℤ) × (slice_get clauses place ≡ Some clause) × IsSatisfiedIn true_lits clause

-- a watch goes to another literal of its clause that isn't false, and is taken out of its list
pub record MovesWatch (clauses : List (List ℤ)) (true_lits : List ℤ) (w : ℕ) (heads : List (Option ℕ)) (watches : List Watch) (heads' : List (Option ℕ)) (watches' : List Watch) : Type 0 where
  pub clause : List ℤ
  pub is_clause : slice_get clauses (w / 2) ≡ Some clause
  pub lit : ℤ
  pub inside : IsTrue (has clause lit)
  pub free : IsFalse (has true_lits (neg_ℤ lit))
  pub differs : lit ≢ slice_index_or (watch_lits watches) (sibling w) (pos 0)
  pub linked : AreLinked heads' watches'
  pub moved : watch_lits watches' ≡ slice_set (watch_lits watches) w lit
  pub taken_out : (x : Watch) (before after : List ℕ) → slice_get watches w ≡ Some x → watchers heads watches x.lit ≡ before ++ w ∷ after → watchers heads' watches' x.lit ≡ before ++ after

abbrev pub VisitIs : List (List ℤ) → List ℤ → ℕ → List (Option ℕ) → List Watch → List (Option ℕ) → List Watch → Visit → Type 0
VisitIs clauses true_lits w heads watches heads' watches' Kept = (heads' ≡ heads) × (watches' ≡ watches) × IsSatisfiedAt clauses true_lits (w / 2)
VisitIs clauses true_lits w heads watches heads' watches' Moved = MovesWatch clauses true_lits w heads watches heads' watches'
VisitIs clauses true_lits w heads watches heads' watches' Conflict = (heads' ≡ heads) × (watches' ≡ watches) × IsFalsifiedAt clauses true_lits (w / 2)
