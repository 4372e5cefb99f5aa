-- Resolution, where marks on the variables stand for the clause: its literals are the negations of the trail's marked ones.
use Rattle.std.specs.Prelude.{◌≡◌, ◌≢◌, ℕ, ◌+◌, ◌<◌, ◌≤◌, ◌^◌, IsTrue, IsFalse, Bool, false, ◌||◌, nat_eq, ℤ, pos, neg_ℤ, nat_abs, Some, IsSome, List, [], length, map, reverse, take, slice_get, slice_index_or, Contains, All, ◌⊎◌}
use Rattle.std.specs.List.{list_any, AllByRecursion}
use Rattle.cnf_base.specs.Status.{has}
use Rattle.lrat_text.specs.Standing.{clause_at}
use Rattle.lrat_text.specs.Accepted.{Ends}
use Rattle.sat_trail.specs.Trail.{Assignment, TrailState, IsTrail, lits}
use Rattle.sat_learn.specs.Reasons.{AreReasons, HaveIds, IsLiveHint}

-- whether a literal's variable is marked
abbrev pub is_marked : List Bool → ℤ → Bool
is_marked marks l = slice_index_or marks (nat_abs l) false

-- an assignment stands at a place of a trail
abbrev pub StandsAt : List Assignment → ℕ → Assignment → Type 0
StandsAt assignments place p = slice_get assignments place ≡ Some p

-- ---- hints

-- the hints end under any literals of the trail among which each marked one is
abbrev pub EndsUnder : List (ℕ × List ℤ) → List ℤ → List Bool → List ℤ → Type 0
EndsUnder live true_lits marks hints = (assumed : List ℤ)
    → ((l : ℤ) → IsTrue (has true_lits l) → IsTrue (is_marked marks l) → IsTrue (has assumed l))
    → ((l : ℤ) → IsTrue (has assumed l) → IsTrue (has true_lits l))
    → Ends live assumed hints

-- and each of them names a clause that lives in the proof
pub record Refutes (live : List (ℕ × List ℤ)) (true_lits : List ℤ) (marks : List Bool) (hints : List ℤ) : Type 0 where
  pub live_hints : AllByRecursion (IsLiveHint live) hints
  pub ends : EndsUnder live true_lits marks hints

-- where the hints that were found did so with the marks of then, these do with the marks of now; the last found comes first
abbrev pub Resolves : List (List ℤ) → List ℕ → List Assignment → List Bool → List ℤ → List Bool → List ℤ → Type 0
Resolves clauses proof_ids assignments old_marks old_hints marks hints = (live : List (ℕ × List ℤ)) → HaveIds live clauses proof_ids assignments
    → Refutes live (lits assignments) old_marks (reverse old_hints) → Refutes live (lits assignments) marks (reverse hints)

-- ---- what resolution goes by

-- a trail whose literals have reasons among the clauses, which have small ids
pub record IsExplained (clauses : List (List ℤ)) (proof_ids : List ℕ) (t : TrailState) : Type 0 where
  pub trail : IsTrail t
  pub reasons : AreReasons clauses [] t.assignments
  pub one_each : length proof_ids ≡ length clauses
  pub small : All (λ name. name < 2 ^ 62) proof_ids

-- the literal at a place isn't a decision
pub record IsForcedAt (assignments : List Assignment) (place : ℕ) : Type 0 where
  pub assignment : Assignment
  pub stands : StandsAt assignments place assignment
  pub forced : IsSome assignment.reason

-- the clause that is a literal's reason, by its literals, which are false before it, and its hint
pub record IsAntecedent (clauses : List (List ℤ)) (proof_ids : List ℕ) (assignments : List Assignment) (place : ℕ) (p : Assignment) (antecedent : List ℤ) (hint : ℤ) : Type 0 where
  pub false_before : (m : ℤ) → IsTrue (has antecedent m) → m ≢ p.lit → IsTrue (has (lits (take place assignments)) (neg_ℤ m))
  pub has_id : (live : List (ℕ × List ℤ)) → HaveIds live clauses proof_ids assignments
      → (id : ℕ) × (hint ≡ pos id) × (clause : List ℤ) × (clause_at live id ≡ Some clause)
      × IsTrue (has clause p.lit) × ((m : ℤ) → IsTrue (has clause m) → m ≢ p.lit → IsTrue (has antecedent m))

-- ---- places

-- each marked literal stands before a place
abbrev pub AreBelow : List Assignment → List Bool → ℕ → Type 0
AreBelow assignments marks place = (i : ℕ) (p : Assignment) → StandsAt assignments i p → IsTrue (is_marked marks p.lit) → i < place

-- the literal at a place is the last marked one, and of the present level
pub record IsLastMarked (t : TrailState) (marks : List Bool) (place : ℕ) : Type 0 where
  pub assignment : Assignment
  pub stands : StandsAt t.assignments place assignment
  pub marked : IsTrue (is_marked marks assignment.lit)
  pub at_level : assignment.level ≡ t.level
  pub below : AreBelow t.assignments marks (place + 1)

-- a literal is false by an assignment of this level
pub record IsFalseAt (assignments : List Assignment) (l : ℤ) (level : ℕ) : Type 0 where
  pub assignment : Assignment
  pub place : ℕ
  pub stands : StandsAt assignments place assignment
  pub negated : assignment.lit ≡ neg_ℤ l
  pub at_level : assignment.level ≡ level

-- ---- level 0

-- a variable has a literal of level 0
pub record IsRooted (assignments : List Assignment) (var : ℕ) : Type 0 where
  pub assignment : Assignment
  pub place : ℕ
  pub stands : StandsAt assignments place assignment
  pub root : assignment.level ≡ 0
  pub of_var : nat_abs assignment.lit ≡ var

-- no variable of level 0 is marked from this place on
abbrev pub AreRootsClear : List Assignment → List Bool → ℕ → Type 0
AreRootsClear assignments marks place = (i : ℕ) (p : Assignment) → StandsAt assignments i p → p.level ≡ 0 → place ≤ i → IsFalse (is_marked marks p.lit)

-- the literal at a place is of level 0 and marked
pub record IsMarkedRoot (assignments : List Assignment) (marks : List Bool) (place : ℕ) : Type 0 where
  pub assignment : Assignment
  pub stands : StandsAt assignments place assignment
  pub root : assignment.level ≡ 0
  pub marked : IsTrue (is_marked marks assignment.lit)

-- the marked variables of level 0 are among those of these literals, which are false
pub record AreRootsAmong (assignments : List Assignment) (marks : List Bool) (ls : List ℤ) : Type 0 where
  pub covers : (v : ℕ) → IsTrue (slice_index_or marks v false) → IsRooted assignments v → IsTrue (list_any (nat_eq v) (map nat_abs ls))
  pub false_now : (l : ℤ) → IsTrue (has ls l) → IsTrue (has (lits assignments) (neg_ℤ l))

-- each marked literal of level 0 that stands before a place waits in a queue of places
abbrev pub AreQueued : List Assignment → List Bool → List ℕ → ℕ → Type 0
AreQueued assignments marks queue place = (i : ℕ) (p : Assignment) → StandsAt assignments i p → p.level ≡ 0 → IsTrue (is_marked marks p.lit) → i < place → Contains queue i

-- a place before another has the last marked literal of level 0, and the marked ones before it wait
pub record IsNextRoot (assignments : List Assignment) (marks : List Bool) (queue : List ℕ) (before place : ℕ) : Type 0 where
  pub below : place < before
  pub root : IsMarkedRoot assignments marks place
  pub clear : AreRootsClear assignments marks (place + 1)
  pub queued : AreQueued assignments marks queue place

-- marks differ at variables of level 0 alone
abbrev pub DifferAtRoots : List Assignment → List Bool → List Bool → Type 0
DifferAtRoots assignments old new = (v : ℕ) → (slice_index_or new v false ≡ slice_index_or old v false) ⊎ IsRooted assignments v

-- ---- marks

-- the variables of these literals are marked too
abbrev pub with_marks : List ℤ → List Bool → ℕ → Bool
with_marks ls marks v = slice_index_or marks v false || list_any (nat_eq v) (map nat_abs ls)
