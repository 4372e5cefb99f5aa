-- How the clause of one literal follows, by the clauses that it rests on.
use Rattle.std.specs.Prelude.{◌≡◌, ℕ, ◌<◌, IsTrue, Bool, false, nat_eq, ℤ, neg_ℤ, nat_abs, List, [], ◌∷◌, ◌++◌, length, map, take, Some, slice_get, slice_index_or, All, ◌⊎◌}
use Rattle.std.specs.List.{list_any}
use Rattle.cnf_base.specs.Status.{has}
use Rattle.sat_trail.specs.Trail.{Assignment, lits}
use Rattle.sat_learn.specs.Reasons.{HaveIds, Follows}
use Rattle.sat_learn.specs.Resolving.{is_marked, StandsAt, Refutes}

-- the clause of the literal at a place alone follows by these hints
abbrev pub IsExplanation : List (List ℤ) → List ℕ → List Assignment → ℕ → List ℤ → Type 0
IsExplanation clauses proof_ids assignments place hints = (live : List (ℕ × List ℤ)) (l : ℤ) → HaveIds live clauses proof_ids assignments
    → slice_get (lits assignments) place ≡ Some l → Follows live (neg_ℤ l ∷ []) hints

-- ---- how hints are found

-- the literals before a place of a trail, and the negation of the one that stands there
abbrev pub denying : List Assignment → ℕ → ℤ → List ℤ
denying assignments place l = lits (take place assignments) ++ neg_ℤ l ∷ []

-- these hints lead from the marks of the start to those of now: before hints that end with these, they end with those
abbrev pub Leads : List (ℕ × List ℤ) → List ℤ → List Bool → List Bool → List ℤ → Type 0
Leads live true_lits start marks hints = (rest : List ℤ) → Refutes live true_lits marks rest → Refutes live true_lits start (hints ++ rest)

-- where the hints of then lead to the marks of then, those of now lead to the marks of now
abbrev pub Derives : List (List ℤ) → List ℕ → List Assignment → List ℤ → List Bool → List ℤ → List Bool → List ℤ → Type 0
Derives clauses proof_ids assignments true_lits old_marks old_hints marks hints = (live : List (ℕ × List ℤ)) (start : List Bool) → HaveIds live clauses proof_ids assignments
    → Leads live true_lits start old_marks old_hints → Leads live true_lits start marks hints

-- a literal is marked, or false by one before a place
abbrev pub IsKnownAt : List Assignment → List Bool → ℕ → ℤ → Type 0
IsKnownAt assignments marks place l = IsTrue (is_marked marks l) ⊎ IsTrue (has (lits (take place assignments)) (neg_ℤ l))

abbrev pub AreKnownAt : List Assignment → List Bool → ℕ → List ℤ → Type 0
AreKnownAt assignments marks place ls = (l : ℤ) → IsTrue (has ls l) → IsKnownAt assignments marks place l

-- from one state of marks and hints to another: no mark went, and at each place where these literals are known the hints
-- lead on, as the one that stands there is denied
pub record IsFound (clauses : List (List ℤ)) (proof_ids : List ℕ) (assignments : List Assignment) (ls : List ℤ) (old_marks : List Bool) (old_hints : List ℤ) (marks : List Bool) (hints : List ℤ) : Type 0 where
  pub grows : (v : ℕ) → IsTrue (slice_index_or old_marks v false) → IsTrue (slice_index_or marks v false)
  pub derives : (place : ℕ) (p : Assignment) → StandsAt assignments place p → AreKnownAt assignments old_marks place ls
      → Derives clauses proof_ids assignments (denying assignments place p.lit) old_marks old_hints marks hints

-- the marked variables are among those of these literals
pub record IsNoted (marks : List Bool) (marked : List ℤ) : Type 0 where
  pub in_range : All (λ l. nat_abs l < length marks) marked
  pub covers : (v : ℕ) → IsTrue (slice_index_or marks v false) → IsTrue (list_any (nat_eq v) (map nat_abs marked))
