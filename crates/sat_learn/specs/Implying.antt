-- How a literal of a trail follows from decisions: its clause with their negations, and how this clause is found.
use Rattle.std.specs.Prelude.{◌≡◌, ℕ, ◌<◌, ◌≤◌, IsTrue, Bool, ℤ, neg_ℤ, None, List, reverse, ◌⊎◌}
use Rattle.cnf_base.specs.Status.{has}
use Rattle.sat_trail.specs.Trail.{Assignment}
use Rattle.sat_learn.specs.Reasons.{HaveIds}
use Rattle.sat_learn.specs.Resolving.{is_marked, StandsAt, Refutes}
use Rattle.sat_learn.specs.Explaining.{denying}

-- the negation of a decision that stands before a place
pub record IsNegatedDecision (assignments : List Assignment) (top : ℕ) (l : ℤ) : Type 0 where
  pub place : ℕ
  pub decision : Assignment
  pub stands : StandsAt assignments place decision
  pub before : place < top
  pub no_reason : decision.reason ≡ None
  pub negated : neg_ℤ decision.lit ≡ l

-- the literal at a place, and negations of decisions before it
pub record IsImplication (assignments : List Assignment) (top : ℕ) (p : Assignment) (ls : List ℤ) : Type 0 where
  pub stands : StandsAt assignments top p
  pub own : IsTrue (has ls p.lit)
  pub others : (l : ℤ) → IsTrue (has ls l) → (l ≡ p.lit) ⊎ IsNegatedDecision assignments top l

-- a clause of this literal, which stands on the trail, and of negations of decisions before it
abbrev pub ImpliesByDecisions : List Assignment → ℤ → List ℤ → Type 0
ImpliesByDecisions assignments lit ls = (top : ℕ) × (p : Assignment) × (p.lit ≡ lit) × IsImplication assignments top p ls

-- ---- the walk

-- the literal at a place is explained down to another: what is marked from there on are decisions, whose negations were taken
pub record IsTracedTo (clauses : List (List ℤ)) (proof_ids : List ℕ) (assignments : List Assignment) (top : ℕ) (p : Assignment) (place : ℕ) (marks : List Bool) (ls hints : List ℤ) : Type 0 where
  pub implication : IsImplication assignments top p ls
  pub refutes : (live : List (ℕ × List ℤ)) → HaveIds live clauses proof_ids assignments → Refutes live (denying assignments top p.lit) marks (reverse hints)
  pub taken : (i : ℕ) (q : Assignment) → StandsAt assignments i q → place ≤ i → i < top → IsTrue (is_marked marks q.lit) → IsTrue (has ls (neg_ℤ q.lit))
