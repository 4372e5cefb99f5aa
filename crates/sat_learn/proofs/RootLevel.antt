-- The walk over the literals of level 0.
use Rattle.std.proofs.Common.{◌≡◌, ℕ, zero, suc, ◌<◌, ◌≤◌, Bool, true, leb, List, [], ◌∷◌, length, refl, ap, arith, inl, inr}
use Rattle.std.proofs.lemmas.Bool.{cases_lt, le-leb, lt-leb}
use Rattle.sat_trail.specs.Trail.{Assignment, Climbs, upto}
use Rattle.sat_trail.proofs.Levels.{upto-below}
use Rattle.sat_learn.specs.Resolving.{StandsAt, AreRootsClear}
use Rattle.sat_learn.proofs.Assignments.{level_from}

-- the first places are those up to a level
pub upto_at : (k from : ℕ) (ps : List Assignment) (to i : ℕ) → Climbs from ps to → i < length (upto k ps) → (p : Assignment) × StandsAt ps i p × (p.level ≤ k)
upto_at k from [] to i h lt = absurd (omega arith)
upto_at k from (q ∷ qs) to zero h lt =
    elim (cases_lt k q.level) [
      | inl above ↦ (let none : length (upto k (q ∷ qs)) ≡ 0 = rw (lt-leb q.level k above) (ap length (upto-below k q.level qs to h.1 above)) in absurd (omega arith))
      | inr within ↦ (q, refl, within)
    ]
upto_at k from (q ∷ qs) to (suc i) h lt =
    elim (cases_lt k q.level) [
      | inl above ↦ (let none : length (upto k (q ∷ qs)) ≡ 0 = rw (lt-leb q.level k above) (ap length (upto-below k q.level qs to h.1 above)) in absurd (omega arith))
      | inr within ↦ (let some : length (upto k (q ∷ qs)) ≡ suc (length (upto k qs)) = rw (le-leb q.level k within) refl in upto_at k q.level qs to i h.1 (omega arith))
    ]

pub upto_within : (k from : ℕ) (ps : List Assignment) (to i : ℕ) (p : Assignment) → Climbs from ps to → StandsAt ps i p → p.level ≤ k → i < length (upto k ps)
upto_within k from [] to i p h there le = cc
upto_within k from (q ∷ qs) to zero p h there le =
    let same : q ≡ p = cc in
    let level_is = ap (λ (r : Assignment). r.level) same in
    let within : leb q.level k ≡ true = le-leb q.level k (omega arith) in
    rw within (omega arith)
upto_within k from (q ∷ qs) to (suc i) p h there le =
    let low = level_from q.level qs to i p h.1 there in
    let within : leb q.level k ≡ true = le-leb q.level k (omega arith) in
    let rest = upto_within k q.level qs to i p h.1 there le in
    rw within (omega arith)

-- past them none is of level 0
pub roots_clear_past : (from : ℕ) (ps : List Assignment) (to : ℕ) (marks : List Bool) (place : ℕ) → Climbs from ps to → place ≡ length (upto 0 ps) → AreRootsClear ps marks place
roots_clear_past from ps to marks place h is i p there root past =
    let within = upto_within 0 from ps to i p h there (omega arith) in
    absurd (omega arith)
