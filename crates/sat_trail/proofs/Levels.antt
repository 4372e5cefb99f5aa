-- Levels that climb, and the literals up to one of them.
use Rattle.std.proofs.Common.{◌≡◌, ℕ, ◌+◌, ◌<◌, ◌≤◌, cond, leb, Option, Some, None, List, [], ◌∷◌, ◌++◌, length, take, refl, ap, sym, ◌∙◌, subst, arith, inl, inr}
use Rattle.std.proofs.lemmas.Bool.{cases_lt, le-leb, lt-leb}
use Rattle.std.proofs.lemmas.List.Elements.{filter-append}
use Rattle.std.proofs.lemmas.List.{append-nil}
use Rattle.sat_trail.specs.declared.clause_id.ClauseId.{ClauseId}
use Rattle.sat_trail.specs.Trail.{Assignment, upto, Joins, Climbs}

pub Joins-near : (from level : ℕ) (reason : Option ClauseId) → Joins from level reason → (from ≤ level) × (level ≤ from + 1)
Joins-near from level None h = (omega arith, omega arith)
Joins-near from level (Some r) h = (omega arith, omega arith)

pub Climbs-rises : (from : ℕ) (ps : List Assignment) (to : ℕ) → Climbs from ps to → (from ≤ to) × (to ≤ from + length ps)
Climbs-rises from [] to h = (omega arith, omega arith)
Climbs-rises from (p ∷ ps) to h =
    let near = Joins-near from p.level p.reason h.0 in
    let rest = Climbs-rises p.level ps to h.1 in
    (omega arith, grind arith)

pub Climbs-push : (from : ℕ) (ps : List Assignment) (to : ℕ) (p : Assignment) → Climbs from ps to → Joins to p.level p.reason → Climbs from (ps ++ p ∷ []) p.level
Climbs-push from [] to p h j = (let P : ℕ → Type 0 = λ n. Joins n p.level p.reason in subst P (sym h) j, refl)
Climbs-push from (q ∷ ps) to p h j = (h.0, Climbs-push q.level ps to p h.1 j)

-- none is up to a level below the first
pub upto-below : (k from : ℕ) (ps : List Assignment) (to : ℕ) → Climbs from ps to → k < from → upto k ps ≡ []
upto-below k from [] to h lt = refl
upto-below k from (p ∷ ps) to h lt =
    let near = Joins-near from p.level p.reason h.0 in
    let above : k < p.level = omega arith in
    rw (lt-leb p.level k above) (upto-below k p.level ps to h.1 above)

-- all are up to the last level
pub upto-all : (k from : ℕ) (ps : List Assignment) (to : ℕ) → Climbs from ps to → to ≤ k → upto k ps ≡ ps
upto-all k from [] to h le = refl
upto-all k from (p ∷ ps) to h le =
    let rises = Climbs-rises p.level ps to h.1 in
    let within : p.level ≤ k = omega arith in
    rw (le-leb p.level k within) (ap (λ r. p ∷ r) (upto-all k p.level ps to h.1 le))

pub Climbs-upto : (k from : ℕ) (ps : List Assignment) (to : ℕ) → Climbs from ps to → from ≤ k → k ≤ to → Climbs from (upto k ps) k
Climbs-upto k from [] to h low high = omega arith
Climbs-upto k from (p ∷ ps) to h low high =
    elim (cases_lt k p.level) [
      | inl above ↦ (let near = Joins-near from p.level p.reason h.0 in
          let none = upto-below k p.level ps to h.1 above in
          rw (lt-leb p.level k above, none) (omega arith))
      | inr within ↦ rw (le-leb p.level k within) (h.0, Climbs-upto k p.level ps to h.1 within high)
    ]

pub upto-push_above : (k : ℕ) (ps : List Assignment) (p : Assignment) → k < p.level → upto k (ps ++ p ∷ []) ≡ upto k ps
upto-push_above k ps p above =
    filter-append (λ q. leb q.level k) ps (p ∷ [])
    ∙ rw (lt-leb p.level k above) (append-nil (upto k ps))

pub upto-upto : (k j : ℕ) (ps : List Assignment) → k ≤ j → upto k (upto j ps) ≡ upto k ps
upto-upto k j [] le = refl
upto-upto k j (p ∷ ps) le =
    elim (cases_lt j p.level) [
      | inl above ↦ (let far : k < p.level = omega arith in rw (lt-leb p.level j above, lt-leb p.level k far) (upto-upto k j ps le))
      | inr within ↦ rw (le-leb p.level j within) (ap (λ r. cond (leb p.level k) (p ∷ r) r) (upto-upto k j ps le))
    ]

pub length-upto-le : (k : ℕ) (ps : List Assignment) → length (upto k ps) ≤ length ps
length-upto-le k [] = omega arith
length-upto-le k (p ∷ ps) =
    let more = length-upto-le k ps in
    elim (cases_lt k p.level) [
      | inl above ↦ rw (lt-leb p.level k above) (grind arith)
      | inr within ↦ rw (le-leb p.level k within) (grind arith)
    ]

-- the literals up to a level are the first ones
pub upto-take : (k from : ℕ) (ps : List Assignment) (to : ℕ) → Climbs from ps to → upto k ps ≡ take (length (upto k ps)) ps
upto-take k from [] to h = refl
upto-take k from (p ∷ ps) to h =
    elim (cases_lt k p.level) [
      | inl above ↦ rw (lt-leb p.level k above, upto-below k p.level ps to h.1 above) refl
      | inr within ↦ rw (le-leb p.level k within) (ap (λ r. p ∷ r) (upto-take k p.level ps to h.1))
    ]
