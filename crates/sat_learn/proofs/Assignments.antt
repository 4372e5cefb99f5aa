-- Assignments at their places.
use Rattle.std.proofs.Common.{◌≡◌, ℕ, zero, suc, ◌+◌, ◌<◌, ◌≤◌, true, false, ◌||◌, cond, eqb, leb, ℤ, pos, negsuc, neg_ℤ, nat_abs, Option, Some, None, List, [], ◌∷◌, ◌++◌, length, map, take, refl, ap, sym, ◌∙◌, subst, arith, inl, inr}
use Rattle.std.specs.List.{IsDistinct, AllByRecursion, slice_get}
use Rattle.std.proofs.lemmas.Bool.{cases_Bool, or_cases, or_right, eqb-false, eq-eqb, le-leb, leb-true}
use Rattle.std.proofs.lemmas.List.{append-nil, append_assoc}
use Rattle.std.proofs.lemmas.List.Elements.{recursion_from_All}
use Rattle.std.proofs.lemmas.Map.Keys.{IsDistinct-head, IsDistinct-tail}
use Rattle.cnf_base.specs.Status.{same_lit, has}
use Rattle.cnf_base.specs.Dimacs.{IsLiteral}
use Rattle.cnf_base.proofs.Literals.{same_lit-true, has-head, nat_abs-neg_ℤ}
use Rattle.lrat_text.specs.Accepted.{IsBothWays}
use Rattle.sat_trail.specs.declared.clause_id.ClauseId.{ClauseId}
use Rattle.sat_trail.specs.Trail.{Assignment, TrailState, IsTrail, lits, upto, assignment_of, Climbs, Joins}
use Rattle.sat_trail.proofs.Levels.{Joins-near}
use Rattle.sat_learn.specs.Reasons.{IsReason, AreReasons}
use Rattle.sat_learn.specs.Resolving.{StandsAt, IsFalseAt}

pub assignment_there : (ps : List Assignment) (l : ℤ) → has (lits ps) l ≡ true → (i : ℕ) × (p : Assignment) × StandsAt ps i p × (p.lit ≡ l)
assignment_there [] l h = cc
assignment_there (p ∷ ps) l h =
    elim (or_cases (same_lit p.lit l) (has (lits ps) l) h) [
      | inl e ↦ (0, p, refl, same_lit-true p.lit l e)
      | inr e ↦ (let found = assignment_there ps l e in (suc found.0, found.1, found.2, found.3))
    ]

pub true_there : (ps : List Assignment) (i : ℕ) (p : Assignment) → StandsAt ps i p → has (lits ps) p.lit ≡ true
true_there [] i p h = cc
true_there (q ∷ ps) zero p h =
    let same : q ≡ p = cc in
    let P : Assignment → Type 0 = λ r. (same_lit q.lit r.lit || has (lits ps) r.lit) ≡ true in
    subst P same (has-head q.lit (lits ps))
true_there (q ∷ ps) (suc i) p h = or_right (same_lit q.lit p.lit) (has (lits ps) p.lit) (true_there ps i p h)

-- what holds of all variables holds at each place
pub all_at : (P : ℕ → Type 0) (ps : List Assignment) (i : ℕ) (p : Assignment) → AllByRecursion P (map nat_abs (lits ps)) → StandsAt ps i p → P (nat_abs p.lit)
all_at P [] i p h there = cc
all_at P (q ∷ ps) zero p h there = let same : q ≡ p = cc in subst (λ (r : Assignment). P (nat_abs r.lit)) same h.0
all_at P (q ∷ ps) (suc i) p h there = all_at P ps i p h.1 there

-- no variable stands at two places
pub one_place : (ps : List Assignment) (i j : ℕ) (p q : Assignment) → IsDistinct eqb (map nat_abs (lits ps)) → StandsAt ps i p → StandsAt ps j q → nat_abs p.lit ≡ nat_abs q.lit → i ≡ j
one_place [] i j p q h a b same = cc
one_place (r ∷ rs) zero zero p q h a b same = refl
one_place (r ∷ rs) zero (suc j) p q h a b same =
    let first : r ≡ p = cc in
    let apart = all_at (λ y. eqb (nat_abs r.lit) y ≡ false) rs j q (IsDistinct-head eqb (nat_abs r.lit) (map nat_abs (lits rs)) h) b in
    absurd (eqb-false (nat_abs r.lit) (nat_abs q.lit) apart (ap (λ (x : Assignment). nat_abs x.lit) first ∙ same))
one_place (r ∷ rs) (suc i) zero p q h a b same =
    let first : r ≡ q = cc in
    let apart = all_at (λ y. eqb (nat_abs r.lit) y ≡ false) rs i p (IsDistinct-head eqb (nat_abs r.lit) (map nat_abs (lits rs)) h) a in
    absurd (eqb-false (nat_abs r.lit) (nat_abs p.lit) apart (ap (λ (x : Assignment). nat_abs x.lit) first ∙ sym same))
one_place (r ∷ rs) (suc i) (suc j) p q h a b same = ap suc (one_place rs i j p q (IsDistinct-tail eqb (nat_abs r.lit) (map nat_abs (lits rs)) h) a b same)

pub same_at : (ps : List Assignment) (i j : ℕ) (p q : Assignment) → StandsAt ps i p → StandsAt ps j q → i ≡ j → p ≡ q
same_at ps i j p q a b same =
    let P : ℕ → Type 0 = λ n. slice_get ps n ≡ Some p in
    let there = subst P same a in
    cc

pub one_assignment : (t : TrailState) (i j : ℕ) (p q : Assignment) → IsTrail t → StandsAt t.assignments i p → StandsAt t.assignments j q → nat_abs p.lit ≡ nat_abs q.lit → p ≡ q
one_assignment t i j p q h a b same = same_at t.assignments i j p q a b (one_place t.assignments i j p q h.distinct a b same)

-- ---- up to a level

pub upto_true : (k : ℕ) (ps : List Assignment) (i : ℕ) (p : Assignment) → StandsAt ps i p → p.level ≤ k → has (lits (upto k ps)) p.lit ≡ true
upto_true k [] i p h le = cc
upto_true k (q ∷ ps) zero p h le =
    let same : q ≡ p = cc in
    let level_is = ap (λ (r : Assignment). r.level) same in
    let within : leb q.level k ≡ true = le-leb q.level k (omega arith) in
    let P : Assignment → Type 0 = λ r. has (lits (cond (leb q.level k) (q ∷ upto k ps) (upto k ps))) r.lit ≡ true in
    subst P same (rw within (has-head q.lit (lits (upto k ps))))
upto_true k (q ∷ ps) (suc i) p h le =
    let rest = upto_true k ps i p h le in
    elim (cases_Bool (leb q.level k)) [
      | inl e ↦ rw e (or_right (same_lit q.lit p.lit) (has (lits (upto k ps)) p.lit) rest)
      | inr e ↦ rw e rest
    ]

pub true_upto : (k : ℕ) (ps : List Assignment) (l : ℤ) → has (lits (upto k ps)) l ≡ true → (i : ℕ) × (p : Assignment) × StandsAt ps i p × (p.lit ≡ l) × (p.level ≤ k)
true_upto k [] l h = cc
true_upto k (q ∷ ps) l h =
    elim (cases_Bool (leb q.level k)) [
      | inl e ↦ (let here : (same_lit q.lit l || has (lits (upto k ps)) l) ≡ true = rw e at h in
          elim (or_cases (same_lit q.lit l) (has (lits (upto k ps)) l) here) [
            | inl f ↦ (0, q, refl, same_lit-true q.lit l f, leb-true q.level k e)
            | inr f ↦ (let found = true_upto k ps l f in (suc found.0, found.1, found.2, found.3, found.4))
          ])
      | inr e ↦ (let rest : has (lits (upto k ps)) l ≡ true = rw e at h in
          let found = true_upto k ps l rest in (suc found.0, found.1, found.2, found.3, found.4))
    ]

-- ---- the assignment of a variable

pub assignment_found : (var : ℕ) (ps : List Assignment) (p : Assignment) → assignment_of var ps ≡ Some p → (i : ℕ) × StandsAt ps i p
assignment_found var [] p h = cc
assignment_found var (q ∷ ps) p h =
    elim (cases_Bool (eqb (nat_abs q.lit) var)) [
      | inl e ↦ (let here : Some q ≡ Some p = rw e at h in (0, here))
      | inr e ↦ (let rest : assignment_of var ps ≡ Some p = rw e at h in
          let found = assignment_found var ps p rest in (suc found.0, found.1))
    ]

pub assignment_finds : (ps : List Assignment) (i : ℕ) (p : Assignment) → IsDistinct eqb (map nat_abs (lits ps)) → StandsAt ps i p → assignment_of (nat_abs p.lit) ps ≡ Some p
assignment_finds [] i p d h = cc
assignment_finds (q ∷ ps) zero p d h =
    let same : q ≡ p = cc in
    let here : eqb (nat_abs q.lit) (nat_abs p.lit) ≡ true = eq-eqb (nat_abs q.lit) (nat_abs p.lit) (ap (λ (r : Assignment). nat_abs r.lit) same) in
    rw here h
assignment_finds (q ∷ ps) (suc i) p d h =
    let apart = all_at (λ y. eqb (nat_abs q.lit) y ≡ false) ps i p (IsDistinct-head eqb (nat_abs q.lit) (map nat_abs (lits ps)) d) h in
    rw apart (assignment_finds ps i p (IsDistinct-tail eqb (nat_abs q.lit) (map nat_abs (lits ps)) d) h)

-- ---- before a place

pub true_before : (ps : List Assignment) (n : ℕ) (l : ℤ) → has (lits (take n ps)) l ≡ true → (i : ℕ) × (p : Assignment) × StandsAt ps i p × (p.lit ≡ l) × (i < n)
true_before ps zero l h = cc
true_before [] (suc n) l h = cc
true_before (q ∷ ps) (suc n) l h =
    elim (or_cases (same_lit q.lit l) (has (lits (take n ps)) l) h) [
      | inl e ↦ (0, q, refl, same_lit-true q.lit l e, omega arith)
      | inr e ↦ (let found = true_before ps n l e in (suc found.0, found.1, found.2, found.3, omega (arith, found.4)))
    ]

pub before_there : (ps : List Assignment) (n i : ℕ) (p : Assignment) → StandsAt ps i p → i < n → has (lits (take n ps)) p.lit ≡ true
before_there ps zero i p h lt = absurd (omega arith)
before_there [] (suc n) i p h lt = cc
before_there (q ∷ ps) (suc n) zero p h lt =
    let same : q ≡ p = cc in
    let P : Assignment → Type 0 = λ r. (same_lit q.lit r.lit || has (lits (take n ps)) r.lit) ≡ true in
    subst P same (has-head q.lit (lits (take n ps)))
before_there (q ∷ ps) (suc n) (suc i) p h lt = or_right (same_lit q.lit p.lit) (has (lits (take n ps)) p.lit) (before_there ps n i p h (omega arith))

-- ---- levels

pub level_from : (from : ℕ) (ps : List Assignment) (to : ℕ) (i : ℕ) (p : Assignment) → Climbs from ps to → StandsAt ps i p → from ≤ p.level
level_from from [] to i p h there = cc
level_from from (q ∷ ps) to zero p h there =
    let same : q ≡ p = cc in
    let near = Joins-near from q.level q.reason h.0 in
    let P : Assignment → Type 0 = λ r. from ≤ r.level in
    subst P same near.0
level_from from (q ∷ ps) to (suc i) p h there =
    let near = Joins-near from q.level q.reason h.0 in
    let rest = level_from q.level ps to i p h.1 there in
    omega arith

-- a decision begins a level
pub decision_from : (from : ℕ) (ps : List Assignment) (to : ℕ) (i : ℕ) (p : Assignment) → Climbs from ps to → StandsAt ps i p → p.reason ≡ None → from < p.level
decision_from from [] to i p h there none = cc
decision_from from (q ∷ ps) to zero p h there none =
    let same : q ≡ p = cc in
    let no_reason : q.reason ≡ None = ap (λ (r : Assignment). r.reason) same ∙ none in
    let J : Option ClauseId → Type 0 = λ r. Joins from q.level r in
    let next : q.level ≡ from + 1 = subst J no_reason h.0 in
    let P : Assignment → Type 0 = λ r. from < r.level in
    subst P same (omega arith)
decision_from from (q ∷ ps) to (suc i) p h there none =
    let near = Joins-near from q.level q.reason h.0 in
    let rest = decision_from q.level ps to i p h.1 there none in
    omega arith

pub level_to : (from : ℕ) (ps : List Assignment) (to : ℕ) (i : ℕ) (p : Assignment) → Climbs from ps to → StandsAt ps i p → p.level ≤ to
level_to from [] to i p h there = cc
level_to from (q ∷ ps) to zero p h there =
    let same : q ≡ p = cc in
    let P : Assignment → Type 0 = λ r. r.level ≤ to in
    subst P same (ends q.level ps to h.1)
  where
    ends : (from : ℕ) (ps : List Assignment) (to : ℕ) → Climbs from ps to → from ≤ to
    ends from [] to h = omega arith
    ends from (p ∷ ps) to h = let near = Joins-near from p.level p.reason h.0 in let rest = ends p.level ps to h.1 in omega arith
level_to from (q ∷ ps) to (suc i) p h there = level_to q.level ps to i p h.1 there

pub levels_rise : (from : ℕ) (ps : List Assignment) (to : ℕ) (i j : ℕ) (p q : Assignment) → Climbs from ps to → StandsAt ps i p → StandsAt ps j q → i ≤ j → p.level ≤ q.level
levels_rise from [] to i j p q h a b le = cc
levels_rise from (r ∷ rs) to zero zero p q h a b le = let same : p ≡ q = cc in let e = ap (λ (x : Assignment). x.level) same in omega arith
levels_rise from (r ∷ rs) to zero (suc j) p q h a b le =
    let same : r ≡ p = cc in
    let e = ap (λ (x : Assignment). x.level) same in
    let rest = level_from r.level rs to j q h.1 b in
    omega arith
levels_rise from (r ∷ rs) to (suc i) zero p q h a b le = absurd (omega arith)
levels_rise from (r ∷ rs) to (suc i) (suc j) p q h a b le = levels_rise r.level rs to i j p q h.1 a b (omega arith)

pub decision_rises : (from : ℕ) (ps : List Assignment) (to : ℕ) (i j : ℕ) (p q : Assignment) → Climbs from ps to → StandsAt ps i p → StandsAt ps j q → i < j → q.reason ≡ None → p.level < q.level
decision_rises from [] to i j p q h a b lt none = cc
decision_rises from (r ∷ rs) to i zero p q h a b lt none = absurd (omega arith)
decision_rises from (r ∷ rs) to zero (suc j) p q h a b lt none =
    let same : r ≡ p = cc in
    let e = ap (λ (x : Assignment). x.level) same in
    let rest = decision_from r.level rs to j q h.1 b none in
    omega arith
decision_rises from (r ∷ rs) to (suc i) (suc j) p q h a b lt none = decision_rises r.level rs to i j p q h.1 a b (omega arith) none

-- ---- reasons

pub reason_at : (clauses : List (List ℤ)) (before : List ℤ) (ps : List Assignment) (i : ℕ) (p : Assignment) → AreReasons clauses before ps → StandsAt ps i p → IsReason clauses (before ++ lits (take i ps)) p.lit p.reason
reason_at clauses before [] i p h there = cc
reason_at clauses before (q ∷ ps) zero p h there =
    let same : q ≡ p = cc in
    let P : Assignment → Type 0 = λ r. IsReason clauses (before ++ []) r.lit r.reason in
    let Q : List ℤ → Type 0 = λ ls. IsReason clauses ls q.lit q.reason in
    subst P same (subst Q (sym (append-nil before)) h.0)
reason_at clauses before (q ∷ ps) (suc i) p h there =
    let Q : List ℤ → Type 0 = λ ls. IsReason clauses ls p.lit p.reason in
    subst Q (append_assoc before (q.lit ∷ []) (lits (take i ps))) (reason_at clauses (before ++ q.lit ∷ []) ps i p h.1 there)

-- ---- literals and their negations

pub own_negation : (l : ℤ) → neg_ℤ l ≡ l → l ≡ pos 0
own_negation (pos zero) h = refl
own_negation (pos (suc n)) h = cc
own_negation (negsuc n) h = cc

literal_in : (P : ℤ → Type 0) (ls : List ℤ) (l : ℤ) → AllByRecursion P ls → has ls l ≡ true → P l
literal_in P [] l all h = cc
literal_in P (m ∷ ms) l all h =
    elim (or_cases (same_lit m l) (has ms l) h) [
      | inl e ↦ subst P (same_lit-true m l e) all.0
      | inr e ↦ literal_in P ms l all.1 e
    ]

pub true_literal : (t : TrailState) (l : ℤ) → IsTrail t → has (lits t.assignments) l ≡ true → IsLiteral t.vars l
true_literal t l h k = literal_in (IsLiteral t.vars) (lits t.assignments) l (recursion_from_All (IsLiteral t.vars) (lits t.assignments) h.in_range) k

-- no literal is true and false
pub one_way : (t : TrailState) → IsTrail t → IsBothWays (lits t.assignments) → ⊥
one_way t h both =
    let l = both.0 in
    let p = assignment_there t.assignments l both.1 in
    let q = assignment_there t.assignments (neg_ℤ l) both.2 in
    let same : p.1 ≡ q.1 = one_assignment t p.0 q.0 p.1 q.1 h p.2 q.2 (ap nat_abs p.3 ∙ sym (nat_abs-neg_ℤ l) ∙ ap nat_abs (sym q.3)) in
    let own : neg_ℤ l ≡ l = sym q.3 ∙ ap (λ (r : Assignment). r.lit) (sym same) ∙ p.3 in
    (true_literal t l h both.1).not_zero (own_negation l own)

-- the assignment by which a literal is false
pub assignment_of_false : (t : TrailState) (l : ℤ) (var : ℕ) → IsTrail t → has (lits t.assignments) (neg_ℤ l) ≡ true → var ≡ nat_abs l → (i : ℕ) × (p : Assignment) × StandsAt t.assignments i p × (p.lit ≡ neg_ℤ l) × (assignment_of var t.assignments ≡ Some p)
assignment_of_false t l var h false_now is =
    let found = assignment_there t.assignments (neg_ℤ l) false_now in
    let same : nat_abs found.1.lit ≡ var = ap nat_abs found.3 ∙ nat_abs-neg_ℤ l ∙ sym is in
    let P : ℕ → Type 0 = λ n. assignment_of n t.assignments ≡ Some found.1 in
    (found.0, found.1, found.2, found.3, subst P same (assignment_finds t.assignments found.0 found.1 h.distinct found.2))

pub assignment_at : (ps : List Assignment) (i : ℕ) → i < length ps → (p : Assignment) × StandsAt ps i p
assignment_at [] i lt = absurd (omega arith)
assignment_at (p ∷ ps) zero lt = (p, refl)
assignment_at (p ∷ ps) (suc i) lt = assignment_at ps i (omega arith)

-- ---- false literals

pub false_at_one : (t : TrailState) (l : ℤ) (a b : ℕ) → IsTrail t → IsFalseAt t.assignments l a → IsFalseAt t.assignments l b → a ≡ b
false_at_one t l a b h x y =
    let same = one_assignment t x.place y.place x.assignment y.assignment h x.stands y.stands (ap nat_abs (x.negated ∙ sym y.negated)) in
    sym x.at_level ∙ ap (λ (p : Assignment). p.level) same ∙ y.at_level

pub true_by : (t : TrailState) (l : ℤ) (level : ℕ) → IsFalseAt t.assignments l level → has (lits t.assignments) (neg_ℤ l) ≡ true
true_by t l level x =
    let P : ℤ → Type 0 = λ m. has (lits t.assignments) m ≡ true in
    subst P x.negated (true_there t.assignments x.place x.assignment x.stands)
