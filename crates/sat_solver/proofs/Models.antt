-- A trail that has all variables, and makes no clause of the book false, satisfies what the book and the trail stand for.
use Rattle.std.proofs.Common.{◌≡◌, ℕ, zero, suc, ◌-◌, ◌<◌, ◌≤◌, Bool, true, false, not, eqb, ℤ, pos, negsuc, neg_ℤ, nat_abs, List, [], ◌∷◌, get_or, map, refl, ap, sym, ◌∙◌, subst, arith, inl, inr}
use Rattle.std.specs.List.{list_any, All, AllByRecursion, Contains}
use Rattle.std.proofs.lemmas.Bool.{cases_Bool, cases_eq, or_cases, or_left, or_right, eq-eqb, ne_eqb, both_ways}
use Rattle.std.proofs.lemmas.List.Elements.{All-contains, recursion_from_All, Contains-append_right}
use Rattle.cnf_base.specs.Dimacs.{IsLiteral}
use Rattle.cnf_base.specs.Status.{same_lit, has, IsFalsifiedIn}
use Rattle.cnf_base.specs.Meaning.{lit_true, clause_true, Satisfies, value_of}
use Rattle.cnf_base.proofs.Literals.{same_lit-true, same_lit-itself, list_any-found, list_any-none}
use Rattle.sat_trail.specs.declared.clause_id.ClauseId.TheVariants as ids
use Rattle.sat_trail.specs.Trail.{Assignment, TrailState, lits, IsTrail}
use Rattle.sat_trail.proofs.Consistency.{false_once, has-upto}
use Rattle.sat_trail.proofs.LiteralValues.{touches, touches-is}
use Rattle.sat_queue.specs.Order.{is_unassigned}
use Rattle.sat_watch.specs.Book.{BookState, IsBookClause, NoneFalse}
use Rattle.sat_solver.specs.Sound.{IsCovered, IsSound}
use Rattle.sat_solver.proofs.Roots.{root_true}

-- ---- literals of a trail

pub literal_in : (vars : ℕ) (ls : List ℤ) (l : ℤ) → AllByRecursion (IsLiteral vars) ls → has ls l ≡ true → IsLiteral vars l
literal_in vars [] l h k = cc
literal_in vars (m ∷ ms) l h k =
    elim (or_cases (same_lit m l) (has ms l) k) [
      | inl e ↦ (let P : ℤ → Type 0 = λ x. IsLiteral vars x in subst P (same_lit-true m l e) h.0)
      | inr e ↦ literal_in vars ms l h.1 e
    ]

-- an assigned variable has a literal on the trail
assigned_touched : (ps : List Assignment) (v : ℕ) → is_unassigned ps v ≡ false → list_any (eqb v) (map nat_abs (lits ps)) ≡ true
assigned_touched [] v h = cc
assigned_touched (p ∷ ps) v h =
    elim (cases_eq (nat_abs p.lit) v) [
      | inl e ↦ or_left (eqb v (nat_abs p.lit)) (list_any (eqb v) (map nat_abs (lits ps))) (eq-eqb v (nat_abs p.lit) (sym e))
      | inr e ↦ or_right (eqb v (nat_abs p.lit)) (list_any (eqb v) (map nat_abs (lits ps))) (assigned_touched ps v (rw (ne_eqb (nat_abs p.lit) v e) at h))
    ]

-- ---- clauses that are true

clause_true_at : (v : ℕ → Bool) (c : List ℤ) (l : ℤ) → has c l ≡ true → lit_true v l ≡ true → clause_true v c ≡ true
clause_true_at v [] l h k = cc
clause_true_at v (m ∷ ms) l h k =
    elim (or_cases (same_lit m l) (has ms l) h) [
      | inl e ↦ (let P : ℤ → Type 0 = λ x. lit_true v x ≡ true in or_left (lit_true v m) (clause_true v ms) (subst P (sym (same_lit-true m l e)) k))
      | inr e ↦ or_right (lit_true v m) (clause_true v ms) (clause_true_at v ms l e k)
    ]

-- a clause with a literal both ways
both_ways_true : (v : ℕ → Bool) (c : List ℤ) (l : ℤ) → has c l ≡ true → has c (neg_ℤ l) ≡ true → clause_true v c ≡ true
both_ways_true v c (pos zero) h k = clause_true_at v c (pos 0) h refl
both_ways_true v c (pos (suc n)) h k =
    elim (cases_Bool (v (suc n))) [
      | inl e ↦ clause_true_at v c (pos (suc n)) h e
      | inr e ↦ clause_true_at v c (negsuc n) k (ap not e)
    ]
both_ways_true v c (negsuc n) h k =
    elim (cases_Bool (v (suc n))) [
      | inl e ↦ clause_true_at v c (pos (suc n)) k e
      | inr e ↦ clause_true_at v c (negsuc n) h (ap not e)
    ]

each_satisfied : (v : ℕ → Bool) (done : List (List ℤ)) → ((c : List ℤ) → Contains done c → clause_true v c ≡ true) → Satisfies v done
each_satisfied v [] h = tt
each_satisfied v (c ∷ cs) h = (h c (0, grind arith, refl), each_satisfied v cs (λ d there. h d (Contains-append_right (c ∷ []) cs d there)))

-- ---- the values of a trail that has all variables

-- the values are those of the trail
pub record AreValuesOf (vars : ℕ) (t : TrailState) (bits : List Bool) : Type 0 where
  pub trail_vars : t.vars ≡ vars
  pub trail : IsTrail t
  pub assigned : (x : ℕ) → 0 < x → x ≤ vars → is_unassigned t.assignments x ≡ false
  pub each : (x : ℕ) → 0 < x → x ≤ vars → get_or bits (x - 1) false ≡ has (lits t.assignments) (pos x)

pub literal_true : (vars : ℕ) (t : TrailState) (bits : List Bool) (l : ℤ) → AreValuesOf vars t bits → IsLiteral vars l → has (lits t.assignments) l ≡ true → lit_true (value_of bits) l ≡ true
literal_true vars t bits (pos zero) h in_range k = refl
literal_true vars t bits (pos (suc n)) h in_range k = h.each (suc n) (omega arith) in_range.variable ∙ k
literal_true vars t bits (negsuc n) h in_range k =
    let other : has (lits t.assignments) (pos (suc n)) ≡ false = false_once t h.trail (pos (suc n)) k in
    ap not (h.each (suc n) (omega arith) in_range.variable ∙ other)

variable_positive : (l : ℤ) → (l ≡ pos 0 → ⊥) → 0 < nat_abs l
variable_positive (pos zero) nz = absurd (nz refl)
variable_positive (pos (suc n)) nz = omega arith
variable_positive (negsuc n) nz = omega arith

-- a literal that isn't true is false
false_literal : (vars : ℕ) (t : TrailState) (bits : List Bool) (l : ℤ) → AreValuesOf vars t bits → IsLiteral vars l → has (lits t.assignments) l ≡ false → has (lits t.assignments) (neg_ℤ l) ≡ true
false_literal vars t bits l h in_range k =
    let there : touches (lits t.assignments) l ≡ true = assigned_touched t.assignments (nat_abs l) (h.assigned (nat_abs l) (variable_positive l in_range.not_zero) in_range.variable) in
    elim (or_cases (has (lits t.assignments) l) (has (lits t.assignments) (neg_ℤ l)) (sym (touches-is (lits t.assignments) l) ∙ there)) [
      | inl e ↦ absurd (both_ways (has (lits t.assignments) l) k e)
      | inr e ↦ e
    ]

-- a clause that isn't false has a true literal
true_there : (vars : ℕ) (t : TrailState) (bits : List Bool) (c : List ℤ) → AreValuesOf vars t bits → AllByRecursion (IsLiteral vars) c → ¬ IsFalsifiedIn (lits t.assignments) c → (l : ℤ) × (has c l ≡ true) × (has (lits t.assignments) l ≡ true)
true_there vars t bits c h in_range not_false =
    elim (cases_Bool (list_any (has (lits t.assignments)) c)) [
      | inl e ↦ list_any-found (has (lits t.assignments)) c e
      | inr e ↦ absurd (not_false (λ l inside.
          let unmet = list_any-none (has (lits t.assignments)) c e l inside in
          (unmet, false_literal vars t bits l h (literal_in vars c l in_range inside) unmet)))
    ]

covered_true : (vars : ℕ) (b : BookState) (t : TrailState) (bits : List Bool) (clause : List ℤ) → AreValuesOf vars t bits → All (IsBookClause vars) b.clauses → NoneFalse b.clauses (lits t.assignments) → IsCovered b.clauses t.assignments clause → clause_true (value_of bits) clause ≡ true
covered_true vars b t bits clause h book none_false (inl both) = both_ways_true (value_of bits) clause both.0 both.1 both.2
covered_true vars b t bits clause h book none_false (inr (inl unit)) =
    let l = unit.0 in
    let on_trail = has-upto 0 t.assignments l (root_true t.assignments l (ids.Unit unit.1) unit.3) in
    let P : ℕ → Type 0 = λ n. All (IsLiteral n) (lits t.assignments) in
    let in_range = literal_in vars (lits t.assignments) l (recursion_from_All (IsLiteral vars) (lits t.assignments) (subst P h.trail_vars h.trail.in_range)) on_trail in
    clause_true_at (value_of bits) clause l (unit.2 l ∙ or_left (same_lit l l) false (same_lit-itself l)) (literal_true vars t bits l h in_range on_trail)
covered_true vars b t bits clause h book none_false (inr (inr held)) =
    let c = held.0 in
    let B : List ℤ → Type 0 = λ d. IsBookClause vars d in
    let N : List ℤ → Type 0 = λ d. ¬ IsFalsifiedIn (lits t.assignments) d in
    let kept = All-contains B b.clauses c book held.1 in
    let in_range = recursion_from_All (IsLiteral vars) c kept.in_range in
    let found = true_there vars t bits c h in_range (All-contains N b.clauses c none_false held.1) in
    clause_true_at (value_of bits) clause found.0 (held.2 found.0 ∙ found.1) (literal_true vars t bits found.0 h (literal_in vars c found.0 in_range found.1) found.2)

-- the values satisfy all clauses for which the book and the trail stand
pub satisfied : (vars : ℕ) (live : List (ℕ × List ℤ)) (done : List (List ℤ)) (proof_ids : List ℕ) (b : BookState) (t : TrailState) (bits : List Bool) → IsSound vars live done proof_ids b t → AreValuesOf vars t bits → All (IsBookClause vars) b.clauses → NoneFalse b.clauses (lits t.assignments) → Satisfies (value_of bits) done
satisfied vars live done proof_ids b t bits sound h book none_false =
    each_satisfied (value_of bits) done (λ clause there. covered_true vars b t bits clause h book none_false (sound.covered clause there))
