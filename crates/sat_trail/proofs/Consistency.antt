-- No literal stands on a trail beside its negation, and what stands up to a level stands on the trail.
use Rattle.std.proofs.Common.{◌≡◌, ℕ, zero, suc, ◌≤◌, true, false, ◌||◌, eqb, leb, ℤ, pos, negsuc, neg_ℤ, nat_abs, List, [], ◌∷◌, map, refl, ap, sym, ◌∙◌, subst, inl, inr}
use Rattle.std.specs.List.{IsDistinct, AllByRecursion}
use Rattle.std.proofs.lemmas.Bool.{cases_Bool, or_cases, or_parts, or_from, or_left, or_right, both_ways, false_from_ne_true}
use Rattle.std.proofs.lemmas.List.Elements.{recursion_from_All}
use Rattle.std.proofs.lemmas.Map.Keys.{IsDistinct-head, IsDistinct-tail}
use Rattle.cnf_base.specs.Status.{same_lit, has}
use Rattle.cnf_base.specs.Dimacs.{IsLiteral}
use Rattle.cnf_base.proofs.Literals.{same_lit-true, neg_ℤ-neg_ℤ}
use Rattle.sat_trail.specs.Trail.{Assignment, TrailState, lits, upto, IsTrail}
use Rattle.sat_trail.proofs.Levels.{upto-upto}
use Rattle.sat_trail.proofs.LiteralValues.{touches-is, none_from}

negation_differs : (m : ℤ) → (m ≡ pos 0 → ⊥) → same_lit m (neg_ℤ m) ≡ false
negation_differs (pos zero) nz = absurd (nz refl)
negation_differs (pos (suc n)) nz = refl
negation_differs (negsuc n) nz = refl

once : (vars : ℕ) (ls : List ℤ) → IsDistinct eqb (map nat_abs ls) → AllByRecursion (IsLiteral vars) ls → (l : ℤ) → has ls l ≡ true → has ls (neg_ℤ l) ≡ false
once vars [] d range l h = cc
once vars (m ∷ ms) d range l h =
    let apart = none_from (nat_abs m) (map nat_abs ms) (IsDistinct-head eqb (nat_abs m) (map nat_abs ms) d) in
    let free = or_parts (has ms m) (has ms (neg_ℤ m)) (sym (touches-is ms m) ∙ apart) in
    elim (or_cases (same_lit m l) (has ms l) h) [
      | inl e ↦ (let P : ℤ → Type 0 = λ x. (same_lit m (neg_ℤ x) || has ms (neg_ℤ x)) ≡ false in
          subst P (same_lit-true m l e) (or_from (same_lit m (neg_ℤ m)) (has ms (neg_ℤ m)) (negation_differs m range.0.not_zero) free.1))
      | inr e ↦ (let differs : same_lit m (neg_ℤ l) ≡ false = false_from_ne_true (same_lit m (neg_ℤ l)) (λ k.
          let back : neg_ℤ m ≡ l = ap neg_ℤ (same_lit-true m (neg_ℤ l) k) ∙ neg_ℤ-neg_ℤ l in
          let P : ℤ → Type 0 = λ x. has ms x ≡ false in
          both_ways (has ms l) (subst P back free.1) e) in
          or_from (same_lit m (neg_ℤ l)) (has ms (neg_ℤ l)) differs (once vars ms (IsDistinct-tail eqb (nat_abs m) (map nat_abs ms) d) range.1 l e))
    ]

pub true_once : (t : TrailState) → IsTrail t → (l : ℤ) → has (lits t.assignments) l ≡ true → has (lits t.assignments) (neg_ℤ l) ≡ false
true_once t h l k = once t.vars (lits t.assignments) h.distinct (recursion_from_All (IsLiteral t.vars) (lits t.assignments) h.in_range) l k

pub false_once : (t : TrailState) → IsTrail t → (l : ℤ) → has (lits t.assignments) (neg_ℤ l) ≡ true → has (lits t.assignments) l ≡ false
false_once t h l k =
    let P : ℤ → Type 0 = λ x. has (lits t.assignments) x ≡ false in
    subst P (neg_ℤ-neg_ℤ l) (true_once t h (neg_ℤ l) k)

pub has-upto : (k : ℕ) (ps : List Assignment) (l : ℤ) → has (lits (upto k ps)) l ≡ true → has (lits ps) l ≡ true
has-upto k [] l h = h
has-upto k (p ∷ ps) l h =
    elim (cases_Bool (leb p.level k)) [
      | inl e ↦ (let here : (same_lit p.lit l || has (lits (upto k ps)) l) ≡ true = rw e at h in
          elim (or_cases (same_lit p.lit l) (has (lits (upto k ps)) l) here) [
            | inl f ↦ or_left (same_lit p.lit l) (has (lits ps) l) f
            | inr f ↦ or_right (same_lit p.lit l) (has (lits ps) l) (has-upto k ps l f)
          ])
      | inr e ↦ (let here : has (lits (upto k ps)) l ≡ true = rw e at h in
          or_right (same_lit p.lit l) (has (lits ps) l) (has-upto k ps l here))
    ]

pub has-upto_more : (j k : ℕ) (ps : List Assignment) (l : ℤ) → j ≤ k → has (lits (upto j ps)) l ≡ true → has (lits (upto k ps)) l ≡ true
has-upto_more j k ps l le h =
    let P : List Assignment → Type 0 = λ qs. has (lits qs) l ≡ true in
    has-upto j (upto k ps) l (subst P (sym (upto-upto j k ps le)) h)
