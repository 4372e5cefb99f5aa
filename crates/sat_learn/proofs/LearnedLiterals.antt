-- The learned clause from what is marked in the end.
use Rattle.std.proofs.Common.{◌≡◌, ℕ, ◌+◌, ◌<◌, ◌≤◌, max, Bool, true, false, cond, eqb, ℤ, neg_ℤ, nat_abs, List, [], ◌∷◌, ◌++◌, length, map, take, get_or, refl, ap, sym, ◌∙◌, subst, arith, inl, inr}
use Rattle.std.specs.List.{All, list_any, IsDistinct}
use Rattle.std.proofs.lemmas.Bool.{cases_lt, cases_Bool, or_cases, or_left, or_right, or_parts, both_ways, eq-eqb, false_from_ne_true}
use Rattle.std.proofs.lemmas.List.{take_more}
use Rattle.std.proofs.lemmas.List.Elements.{All-cons}
use Rattle.std.proofs.lemmas.Map.Keys.{IsDistinct-cons}
use Rattle.cnf_base.specs.Status.{same_lit, has}
use Rattle.cnf_base.specs.Dimacs.{IsLiteral}
use Rattle.cnf_base.proofs.Literals.{same_lit-true, neg_ℤ-neg_ℤ, has-head, has-append, nat_abs-neg_ℤ}
use Rattle.sat_learn.specs.Reasons.{Follows}
use Rattle.sat_trail.specs.Trail.{Assignment, TrailState, IsTrail, lits, upto}
use Rattle.sat_trail.proofs.LiteralValues.{each_from}
use Rattle.sat_learn.specs.Learned.{AreAtRoot, IsLearned}
use Rattle.sat_learn.specs.Resolving.{is_marked, Refutes, IsFalseAt}
use Rattle.sat_learn.specs.Tracking.{IsGreatestLevel, IsResolved}
use Rattle.sat_learn.proofs.Assignments.{assignment_there, one_assignment, false_at_one, true_by, upto_true, true_upto, true_literal}
use Rattle.sat_learn.proofs.Refutation.{refutes_end}
use Rattle.sat_learn.proofs.MarkedLiterals.{has_at}
use Rattle.sat_learn.proofs.Tracking.{any_var}

-- ---- false literals

false_upto : (t : TrailState) (l : ℤ) (level k : ℕ) → IsFalseAt t.assignments l level → level ≤ k → has (lits (upto k t.assignments)) (neg_ℤ l) ≡ true
false_upto t l level k x le =
    let P : ℤ → Type 0 = λ m. has (lits (upto k t.assignments)) m ≡ true in
    let level_is = x.at_level in
    subst P x.negated (upto_true k t.assignments x.place x.assignment x.stands (omega arith))

free_upto : (t : TrailState) (l : ℤ) (level k : ℕ) → IsTrail t → IsFalseAt t.assignments l level → k < level → has (lits (upto k t.assignments)) (neg_ℤ l) ≡ false
free_upto t l level k h x lt =
    false_from_ne_true (has (lits (upto k t.assignments)) (neg_ℤ l)) (λ e.
    let found = true_upto k t.assignments (neg_ℤ l) e in
    let low = found.4 in
    let same : found.1 ≡ x.assignment = one_assignment t found.0 x.place found.1 x.assignment h found.2 x.stands (ap nat_abs (found.3 ∙ sym x.negated)) in
    let level_is : found.1.level ≡ level = ap (λ (p : Assignment). p.level) same ∙ x.at_level in
    absurd (omega arith))

pub false_literal : (t : TrailState) (l : ℤ) → IsTrail t → has (lits t.assignments) (neg_ℤ l) ≡ true → IsLiteral t.vars l
false_literal t l h there =
    let literal = true_literal t (neg_ℤ l) h there in
    let P : ℕ → Type 0 = λ n. n ≤ t.vars in
    record {
      not_zero = λ e. literal.not_zero (ap neg_ℤ e);
      variable = subst P (nat_abs-neg_ℤ l) literal.variable;
    }

-- a true literal of a false one's variable is its negation
pub negation_of : (t : TrailState) (l m : ℤ) (level : ℕ) → IsTrail t → has (lits t.assignments) l ≡ true → IsFalseAt t.assignments m level → nat_abs m ≡ nat_abs l → m ≡ neg_ℤ l
negation_of t l m level h true_l x same =
    let found = assignment_there t.assignments l true_l in
    let one : found.1 ≡ x.assignment = one_assignment t found.0 x.place found.1 x.assignment h found.2 x.stands (ap nat_abs found.3 ∙ sym same ∙ sym (nat_abs-neg_ℤ m) ∙ ap nat_abs (sym x.negated)) in
    let lit_is : l ≡ neg_ℤ m = sym found.3 ∙ ap (λ (p : Assignment). p.lit) one ∙ x.negated in
    sym (ap neg_ℤ lit_is ∙ neg_ℤ-neg_ℤ m)

-- ---- the greatest level

pub greatest_more : (t : TrailState) (kept : List ℤ) (i : ℕ) (lit : ℤ) (greatest level more : ℕ) → i < length kept → lit ≡ get_or kept i lit → IsGreatestLevel t (take i kept) greatest → IsFalseAt t.assignments lit level → more ≡ max level greatest → IsGreatestLevel t (take (i + 1) kept) more
greatest_more t kept i lit greatest level more lt is h x more_is =
    let grown : take (i + 1) kept ≡ take i kept ++ lit ∷ [] = take_more kept i lit lt ∙ ap (λ l. take i kept ++ l ∷ []) (sym is) in
    let P : List ℤ → Type 0 = λ ls. IsGreatestLevel t ls more in
    subst P (sym grown) (record {
      covers = λ l k. elim (or_cases (has (take i kept) l) (has (lit ∷ []) l) (sym (has-append (take i kept) (lit ∷ []) l) ∙ k)) [
        | inl e ↦ (let old = h.covers l e in let le = old.1 in (old.0, omega arith, old.2))
        | inr e ↦ elim (or_cases (same_lit lit l) false e) [
          | inl f ↦ (let F : ℤ → Type 0 = λ y. IsFalseAt t.assignments y level in (level, omega arith, subst F (same_lit-true lit l f) x))
          | inr f ↦ cc
        ]
      ];
      reached = elim (cases_lt greatest level) [
        | inl above ↦ (let same : level ≡ more = omega arith in
            let F : ℕ → Type 0 = λ n. IsFalseAt t.assignments lit n in
            inr (lit, has-append (take i kept) (lit ∷ []) lit ∙ or_right (has (take i kept) lit) (has (lit ∷ []) lit) (has-head lit []), subst F same x))
        | inr within ↦ (let same : greatest ≡ more = omega arith in
            elim h.reached [
              | inl none ↦ inl (sym same ∙ none)
              | inr some ↦ (let F : ℕ → Type 0 = λ n. IsFalseAt t.assignments some.0 n in
                  inr (some.0, has-append (take i kept) (lit ∷ []) some.0 ∙ or_left (has (take i kept) some.0) (has (lit ∷ []) some.0) some.1, subst F same some.2))
            ])
      ];
    })

pub greatest_none : (t : TrailState) → IsGreatestLevel t [] 0
greatest_none t = record { covers = λ l k. cc; reached = inl refl }

-- ---- the learned clause

-- the literal at the place is that of no kept one
first_uip_apart : (t : TrailState) (marks : List Bool) (kept : List ℤ) (place : ℕ) (first : ℤ) (h : IsResolved t marks kept place first) → IsTrail t → list_any (eqb (nat_abs h.assignment.lit)) (map nat_abs kept) ≡ false
first_uip_apart t marks kept place first h trail =
    false_from_ne_true (list_any (eqb (nat_abs h.assignment.lit)) (map nat_abs kept)) (λ e.
    let found = any_var (nat_abs h.assignment.lit) kept e in
    let k = h.kept_false found.0 found.1 in
    let below = k.3 in
    let same : k.1.assignment ≡ h.assignment = one_assignment t k.1.place place k.1.assignment h.assignment trail k.1.stands h.stands (ap nat_abs k.1.negated ∙ nat_abs-neg_ℤ found.0 ∙ found.2) in
    let levels : k.0 ≡ t.level = sym k.1.at_level ∙ ap (λ (p : Assignment). p.level) same ∙ h.at_level in
    absurd (omega arith))

first_uip_false : (t : TrailState) (marks : List Bool) (kept : List ℤ) (place : ℕ) (first : ℤ) (h : IsResolved t marks kept place first) → IsFalseAt t.assignments first t.level
first_uip_false t marks kept place first h =
    record {
      assignment = h.assignment;
      place = place;
      stands = h.stands;
      negated = sym (ap neg_ℤ h.negated ∙ neg_ℤ-neg_ℤ h.assignment.lit);
      at_level = h.at_level;
    }

pub learned_from : (t : TrailState) (marks : List Bool) (kept : List ℤ) (place : ℕ) (first : ℤ) (backjump_level : ℕ) (hints : List ℤ) (roots : List ℕ) (met : List ℤ) (h : IsResolved t marks kept place first) → IsTrail t → IsGreatestLevel t kept backjump_level → AreAtRoot t.assignments roots → All (IsLiteral t.vars) met → IsLearned t (record { lits = first ∷ kept; backjump_level = backjump_level; hints = hints; roots = roots; met = met })
learned_from t marks kept place first backjump_level hints roots met h trail greatest at_root met_in_range =
    let is = h.negated in
    let first_uip = first_uip_false t marks kept place first h in
    let above = h.above in
    let D : ℕ → Type 0 = λ n. IsDistinct eqb (n ∷ map nat_abs kept) in
    record {
      first = first;
      others = kept;
      form = refl;
      in_range = All-cons (IsLiteral t.vars) first kept (false_literal t first trail (true_by t first t.level first_uip)) (λ k d lt.
          let l = get_or kept k d in
          let x = h.kept_false l (has_at kept k l d lt refl) in
          false_literal t l trail (true_by t l x.0 x.1));
      distinct = subst D (sym (ap nat_abs is ∙ nat_abs-neg_ℤ h.assignment.lit)) (IsDistinct-cons eqb (nat_abs h.assignment.lit) (map nat_abs kept) (each_from (nat_abs h.assignment.lit) (map nat_abs kept) (first_uip_apart t marks kept place first h trail)) h.distinct);
      first_false = false_upto t first t.level t.level first_uip (omega arith);
      first_free = λ k lt. free_upto t first t.level k trail first_uip lt;
      backjump_below = elim greatest.reached [
        | inl none ↦ omega arith
        | inr some ↦ (let x = h.kept_false some.0 some.1 in
            let same = false_at_one t some.0 backjump_level x.0 trail some.2 x.1 in
            let below = x.3 in
            omega arith)
      ];
      others_false = λ l k. (let x = greatest.covers l k in false_upto t l x.0 backjump_level x.2 x.1);
      backjump_least = λ k lt. elim greatest.reached [
        | inl none ↦ absurd (omega arith)
        | inr some ↦ (some.0, some.1, free_upto t some.0 backjump_level k trail some.2 lt)
      ];
      at_root = at_root;
      met_in_range = met_in_range;
    }

-- nothing is marked when these are unmarked
pub none_marked : (t : TrailState) (marks : List Bool) (kept : List ℤ) (place : ℕ) (first : ℤ) (after : List Bool) (h : IsResolved t marks kept place first) → ((v : ℕ) → get_or after v false ≡ cond (list_any (eqb v) (map nat_abs (first ∷ kept))) false (get_or marks v false)) → (v : ℕ) → get_or after v false ≡ false
none_marked t marks kept place first after h each v =
    let is = h.negated in
    each v ∙ (elim (cases_Bool (list_any (eqb v) (map nat_abs (first ∷ kept)))) [
      | inl e ↦ ap (λ b. cond b false (get_or marks v false)) e
      | inr e ↦ ap (λ b. cond b false (get_or marks v false)) e ∙ false_from_ne_true (get_or marks v false) (λ marked.
          let parts = or_parts (eqb v (nat_abs first)) (list_any (eqb v) (map nat_abs kept)) e in
          elim (h.marked v marked) [
            | inl k ↦ both_ways (eqb v (nat_abs first)) parts.0 (eq-eqb v (nat_abs first) (sym k ∙ sym (nat_abs-neg_ℤ h.assignment.lit) ∙ ap nat_abs (sym is)))
            | inr k ↦ both_ways (list_any (eqb v) (map nat_abs kept)) parts.1 k
          ])
    ])

pub learned_follows : (t : TrailState) (marks : List Bool) (kept : List ℤ) (place : ℕ) (first : ℤ) (live : List (ℕ × List ℤ)) (hints : List ℤ) (h : IsResolved t marks kept place first) → IsTrail t → Refutes live (lits t.assignments) marks hints → Follows live (map neg_ℤ (first ∷ kept)) hints
learned_follows t marks kept place first live hints h trail refutes =
    refutes_end live (lits t.assignments) marks hints (first ∷ kept) each within refutes
  where
    each : (l : ℤ) → has (lits t.assignments) l ≡ true → is_marked marks l ≡ true → has (first ∷ kept) (neg_ℤ l) ≡ true
    each l true_l marked =
        let P : ℤ → Type 0 = λ x. has (first ∷ kept) x ≡ true in
        elim (h.marked (nat_abs l) marked) [
          | inl e ↦ (let same : first ≡ neg_ℤ l = negation_of t l first t.level trail true_l (first_uip_false t marks kept place first h) (ap nat_abs h.negated ∙ nat_abs-neg_ℤ h.assignment.lit ∙ e) in
              subst P same (has-head first kept))
          | inr e ↦ (let found = any_var (nat_abs l) kept e in
              let x = h.kept_false found.0 found.1 in
              let same : found.0 ≡ neg_ℤ l = negation_of t l found.0 x.0 trail true_l x.1 found.2 in
              subst P same (or_right (same_lit first found.0) (has kept found.0) found.1))
        ]

    within : (l : ℤ) → has (first ∷ kept) (neg_ℤ l) ≡ true → has (lits t.assignments) l ≡ true
    within l k =
        let P : ℤ → Type 0 = λ x. has (lits t.assignments) x ≡ true in
        elim (or_cases (same_lit first (neg_ℤ l)) (has kept (neg_ℤ l)) k) [
          | inl e ↦ (let same : neg_ℤ first ≡ l = ap neg_ℤ (same_lit-true first (neg_ℤ l) e) ∙ neg_ℤ-neg_ℤ l in
              subst P same (true_by t first t.level (first_uip_false t marks kept place first h)))
          | inr e ↦ (let x = h.kept_false (neg_ℤ l) e in subst P (neg_ℤ-neg_ℤ l) (true_by t (neg_ℤ l) x.0 x.1))
        ]
