-- The reasons of literals, and the clauses that they name.
use Rattle.std.proofs.Common.{◌≡◌, ℕ, ◌<◌, true, false, ◌||◌, ◌^◌, ℤ, pos, nat_abs, Option, Some, None, List, [], take, get_or, refl, ap, sym, ◌∙◌, subst, inl, inr}
use Rattle.std.specs.List.{slice_get, Contains}
use Rattle.std.specs.Option.{option_map, option_and_then}
use Rattle.std.proofs.lemmas.Bool.{or_cases}
use Rattle.std.proofs.lemmas.Option.{slice_get-map, slice_get_within, get_or_from_slice_get}
use Rattle.cnf_base.specs.Status.{same_lit, IsUnitIn}
use Rattle.cnf_base.proofs.Literals.{same_lit-true, has-head}
use Rattle.sat_trail.specs.declared.clause_id.ClauseId.{ClauseId}
use Rattle.sat_trail.specs.declared.clause_id.ClauseId.TheVariants as ids
use Rattle.sat_trail.specs.Trail.{Assignment, TrailState, IsTrail, lits, assignment_of}
use Rattle.sat_learn.specs.Reasons.{IsReason}
use Rattle.sat_learn.specs.Resolving.{StandsAt, IsExplained, IsAntecedent}
use Rattle.sat_learn.proofs.Assignments.{assignment_found, assignment_finds, reason_at}

-- the literal at a place is that of its assignment
pub lit_at : (ps : List Assignment) (place : ℕ) (p : Assignment) (lit : ℤ) → StandsAt ps place p → lit ≡ get_or (lits ps) place lit → lit ≡ p.lit
lit_at ps place p lit there is =
    let found : slice_get (lits ps) place ≡ Some p.lit = slice_get-map (λ (q : Assignment). q.lit) ps place ∙ ap (option_map (λ (q : Assignment). q.lit)) there in
    is ∙ get_or_from_slice_get (lits ps) place p.lit lit found

-- what is read of an assignment is its reason
pub reason_read : (t : TrailState) (place : ℕ) (p : Assignment) (var : ℕ) (reason : Option ClauseId) → IsTrail t → StandsAt t.assignments place p → nat_abs p.lit ≡ var → reason ≡ option_and_then (λ (q : Assignment). q.reason) (assignment_of var t.assignments) → reason ≡ p.reason
reason_read t place p var reason h there of_var is =
    is
    ∙ ap (λ v. option_and_then (λ (q : Assignment). q.reason) (assignment_of v t.assignments)) (sym of_var)
    ∙ ap (option_and_then (λ (q : Assignment). q.reason)) (assignment_finds t.assignments place p h.distinct there)

-- and where one is read it is that of an assignment
pub reason_assignment : (assignments : List Assignment) (var : ℕ) (reason : ClauseId) → Some reason ≡ option_and_then (λ (q : Assignment). q.reason) (assignment_of var assignments) → (place : ℕ) × (p : Assignment) × StandsAt assignments place p × (p.reason ≡ Some reason)
reason_assignment assignments var reason is = by_assignment (assignment_of var assignments) refl is
  where
    by_assignment : (found : Option Assignment) → assignment_of var assignments ≡ found → Some reason ≡ option_and_then (λ (q : Assignment). q.reason) found → (place : ℕ) × (p : Assignment) × StandsAt assignments place p × (p.reason ≡ Some reason)
    by_assignment None same e = cc
    by_assignment (Some p) same e = (let place = assignment_found var assignments p same in (place.0, p, place.1, sym e))

-- what a reason in the book says
pub book_reason : (clauses : List (List ℤ)) (proof_ids : List ℕ) (t : TrailState) (place : ℕ) (p : Assignment) (at : ℕ) → IsExplained clauses proof_ids t → StandsAt t.assignments place p → p.reason ≡ Some (ids.Book at) → (clause : List ℤ) × (slice_get clauses at ≡ Some clause) × IsUnitIn (lits (take place t.assignments)) clause p.lit
book_reason clauses proof_ids t place p at known there is =
    let R : Option ClauseId → Type 0 = λ r. IsReason clauses (lits (take place t.assignments)) p.lit r in
    subst R is (reason_at clauses [] t.assignments place p known.reasons there)

pub unit_reason : (clauses : List (List ℤ)) (proof_ids : List ℕ) (t : TrailState) (place : ℕ) (p : Assignment) (id : ℕ) → IsExplained clauses proof_ids t → StandsAt t.assignments place p → p.reason ≡ Some (ids.Unit id) → id < 2 ^ 62
unit_reason clauses proof_ids t place p id known there is =
    let R : Option ClauseId → Type 0 = λ r. IsReason clauses (lits (take place t.assignments)) p.lit r in
    subst R is (reason_at clauses [] t.assignments place p known.reasons there)

pub antecedent_book : (clauses : List (List ℤ)) (proof_ids : List ℕ) (t : TrailState) (place : ℕ) (p : Assignment) (at : ℕ) (clause : List ℤ) (hint : ℤ) → IsExplained clauses proof_ids t → StandsAt t.assignments place p → p.reason ≡ Some (ids.Book at) → slice_get clauses at ≡ Some clause → hint ≡ pos (get_or proof_ids at 0) → IsAntecedent clauses proof_ids t.assignments place p clause hint
antecedent_book clauses proof_ids t place p at clause hint known there is at_is hint_is =
    let reason = book_reason clauses proof_ids t place p at known there is in
    let same : reason.0 ≡ clause = (let e : Some reason.0 ≡ Some clause = sym reason.1 ∙ at_is in cc) in
    let U : List ℤ → Type 0 = λ c. IsUnitIn (lits (take place t.assignments)) c p.lit in
    let unit = subst U same reason.2 in
    record {
      false_before = λ m k differs. (unit.others m k differs).1;
      has_id = λ live has_id. (let names_it = has_id.book at clause at_is in
          (get_or proof_ids at 0, hint_is, names_it.0, names_it.1, names_it.2 p.lit ∙ unit.inside, λ m k differs. sym (names_it.2 m) ∙ k));
    }

pub antecedent_unit : (clauses : List (List ℤ)) (proof_ids : List ℕ) (t : TrailState) (place : ℕ) (p : Assignment) (id : ℕ) (hint : ℤ) → StandsAt t.assignments place p → p.reason ≡ Some (ids.Unit id) → hint ≡ pos id → IsAntecedent clauses proof_ids t.assignments place p [] hint
antecedent_unit clauses proof_ids t place p id hint there is hint_is =
    let member : Contains t.assignments p = (place, slice_get_within t.assignments place p there, get_or_from_slice_get t.assignments place p p there) in
    record {
      false_before = λ m k differs. cc;
      has_id = λ live has_id. (let names_it = has_id.units p id member is in (
        id,
        hint_is,
        names_it.0,
        names_it.1,
        names_it.2 p.lit ∙ has-head p.lit [],
        λ m k differs.
            absurd (only m (sym (names_it.2 m) ∙ k) differs),
      ));
    }
  where
    only : (m : ℤ) → (same_lit p.lit m || false) ≡ true → (m ≡ p.lit → ⊥) → ⊥
    only m k differs =
        elim (or_cases (same_lit p.lit m) false k) [
          | inl e ↦ differs (sym (same_lit-true p.lit m e))
          | inr e ↦ cc
        ]
