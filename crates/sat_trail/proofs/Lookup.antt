-- What is read of a trail.
use Rattle.std.proofs.Common.{◌≡◌, ℕ, ◌<◌, ◌≤◌, ℤ, pos, nat_abs, Some, None, List, length, map, take, get_or, ap, sym, ◌∙◌, subst, arith, inl, inr}
use Rattle.std.proofs.lemmas.Bool.{cases_Bool}
use Rattle.std.proofs.lemmas.List.{length-map, get_or-map, get_or_default}
use Rattle.sat_trail.specs.declared.truth.Value.{Value}
use Rattle.sat_trail.specs.declared.truth.Value.TheVariants.{Unset}
use Rattle.sat_trail.specs.declared.cause.Cause.{Cause}
use Rattle.sat_trail.specs.Trail.{Assignment, levels, value_in, assignment_of}
use Rattle.sat_trail.specs.Kept.{no_cause, assignment_with, assignment_from, state_of, kept_value, IsKept}
use Rattle.sat_trail.proofs.LiteralValues.{touches, unset_touches, untouched_unset}
use Rattle.sat_trail.proofs.Representation.{lits-assignments, find_touched, find_untouched}

-- a place that is read has one value, whatever stands past the end
pub get_or_any : {X : Type 0} (xs : List X) (i : ℕ) (x d : X) → i < length xs → x ≡ get_or xs i x → get_or xs i d ≡ x
get_or_any xs i x d lt is = get_or_default xs i d x lt ∙ sym is

touched_is : (vars count level low : ℕ) (causes : List Cause) (all_lits : List ℤ) (values : List Value) (ends : List ℕ) (var : ℕ) → IsKept (state_of vars count level low causes all_lits) count all_lits values causes ends → var ≤ vars → kept_value values (pos var) ≡ value_in (take count all_lits) (pos var)
touched_is vars count level low causes all_lits values ends var h within =
    let P : List ℤ → Type 0 = λ ls. kept_value values (pos var) ≡ value_in ls (pos var) in
    subst P (lits-assignments causes (take count all_lits)) (h.values_agree (pos var) within)

pub assignment_of_unset : (vars count level low : ℕ) (causes : List Cause) (all_lits : List ℤ) (values : List Value) (ends : List ℕ) (var : ℕ) → IsKept (state_of vars count level low causes all_lits) count all_lits values causes ends → var ≤ vars → kept_value values (pos var) ≡ Unset → assignment_of var (map (assignment_from causes) (take count all_lits)) ≡ None
assignment_of_unset vars count level low causes all_lits values ends var h within unset =
    find_untouched causes (take count all_lits) var (unset_touches (take count all_lits) (pos var) (sym (touched_is vars count level low causes all_lits values ends var h within) ∙ unset))

pub assignment_of_set : (vars count level low : ℕ) (causes : List Cause) (all_lits : List ℤ) (values : List Value) (ends : List ℕ) (var : ℕ) (cause : Cause) → IsKept (state_of vars count level low causes all_lits) count all_lits values causes ends → var ≤ vars → (kept_value values (pos var) ≡ Unset → ⊥) → cause ≡ get_or causes var cause → (l : ℤ) × (assignment_of var (map (assignment_from causes) (take count all_lits)) ≡ Some (assignment_with cause l))
assignment_of_set vars count level low causes all_lits values ends var cause h within set is =
    elim (cases_Bool (touches (take count all_lits) (pos var))) [
      | inl e ↦ (let found = find_touched causes (take count all_lits) var e in
          let lt : var < length causes = (let room = h.causes_room in omega arith) in
          let same : get_or causes (nat_abs found.0) no_cause ≡ cause = ap (λ n. get_or causes n no_cause) found.1 ∙ get_or_any causes var cause no_cause lt is in
          (found.0, found.2 ∙ ap (λ c. Some (assignment_with c found.0)) same))
      | inr e ↦ absurd (set (touched_is vars count level low causes all_lits values ends var h within ∙ untouched_unset (take count all_lits) (pos var) e))
    ]

-- the level of the literal at a place
pub level_read : (causes : List Cause) (ls : List ℤ) (place : ℕ) (lit : ℤ) (cause : Cause) → place < length ls → lit ≡ get_or ls place lit → nat_abs lit < length causes → cause ≡ get_or causes (nat_abs lit) cause → cause.level ≡ get_or (levels (map (assignment_from causes) ls)) place 0
level_read causes ls place lit cause lt lit_is room cause_is =
    let assignments = map (assignment_from causes) ls in
    let here : get_or ls place lit ≡ lit = sym lit_is in
    let wide : place < length assignments = omega (arith, length-map ls (assignment_from causes)) in
    sym
    (get_or-map (λ (p : Assignment). p.level) assignments place (assignment_from causes lit) 0 wide
    ∙ ap (λ (p : Assignment). p.level) (get_or-map (assignment_from causes) ls place lit (assignment_from causes lit) lt)
    ∙ ap (λ l. (assignment_from causes l).level) here
    ∙ ap (λ (c : Cause). c.level) (get_or_any causes (nat_abs lit) cause no_cause room cause_is))
