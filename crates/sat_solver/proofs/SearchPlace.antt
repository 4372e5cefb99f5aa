-- The variables of the queue that are passed, since all of them are assigned.
use Rattle.std.proofs.Common.{◌≡◌, ℕ, ◌<◌, ◌≤◌, true, false, eqb, nat_abs, Option, Some, None, List, [], ◌∷◌, ◌++◌, length, refl, ap, sym, ◌∙◌, subst, arith, inl, inr}
use Rattle.std.specs.List.{find, slice_get, AllByRecursion, Contains}
use Rattle.std.specs.Option.{IfSome, is_none, option_or}
use Rattle.std.proofs.lemmas.Bool.{cases_Bool, cases_eq, eq-eqb, ne_eqb, both_ways}
use Rattle.std.proofs.lemmas.List.Elements.{All-from_recursion, recursion_from_All, All-contains, All-weaker, Contains-append_right}
use Rattle.std.proofs.lemmas.List.Folds.{find-append}
use Rattle.std.proofs.lemmas.Option.{same_Some}
use Rattle.sat_trail.specs.Trail.{Assignment, assignment_of}
use Rattle.sat_queue.specs.Order.{IsOrder, from_on, is_unassigned}
use Rattle.sat_queue.proofs.Ring.{var_stands}
use Rattle.sat_solver.specs.Decision.{before, AreAssigned, IsPassed}
use Rattle.sat_solver.proofs.Roots.{contains_head}

-- a variable that is found, and all before it are assigned
record Found (assignments : List Assignment) (xs : List ℕ) (w : ℕ) : Type 0 where
  free : is_unassigned assignments w ≡ true
  inside : Contains xs w
  passed : AllByRecursion (λ v. is_unassigned assignments v ≡ false) (before w xs)

found_later : (assignments : List Assignment) (x : ℕ) (xs : List ℕ) (w : ℕ) → is_unassigned assignments x ≡ false → Found assignments xs w → Found assignments (x ∷ xs) w
found_later assignments x xs w assigned h =
    let apart : x ≡ w → ⊥ = λ e. both_ways (is_unassigned assignments w) (ap (is_unassigned assignments) (sym e) ∙ assigned) h.free in
    record {
      free = h.free;
      inside = Contains-append_right (x ∷ []) xs w h.inside;
      passed = rw (ne_eqb x w apart) (assigned, h.passed);
    }

found_first : (assignments : List Assignment) (xs : List ℕ) (w : ℕ) → find (is_unassigned assignments) xs ≡ Some w → Found assignments xs w
found_first assignments [] w h = cc
found_first assignments (x ∷ xs) w h =
    elim (cases_Bool (is_unassigned assignments x)) [
      | inl e ↦ (let same : x ≡ w = same_Some x w (rw e at h) in
          let P : ℕ → Type 0 = λ y. Found assignments (x ∷ xs) y in
          subst P same (record { free = e; inside = contains_head x xs; passed = rw (eq-eqb x x refl) tt }))
      | inr e ↦ found_later assignments x xs w e (found_first assignments xs w (rw e at h))
    ]

found_from : (assignments : List Assignment) (xs : List ℕ) (v w : ℕ) → AllByRecursion (λ x. is_unassigned assignments x ≡ false) (before v xs) → find (is_unassigned assignments) (from_on v xs) ≡ Some w → Found assignments xs w
found_from assignments [] v w h k = cc
found_from assignments (x ∷ xs) v w h k =
    elim (cases_eq x v) [
      | inl e ↦ found_first assignments (x ∷ xs) w (rw (eq-eqb x v e) at k)
      | inr e ↦ (let parts : AllByRecursion (λ y. is_unassigned assignments y ≡ false) (x ∷ before v xs) = rw (ne_eqb x v e) at h in
          found_later assignments x xs w parts.0 (found_from assignments xs v w parts.1 (rw (ne_eqb x v e) at k)))
    ]

none_first : (assignments : List Assignment) (xs : List ℕ) → find (is_unassigned assignments) xs ≡ None → AllByRecursion (λ x. is_unassigned assignments x ≡ false) xs
none_first assignments [] h = tt
none_first assignments (x ∷ xs) h =
    elim (cases_Bool (is_unassigned assignments x)) [
      | inl e ↦ (let k : Some x ≡ None = rw e at h in cc)
      | inr e ↦ (e, none_first assignments xs (rw e at h))
    ]

none_from : (assignments : List Assignment) (xs : List ℕ) (v : ℕ) → AllByRecursion (λ x. is_unassigned assignments x ≡ false) (before v xs) → find (is_unassigned assignments) (from_on v xs) ≡ None → AllByRecursion (λ x. is_unassigned assignments x ≡ false) xs
none_from assignments [] v h k = tt
none_from assignments (x ∷ xs) v h k =
    elim (cases_eq x v) [
      | inl e ↦ none_first assignments (x ∷ xs) (rw (eq-eqb x v e) at k)
      | inr e ↦ (let parts : AllByRecursion (λ y. is_unassigned assignments y ≡ false) (x ∷ before v xs) = rw (ne_eqb x v e) at h in
          (parts.0, none_from assignments xs v parts.1 (rw (ne_eqb x v e) at k)))
    ]

-- ---- the variable that is found is the next one

pub next_passed : (queue : List ℕ) (assignments : List Assignment) (v : ℕ) (next : Option ℕ) → IsPassed queue assignments (Some v) → next ≡ find (is_unassigned assignments) (from_on v queue) → IsPassed queue assignments next
next_passed queue assignments v None h is =
    let P : ℕ → Type 0 = λ x. is_unassigned assignments x ≡ false in
    All-from_recursion P queue (none_from assignments queue v (recursion_from_All P (before v queue) h.1) (sym is))
next_passed queue assignments v (Some w) h is =
    let P : ℕ → Type 0 = λ x. is_unassigned assignments x ≡ false in
    let found = found_from assignments queue v w (recursion_from_All P (before v queue) h.1) (sym is) in
    (found.inside, All-from_recursion P (before w queue) found.passed)

pub next_unset : (queue : List ℕ) (assignments : List Assignment) (v : ℕ) (next : Option ℕ) → IsPassed queue assignments (Some v) → next ≡ find (is_unassigned assignments) (from_on v queue) → IfSome next (λ w. is_unassigned assignments w ≡ true)
next_unset queue assignments v None h is = tt
next_unset queue assignments v (Some w) h is =
    let P : ℕ → Type 0 = λ x. is_unassigned assignments x ≡ false in
    (found_from assignments queue v w (recursion_from_All P (before v queue) h.1) (sym is)).free

pub passed_in_range : (queue : List ℕ) (assignments : List Assignment) (vars : ℕ) (next : Option ℕ) → IsOrder queue → vars ≡ length queue → IsPassed queue assignments next → IfSome next (λ w. (0 < w) × (w ≤ vars))
passed_in_range queue assignments vars None order same h = tt
passed_in_range queue assignments vars (Some w) order same h =
    let P : ℕ → Type 0 = λ v. (0 < v) × (v ≤ length queue) in
    let range = All-contains P queue w order.in_range h.0 in
    (range.0, omega (arith, range.1))

-- ---- laws

-- where all are passed, each variable is assigned
pub all_assigned : (queue : List ℕ) (assignments : List Assignment) → IsOrder queue → IsPassed queue assignments None → (v : ℕ) → 0 < v → v ≤ length queue → is_unassigned assignments v ≡ false
all_assigned queue assignments order h v positive within =
    let P : ℕ → Type 0 = λ x. is_unassigned assignments x ≡ false in
    let s = var_stands queue v order positive within in
    let Q : List ℕ → Type 0 = λ xs. Contains xs v in
    All-contains P queue v h (subst Q (sym s.parts) (Contains-append_right s.before (v ∷ s.after) v (contains_head v s.after)))

-- the first variable is always one before which all are assigned
pub first_passed : (queue : List ℕ) (assignments : List Assignment) → IsPassed queue assignments (slice_get queue 0)
first_passed [] assignments = λ k d lt. absurd (grind arith)
first_passed (x ∷ xs) assignments = (contains_head x xs, rw (eq-eqb x x refl) (λ k d lt. absurd (grind arith)))

-- what is assigned stays so where the trail gets more
pub assigned_more : (assignments more : List Assignment) (v : ℕ) → is_unassigned assignments v ≡ false → is_unassigned (assignments ++ more) v ≡ false
assigned_more assignments more v h =
    ap is_none (find-append (λ (p : Assignment). eqb (nat_abs p.lit) v) assignments more) ∙ by_cases (assignment_of v assignments) h
  where
    by_cases : (o : Option Assignment) → is_none o ≡ false → is_none (option_or o (assignment_of v more)) ≡ false
    by_cases None k = cc
    by_cases (Some p) k = refl

assigned_all : (assignments more : List Assignment) (xs : List ℕ) → AreAssigned assignments xs → AreAssigned (assignments ++ more) xs
assigned_all assignments more xs h =
    All-weaker (λ v. is_unassigned assignments v ≡ false) (λ v. is_unassigned (assignments ++ more) v ≡ false) (λ v k. assigned_more assignments more v k) xs h

pub passed_more : (queue : List ℕ) (assignments more : List Assignment) (from : Option ℕ) → IsPassed queue assignments from → IsPassed queue (assignments ++ more) from
passed_more queue assignments more None h = assigned_all assignments more queue h
passed_more queue assignments more (Some v) h = (h.0, assigned_all assignments more (before v queue) h.1)
