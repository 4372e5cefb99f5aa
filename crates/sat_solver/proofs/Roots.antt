-- Literals of level 0, and the clauses that they rest on.
use Rattle.std.proofs.Common.{◌≡◌, ℕ, zero, suc, ◌<◌, ◌≤◌, true, leb, ℤ, nat_abs, Option, Some, List, [], ◌∷◌, ◌++◌, length, get_or, map, refl, ap, sym, ◌∙◌, subst, ◌⊎◌, arith, inl, inr}
use Rattle.std.specs.List.{slice_get, All, Contains}
use Rattle.std.specs.Option.{option_map, option_and_then}
use Rattle.std.proofs.lemmas.Bool.{cases_Bool, or_cases, or_right, le-leb, leb-true}
use Rattle.std.proofs.lemmas.List.Elements.{All-contains, Contains-append_left, Contains-append_right, Contains-push}
use Rattle.std.proofs.lemmas.Option.{slice_get-map, slice_get_within}
use Rattle.cnf_base.specs.Status.{same_lit, has}
use Rattle.cnf_base.specs.Dimacs.{IsLiteral}
use Rattle.cnf_base.proofs.Literals.{same_lit-true, has-head}
use Rattle.sat_trail.specs.declared.clause_id.ClauseId.{ClauseId}
use Rattle.sat_trail.specs.declared.clause_id.ClauseId.TheVariants as ids
use Rattle.sat_trail.specs.Trail.{Assignment, TrailState, lits, upto, assignment_of, IsTrail}
use Rattle.sat_trail.proofs.Consistency.{has-upto}
use Rattle.sat_learn.specs.Resolving.{StandsAt}
use Rattle.sat_learn.proofs.Antecedents.{lit_at}
use Rattle.sat_learn.proofs.RootLevel.{upto_at}
use Rattle.sat_learn.proofs.Assignments.{assignment_finds, true_literal}
use Rattle.sat_solver.specs.InputClauses.{RestsOnUnit}
use Rattle.sat_solver.specs.Sound.{root}

-- ---- elements

pub contains_head : {X : Type 0} (x : X) (xs : List X) → Contains (x ∷ xs) x
contains_head x xs = (0, grind arith, refl)

pub contains_cases : {X : Type 0} (y : X) (ys : List X) (x : X) → Contains (y ∷ ys) x → (y ≡ x) ⊎ Contains ys x
contains_cases y ys x (zero, lt, is) = inl is
contains_cases y ys x (suc k, lt, is) = inr (k, grind arith, is)

pub contains_map : {X Y : Type 0} (f : X → Y) (xs : List X) (x : X) → Contains xs x → Contains (map f xs) (f x)
contains_map f [] x (k, lt, is) = absurd (grind arith)
contains_map f (y ∷ ys) x h =
    elim (contains_cases y ys x h) [
      | inl e ↦ subst (λ z. Contains (map f (y ∷ ys)) (f z)) e (contains_head (f y) (map f ys))
      | inr later ↦ Contains-append_right (f y ∷ []) (map f ys) (f x) (contains_map f ys x later)
    ]

pub from_map : {X Y : Type 0} (f : X → Y) (xs : List X) (y : Y) → Contains (map f xs) y → (x : X) × Contains xs x × (f x ≡ y)
from_map f [] y (k, lt, is) = absurd (grind arith)
from_map f (x ∷ xs) y h =
    elim (contains_cases (f x) (map f xs) y h) [
      | inl e ↦ (x, contains_head x xs, e)
      | inr later ↦ (let found = from_map f xs y later in (found.0, Contains-append_right (x ∷ []) xs found.0 found.1, found.2))
    ]

-- an element stands at a place
pub place_of : {X : Type 0} (xs : List X) (x : X) → Contains xs x → (i : ℕ) × (slice_get xs i ≡ Some x)
place_of [] x (k, lt, is) = absurd (grind arith)
place_of (y ∷ ys) x h =
    elim (contains_cases y ys x h) [
      | inl e ↦ (0, ap Some e)
      | inr later ↦ (let found = place_of ys x later in (suc found.0, found.1))
    ]

pub contains_at : {X : Type 0} (xs : List X) (i : ℕ) (x : X) → slice_get xs i ≡ Some x → Contains xs x
contains_at [] i x h = cc
contains_at (y ∷ ys) zero x h = let same : y ≡ x = cc in subst (λ z. Contains (y ∷ ys) z) same (contains_head y ys)
contains_at (y ∷ ys) (suc i) x h = Contains-append_right (y ∷ []) ys x (contains_at ys i x h)

-- ---- assignments up to a level

pub assignment_stays : (k : ℕ) (ps : List Assignment) (p : Assignment) → Contains ps p → p.level ≤ k → Contains (upto k ps) p
assignment_stays k [] p (i, lt, is) le = absurd (grind arith)
assignment_stays k (q ∷ qs) p h le =
    elim (contains_cases q qs p h) [
      | inl same ↦ (let level_is = ap (λ (r : Assignment). r.level) same in
          let within : leb q.level k ≡ true = le-leb q.level k (omega arith) in
          rw within (subst (λ r. Contains (q ∷ upto k qs) r) same (contains_head q (upto k qs))))
      | inr later ↦ (let rest = assignment_stays k qs p later le in
          elim (cases_Bool (leb q.level k)) [
            | inl e ↦ rw e (Contains-append_right (q ∷ []) (upto k qs) p rest)
            | inr e ↦ rw e rest
          ])
    ]

assignment_true : (ps : List Assignment) (p : Assignment) → Contains ps p → has (lits ps) p.lit ≡ true
assignment_true [] p (k, lt, is) = absurd (grind arith)
assignment_true (q ∷ qs) p h =
    elim (contains_cases q qs p h) [
      | inl same ↦ subst (λ (r : Assignment). has (lits (q ∷ qs)) r.lit ≡ true) same (has-head q.lit (lits qs))
      | inr later ↦ or_right (same_lit q.lit p.lit) (has (lits qs) p.lit) (assignment_true qs p later)
    ]

-- the assignment of a literal that is true
pub assignment_of_true : (ps : List Assignment) (l : ℤ) → has (lits ps) l ≡ true → (p : Assignment) × Contains ps p × (p.lit ≡ l)
assignment_of_true [] l h = cc
assignment_of_true (q ∷ qs) l h =
    elim (or_cases (same_lit q.lit l) (has (lits qs) l) h) [
      | inl e ↦ (q, contains_head q qs, same_lit-true q.lit l e)
      | inr e ↦ (let found = assignment_of_true qs l e in (found.0, Contains-append_right (q ∷ []) qs found.0 found.1, found.2))
    ]

pub level_upto : (k : ℕ) (ps : List Assignment) (p : Assignment) → Contains (upto k ps) p → p.level ≤ k
level_upto k [] p (i, lt, is) = absurd (grind arith)
level_upto k (q ∷ qs) p h =
    elim (cases_Bool (leb q.level k)) [
      | inl e ↦ (let here : Contains (q ∷ upto k qs) p = rw e at h in
          elim (contains_cases q (upto k qs) p here) [
            | inl same ↦ subst (λ (r : Assignment). r.level ≤ k) same (leb-true q.level k e)
            | inr later ↦ level_upto k qs p later
          ])
      | inr e ↦ level_upto k qs p (rw e at h)
    ]

-- an assignment of level 0 by its parts
pub root_is : (p : Assignment) (l : ℤ) (id : ClauseId) → p.lit ≡ l → p.level ≡ 0 → p.reason ≡ Some id → p ≡ root l id
root_is p l id is_lit at_root is_reason =
    let with_lit : ℤ → Assignment = λ x. record { lit = x; level = p.level; reason = p.reason } in
    let with_level : ℕ → Assignment = λ n. record { lit = l; level = n; reason = p.reason } in
    let with_reason : Option ClauseId → Assignment = λ r. record { lit = l; level = 0; reason = r } in
    ap with_lit is_lit ∙ ap with_level at_root ∙ ap with_reason is_reason

pub root_true : (ps : List Assignment) (l : ℤ) (id : ClauseId) → Contains ps (root l id) → has (lits (upto 0 ps)) l ≡ true
root_true ps l id h = assignment_true (upto 0 ps) (root l id) (assignment_stays 0 ps (root l id) h (omega arith))

-- ---- what rests on a unit clause

-- each literal that does so in the first of two trails does so in the second
abbrev pub KeepsUnits : List Assignment → List Assignment → Type 0
KeepsUnits assignments assignments' = (l : ℤ) (id : ℕ) → Contains assignments (root l (ids.Unit id)) → (n : ℕ) × Contains assignments' (root l (ids.Unit n))

pub units_same : (ps : List Assignment) → KeepsUnits ps ps
units_same ps l id h = (id, h)

pub units_more : (ps more : List Assignment) → KeepsUnits ps (ps ++ more)
units_more ps more l id h = (id, Contains-append_left ps more (root l (ids.Unit id)) h)

pub units_upto : (k : ℕ) (ps : List Assignment) → KeepsUnits ps (upto k ps)
units_upto k ps l id h = (id, assignment_stays k ps (root l (ids.Unit id)) h (omega arith))

pub unit_pushed : (ps : List Assignment) (l : ℤ) (id level : ℕ) → level ≡ 0 → Contains (ps ++ record { lit = l; level = level; reason = Some (ids.Unit id) } ∷ []) (root l (ids.Unit id))
unit_pushed ps l id level at_root =
    let made : ℕ → Assignment = λ n. record { lit = l; level = n; reason = Some (ids.Unit id) } in
    let P : Assignment → Type 0 = λ p. Contains (ps ++ made level ∷ []) p in
    subst P (ap made at_root) (Contains-push ps (made level))

-- where each assignment rests on a unit clause at level 0, a true literal does
pub unit_there : (ps : List Assignment) (l : ℤ) → upto 0 ps ≡ ps → All RestsOnUnit ps → has (lits ps) l ≡ true → (id : ℕ) × Contains ps (root l (ids.Unit id))
unit_there ps l at_root units h =
    let found = assignment_of_true ps l h in
    let p = found.0 in
    let id = All-contains RestsOnUnit ps p units found.1 in
    let level : p.level ≡ 0 = (let low = level_upto 0 ps p (subst (λ qs. Contains qs p) (sym at_root) found.1) in omega arith) in
    (id.0, subst (λ q. Contains ps q) (root_is p l (ids.Unit id.0) found.2 level id.1) found.1)

-- ---- the variable of such a literal

pub root_literal : (t : TrailState) (l : ℤ) (id : ClauseId) → IsTrail t → Contains t.assignments (root l id) → IsLiteral t.vars l
root_literal t l id trail h = true_literal t l trail (has-upto 0 t.assignments l (root_true t.assignments l id h))

pub root_found : (t : TrailState) (l : ℤ) (id : ClauseId) (var : ℕ) → IsTrail t → Contains t.assignments (root l id) → var ≡ nat_abs l → assignment_of var t.assignments ≡ Some (root l id)
root_found t l id var trail h is =
    let at = place_of t.assignments (root l id) h in
    let P : ℕ → Type 0 = λ v. assignment_of v t.assignments ≡ Some (root l id) in
    subst P (sym is) (assignment_finds t.assignments at.0 (root l id) trail.distinct at.1)

-- ---- the literal at a place of level 0

pub root_place : (t : TrailState) (place : ℕ) → IsTrail t → place < length (upto 0 t.assignments) → (p : Assignment) × StandsAt t.assignments place p × (p.level ≡ 0)
root_place t place trail lt =
    let found = upto_at 0 0 t.assignments t.level place trail.climbs lt in
    let low = found.2 in
    (found.0, found.1, omega arith)

pub root_within : (t : TrailState) (place : ℕ) → IsTrail t → place < length (upto 0 t.assignments) → place < length t.assignments
root_within t place trail lt =
    let p = root_place t place trail lt in
    slice_get_within t.assignments place p.0 p.1

pub root_lit : (t : TrailState) (place : ℕ) (lit : ℤ) → IsTrail t → place < length (upto 0 t.assignments) → lit ≡ get_or (lits t.assignments) place lit → slice_get (lits t.assignments) place ≡ Some lit
root_lit t place lit trail lt is =
    let p = root_place t place trail lt in
    slice_get-map (λ (q : Assignment). q.lit) t.assignments place ∙ ap (option_map (λ (q : Assignment). q.lit)) p.1 ∙ ap Some (sym (lit_at t.assignments place p.0 lit p.1 is))

-- by its reason
pub root_read : (t : TrailState) (place : ℕ) (lit : ℤ) (var : ℕ) (id : ClauseId) → IsTrail t → place < length (upto 0 t.assignments) → lit ≡ get_or (lits t.assignments) place lit → var ≡ nat_abs lit → option_and_then (λ (p : Assignment). p.reason) (assignment_of var t.assignments) ≡ Some id → Contains t.assignments (root lit id)
root_read t place lit var id trail lt is var_is read =
    let found = root_place t place trail lt in
    let p = found.0 in
    let lit_is = lit_at t.assignments place p lit found.1 is in
    let F : ℕ → Type 0 = λ v. assignment_of v t.assignments ≡ Some p in
    let finds = subst F (sym (var_is ∙ ap nat_abs lit_is)) (assignment_finds t.assignments place p trail.distinct found.1) in
    let reason : p.reason ≡ Some id = sym (ap (option_and_then (λ (q : Assignment). q.reason)) finds) ∙ read in
    subst (λ q. Contains t.assignments q) (root_is p lit id (sym lit_is) found.2 reason) (contains_at t.assignments place p found.1)
