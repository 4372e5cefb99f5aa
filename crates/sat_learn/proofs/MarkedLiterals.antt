-- Marks on variables, and the last marked literal.
use Rattle.std.proofs.Common.{◌≡◌, ℕ, zero, suc, ◌+◌, ◌<◌, Bool, true, false, ◌||◌, eqb, ℤ, neg_ℤ, nat_abs, List, [], ◌∷◌, ◌++◌, length, map, take, set, get_or, replicate, ap, sym, ◌∙◌, subst, arith, inl, inr}
use Rattle.std.specs.List.{list_any, count_by}
use Rattle.std.proofs.lemmas.Bool.{cases_eq, cases_lt, or_cases, eq-eqb, ne_eqb, eqb-true, and_parts, and_from, both_ways, or_right}
use Rattle.std.proofs.lemmas.List.{take_more, get_or-set_same, get_or-set_other, get_or_past, get_or_default, get_or-replicate, length-map, length-replicate, same_lists}
use Rattle.std.proofs.lemmas.List.Elements.{All-get_or}
use Rattle.cnf_base.specs.Dimacs.{IsLiteral}
use Rattle.cnf_base.proofs.Literals.{or-false, has-head, has-append, same_lit-true, nat_abs-neg_ℤ}
use Rattle.cnf_base.specs.Status.{same_lit, has}
use Rattle.sat_trail.specs.Trail.{Assignment, TrailState, IsTrail, lits}
use Rattle.sat_learn.specs.Resolving.{is_marked, StandsAt, AreBelow, IsLastMarked, with_marks}
use Rattle.sat_learn.specs.Tracking.{is_open}
use Rattle.sat_learn.proofs.Assignments.{assignment_at, levels_rise, level_to, true_literal}
use Rattle.sat_learn.proofs.Counts.{count_found}
use Rattle.sat_learn.proofs.Antecedents.{lit_at}

pub any_push : (v : ℕ) (ls : List ℤ) (l : ℤ) → list_any (eqb v) (map nat_abs (ls ++ l ∷ [])) ≡ (list_any (eqb v) (map nat_abs ls) || eqb v (nat_abs l))
any_push v [] l = or-false (eqb v (nat_abs l))
any_push v (m ∷ ms) l = let rest = any_push v ms l in grind arith

any_more : (v : ℕ) (ls : List ℤ) (i : ℕ) (lit : ℤ) → i < length ls → lit ≡ get_or ls i lit → list_any (eqb v) (map nat_abs (take (i + 1) ls)) ≡ (list_any (eqb v) (map nat_abs (take i ls)) || eqb v (nat_abs lit))
any_more v ls i lit lt is =
    ap (λ xs. list_any (eqb v) (map nat_abs xs)) (take_more ls i lit lt ∙ ap (λ l. take i ls ++ l ∷ []) (sym is)) ∙ any_push v (take i ls) lit

-- one more variable is marked
pub marked_more : (marks before : List Bool) (ls : List ℤ) (i var : ℕ) (lit : ℤ) → i < length ls → lit ≡ get_or ls i lit → var ≡ nat_abs lit → var < length marks → ((v : ℕ) → get_or marks v false ≡ with_marks (take i ls) before v) → (v : ℕ) → get_or (set marks var true) v false ≡ with_marks (take (i + 1) ls) before v
marked_more marks before ls i var lit lt is var_is room h v =
    let more = any_more v ls i lit lt is in
    elim (cases_eq v var) [
      | inl e ↦ (let here : get_or (set marks var true) v false ≡ true = ap (λ n. get_or (set marks var true) n false) e ∙ get_or-set_same marks var true false room in
          let same : eqb v (nat_abs lit) ≡ true = eq-eqb v (nat_abs lit) (e ∙ var_is) in
          here ∙ sym (or_right (get_or before v false) (list_any (eqb v) (map nat_abs (take (i + 1) ls))) (more ∙ or_right (list_any (eqb v) (map nat_abs (take i ls))) (eqb v (nat_abs lit)) same)))
      | inr e ↦ (let differs : eqb v (nat_abs lit) ≡ false = ne_eqb v (nat_abs lit) (λ k. e (k ∙ sym var_is)) in
          get_or-set_other marks var v true false e ∙ h v
          ∙ ap (λ b. get_or before v false || b) (sym (more ∙ ap (λ b. list_any (eqb v) (map nat_abs (take i ls)) || b) differs ∙ or-false (list_any (eqb v) (map nat_abs (take i ls))))))
    ]

pub literal_at : (t : TrailState) (place : ℕ) (lit : ℤ) → IsTrail t → place < length t.assignments → lit ≡ get_or (lits t.assignments) place lit → IsLiteral t.vars lit
literal_at t place lit h lt is =
    let wide : place < length (lits t.assignments) = omega (arith, length-map t.assignments (λ (p : Assignment). p.lit)) in
    let L : ℤ → Type 0 = λ l. IsLiteral t.vars l in
    subst L (sym is) (All-get_or (IsLiteral t.vars) (lits t.assignments) place lit wide h.in_range)

-- ---- open assignments

pub open_parts : (level : ℕ) (marks : List Bool) (p : Assignment) → is_open level marks p ≡ true → (is_marked marks p.lit ≡ true) × (p.level ≡ level)
open_parts level marks p h =
    let parts = and_parts (is_marked marks p.lit) (eqb p.level level) h in
    (parts.0, eqb-true p.level level parts.1)

pub open_from : (level : ℕ) (marks : List Bool) (p : Assignment) → is_marked marks p.lit ≡ true → p.level ≡ level → is_open level marks p ≡ true
open_from level marks p h k = and_from (is_marked marks p.lit) (eqb p.level level) h (eq-eqb p.level level k)

-- ---- the last marked literal

pub place_above : (t : TrailState) (marks : List Bool) (place : ℕ) → AreBelow t.assignments marks place → 0 < count_by (is_open t.level marks) t.assignments → 0 < place
place_above t marks place below some =
    let found = count_found (is_open t.level marks) t.assignments some in
    let lt = below found.0 found.1 found.2 (open_parts t.level marks found.1 found.3).0 in
    omega arith

-- a literal that isn't marked isn't the last
pub below_step : (ps : List Assignment) (marks : List Bool) (at : ℕ) (lit : ℤ) → lit ≡ get_or (lits ps) at lit → is_marked marks lit ≡ false → AreBelow ps marks (at + 1) → AreBelow ps marks at
below_step ps marks at lit is unmarked below i p there marked =
    let le = below i p there marked in
    elim (cases_lt i at) [
      | inl lt ↦ lt
      | inr ge ↦ (let same : i ≡ at = omega arith in
          let S : ℕ → Type 0 = λ n. StandsAt ps n p in
          let lit_is : lit ≡ p.lit = lit_at ps at p lit (subst S same there) is in
          let M : ℤ → Type 0 = λ l. is_marked marks l ≡ false in
          absurd (both_ways (is_marked marks p.lit) (subst M lit_is unmarked) marked))
    ]

pub last_from : (t : TrailState) (marks : List Bool) (at : ℕ) (lit : ℤ) → IsTrail t → at < length t.assignments → lit ≡ get_or (lits t.assignments) at lit → is_marked marks lit ≡ true → AreBelow t.assignments marks (at + 1) → 0 < count_by (is_open t.level marks) t.assignments → IsLastMarked t marks at
last_from t marks at lit h lt is marked below some =
    let here = assignment_at t.assignments at lt in
    let found = count_found (is_open t.level marks) t.assignments some in
    let parts = open_parts t.level marks found.1 found.3 in
    let before = below found.0 found.1 found.2 parts.0 in
    let rises = levels_rise 0 t.assignments t.level found.0 at found.1 here.0 h.climbs found.2 here.1 (omega arith) in
    let high = level_to 0 t.assignments t.level at here.0 h.climbs here.1 in
    let level_of_found = parts.1 in
    let M : ℤ → Type 0 = λ l. is_marked marks l ≡ true in
    record {
      assignment = here.0;
      stands = here.1;
      marked = subst M (lit_at t.assignments at here.0 lit here.1 is) marked;
      at_level = omega arith;
      below = below;
    }

-- ---- literals of a clause

pub has_at : (ls : List ℤ) (i : ℕ) (l d : ℤ) → i < length ls → l ≡ get_or ls i d → has ls l ≡ true
has_at [] i l d lt is = absurd (omega arith)
has_at (m ∷ ms) zero l d lt is = let P : ℤ → Type 0 = λ x. has (m ∷ ms) x ≡ true in subst P (sym is) (has-head m ms)
has_at (m ∷ ms) (suc i) l d lt is = or_right (same_lit m l) (has ms l) (has_at ms i l d (omega arith) is)

-- one more false literal
pub false_push : (true_lits ls more : List ℤ) (l : ℤ) → more ≡ ls ++ l ∷ [] → ((x : ℤ) → has ls x ≡ true → has true_lits (neg_ℤ x) ≡ true) → has true_lits (neg_ℤ l) ≡ true → (x : ℤ) → has more x ≡ true → has true_lits (neg_ℤ x) ≡ true
false_push true_lits ls more l is each here x k =
    let H : List ℤ → Type 0 = λ ys. has ys x ≡ true in
    elim (or_cases (has ls x) (has (l ∷ []) x) (sym (has-append ls (l ∷ []) x) ∙ subst H is k)) [
      | inl e ↦ each x e
      | inr e ↦ elim (or_cases (same_lit l x) false e) [
        | inl f ↦ (let P : ℤ → Type 0 = λ y. has true_lits (neg_ℤ y) ≡ true in subst P (same_lit-true l x f) here)
        | inr f ↦ cc
      ]
    ]

-- a marked variable has a mark
pub mark_in_range : (marks : List Bool) (l : ℤ) → is_marked marks l ≡ true → nat_abs l < length marks
mark_in_range marks l h =
    elim (cases_lt (nat_abs l) (length marks)) [
      | inl lt ↦ lt
      | inr ge ↦ absurd (both_ways (is_marked marks l) (get_or_past marks (nat_abs l) false ge) h)
    ]

pub false_in_range : (t : TrailState) (marks : List Bool) (l : ℤ) → IsTrail t → length marks ≡ t.vars + 1 → has (lits t.assignments) (neg_ℤ l) ≡ true → nat_abs l < length marks
false_in_range t marks l h room false_now =
    let literal = true_literal t (neg_ℤ l) h false_now in
    let within = literal.variable in
    let same = nat_abs-neg_ℤ l in
    omega arith

-- ---- a list of one value alone

pub replicate_is : {A : Type 0} (xs : List A) (n : ℕ) (a : A) → length xs ≡ n → ((i : ℕ) → get_or xs i a ≡ a) → xs ≡ replicate n a
replicate_is xs n a len each =
    same_lists xs (replicate n a) (len ∙ sym (length-replicate n a)) (λ k d lt.
    let within : k < n = omega arith in
    get_or_default xs k d a lt ∙ each k ∙ sym (get_or-replicate n k a d within))
