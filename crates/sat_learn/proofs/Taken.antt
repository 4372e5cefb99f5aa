-- What is taken of the kept literals in the end: those that are marked, each variable once.
use Rattle.std.proofs.Common.{◌≡◌, ℕ, ◌+◌, ◌<◌, Bool, true, false, cond, ◌||◌, eqb, ℤ, neg_ℤ, nat_abs, List, [], ◌∷◌, ◌++◌, length, map, take, set, get_or, refl, ap, sym, ◌∙◌, subst, arith, inl, inr}
use Rattle.std.specs.List.{list_any, IsDistinct}
use Rattle.std.specs.List.Sorted.{IsPermutation}
use Rattle.std.specs.Cmp.{nat_eq_equiv}
use Rattle.std.proofs.lemmas.Bool.{cases_eq, cases_Bool, or_cases, or_left, or_right, both_ways, eq-eqb, eqb-true, ne_eqb, false_from_ne_true}
use Rattle.std.proofs.lemmas.List.{take_more, map_push, get_or-set_same, get_or-set_other}
use Rattle.std.proofs.lemmas.List.Sorted.{IsPermutation-map, list_any-IsPermutation}
use Rattle.std.proofs.lemmas.Map.Keys.{IsDistinct-cons, IsDistinct-tail, IsDistinct-push, IsDistinct-from_apart}
use Rattle.cnf_base.specs.Status.{same_lit, has}
use Rattle.cnf_base.proofs.Literals.{same_lit-true, or-false, has-append, nat_abs-neg_ℤ}
use Rattle.sat_trail.specs.Trail.{TrailState}
use Rattle.sat_learn.specs.Resolving.{is_marked}
use Rattle.sat_learn.specs.Tracking.{IsMinimized, IsTaken, IsResolved}
use Rattle.sat_learn.proofs.MarkedLiterals.{any_push}
use Rattle.sat_learn.proofs.Tracking.{any_var}

has_any : (ls : List ℤ) (l : ℤ) → has ls l ≡ list_any (λ m. same_lit m l) ls
has_any [] l = refl
has_any (m ∷ ms) l = ap (λ b. same_lit m l || b) (has_any ms l)

-- the order of what was kept doesn't matter
pub minimized_permuted : (t : TrailState) (marks : List Bool) (kept other : List ℤ) (place : ℕ) → IsPermutation kept other → IsMinimized t marks kept place → IsMinimized t marks other place
minimized_permuted t marks kept other place p h =
    record {
      above = h.above;
      room = h.room;
      first_uip = h.first_uip;
      marked = λ v m. elim (h.marked v m) [
        | inl e ↦ inl e
        | inr e ↦ inr (sym (list_any-IsPermutation (eqb v) (map nat_abs kept) (map nat_abs other) (IsPermutation-map nat_abs kept other p)) ∙ e)
      ];
      between = λ l inside. h.between l (has_any kept l ∙ list_any-IsPermutation (λ m. same_lit m l) kept other p ∙ sym (has_any other l) ∙ inside);
    }

pub resolved_from : (t : TrailState) (old new : List Bool) (kept : List ℤ) (place : ℕ) (first : ℤ) (taken : List ℤ) (h : IsMinimized t old kept place) (k : IsTaken old new kept first taken) → first ≡ neg_ℤ h.first_uip.assignment.lit → IsResolved t old k.others place first
resolved_from t old new kept place first taken h k is =
    let D : List ℤ → Type 0 = λ ls. IsDistinct eqb (map nat_abs ls) in
    record {
      room = h.room;
      above = h.above;
      assignment = h.first_uip.assignment;
      stands = h.first_uip.stands;
      at_level = h.first_uip.at_level;
      negated = is;
      marked = λ v m. elim (h.marked v m) [
        | inl e ↦ inl e
        | inr e ↦ (let found = any_var v kept e in
            let marked : is_marked old found.0 ≡ true = ap (λ n. get_or old n false) found.2 ∙ m in
            let A : List ℤ → Type 0 = λ ls. list_any (eqb (nat_abs found.0)) (map nat_abs ls) ≡ true in
            let any = subst A k.form (k.covers found.0 found.1 marked) in
            elim (or_cases (eqb (nat_abs found.0) (nat_abs first)) (list_any (eqb (nat_abs found.0)) (map nat_abs k.others)) any) [
              | inl f ↦ inl (sym (eqb-true (nat_abs found.0) (nat_abs first) f ∙ ap nat_abs is ∙ nat_abs-neg_ℤ h.first_uip.assignment.lit) ∙ found.2)
              | inr f ↦ inr (ap (λ n. list_any (eqb n) (map nat_abs k.others)) (sym found.2) ∙ f)
            ])
      ];
      kept_false = λ l inside. (let x = h.between l (k.from_kept l inside) in (x.level, x.false_at, x.above_root, x.below_present));
      distinct = IsDistinct-tail eqb (nat_abs first) (map nat_abs k.others) (subst D k.form k.distinct);
    }

-- one more kept literal is taken
pub taken_more : (old now : List Bool) (kept : List ℤ) (i var : ℕ) (lit first : ℤ) (taken : List ℤ) → i < length kept → lit ≡ get_or kept i lit → var ≡ nat_abs lit → var < length now → get_or now var false ≡ true → IsTaken old now (take i kept) first taken → IsTaken old (set now var false) (take (i + 1) kept) first (taken ++ lit ∷ [])
taken_more old now kept i var lit first taken lt is var_is room marked h =
    let grown : take (i + 1) kept ≡ take i kept ++ lit ∷ [] = take_more kept i lit lt ∙ ap (λ l. take i kept ++ l ∷ []) (sym is) in
    let K : List ℤ → Type 0 = λ ls. IsTaken old (set now var false) ls first (taken ++ lit ∷ []) in
    let D : List ℕ → Type 0 = λ ns. IsDistinct eqb ns in
    let fresh : list_any (eqb var) (map nat_abs taken) ≡ false = false_from_ne_true (list_any (eqb var) (map nat_abs taken)) (λ e.
    both_ways (get_or now var false) (h.unmarked var ∙ ap (λ b. cond b false (get_or old var false)) e) marked) in
    let free : list_any (eqb (nat_abs lit)) (map nat_abs taken) ≡ false = ap (λ n. list_any (eqb n) (map nat_abs taken)) (sym var_is) ∙ fresh in
    subst K (sym grown) (record {
      others = h.others ++ lit ∷ [];
      form = ap (λ ls. ls ++ lit ∷ []) h.form;
      from_kept = λ l k. has-append (take i kept) (lit ∷ []) l ∙ (elim (or_cases (has h.others l) (has (lit ∷ []) l) (sym (has-append h.others (lit ∷ []) l) ∙ k)) [
        | inl e ↦ or_left (has (take i kept) l) (has (lit ∷ []) l) (h.from_kept l e)
        | inr e ↦ or_right (has (take i kept) l) (has (lit ∷ []) l) e
      ]);
      distinct = subst D (sym (map_push nat_abs taken lit)) (IsDistinct-push nat_eq_equiv (map nat_abs taken) (nat_abs lit) h.distinct free);
      unmarked = λ v. elim (cases_eq v var) [
        | inl e ↦ (let gone : get_or (set now var false) v false ≡ false = ap (λ n. get_or (set now var false) n false) e ∙ get_or-set_same now var false false room in
            let here : list_any (eqb v) (map nat_abs (taken ++ lit ∷ [])) ≡ true = any_push v taken lit ∙ or_right (list_any (eqb v) (map nat_abs taken)) (eqb v (nat_abs lit)) (eq-eqb v (nat_abs lit) (e ∙ var_is)) in
            gone ∙ ap (λ b. cond b false (get_or old v false)) (sym here))
        | inr e ↦ (let same : list_any (eqb v) (map nat_abs (taken ++ lit ∷ [])) ≡ list_any (eqb v) (map nat_abs taken) = any_push v taken lit ∙ ap (λ b. list_any (eqb v) (map nat_abs taken) || b) (ne_eqb v (nat_abs lit) (λ k. e (k ∙ sym var_is))) ∙ or-false (list_any (eqb v) (map nat_abs taken)) in
            get_or-set_other now var v false false e ∙ h.unmarked v ∙ ap (λ b. cond b false (get_or old v false)) (sym same))
      ];
      covers = λ l k m. any_push (nat_abs l) taken lit ∙ (elim (or_cases (has (take i kept) l) (has (lit ∷ []) l) (sym (has-append (take i kept) (lit ∷ []) l) ∙ k)) [
        | inl e ↦ or_left (list_any (eqb (nat_abs l)) (map nat_abs taken)) (eqb (nat_abs l) (nat_abs lit)) (h.covers l e m)
        | inr e ↦ (let same = one_literal lit l e in or_right (list_any (eqb (nat_abs l)) (map nat_abs taken)) (eqb (nat_abs l) (nat_abs lit)) (eq-eqb (nat_abs l) (nat_abs lit) (ap nat_abs (sym same))))
      ]);
    })
  where
    one_literal : (a b : ℤ) → (same_lit a b || false) ≡ true → a ≡ b
    one_literal a b k = elim (or_cases (same_lit a b) false k) [ inl e ↦ same_lit-true a b e | inr e ↦ cc ]

-- one that isn't marked any more is left
pub taken_less : (old now : List Bool) (kept : List ℤ) (i var : ℕ) (lit first : ℤ) (taken : List ℤ) → i < length kept → lit ≡ get_or kept i lit → var ≡ nat_abs lit → get_or now var false ≡ false → IsTaken old now (take i kept) first taken → IsTaken old now (take (i + 1) kept) first taken
taken_less old now kept i var lit first taken lt is var_is unmarked h =
    let grown : take (i + 1) kept ≡ take i kept ++ lit ∷ [] = take_more kept i lit lt ∙ ap (λ l. take i kept ++ l ∷ []) (sym is) in
    let K : List ℤ → Type 0 = λ ls. IsTaken old now ls first taken in
    subst K (sym grown) (record {
      others = h.others;
      form = h.form;
      from_kept = λ l k. has-append (take i kept) (lit ∷ []) l ∙ or_left (has (take i kept) l) (has (lit ∷ []) l) (h.from_kept l k);
      distinct = h.distinct;
      unmarked = h.unmarked;
      covers = λ l k m. elim (or_cases (has (take i kept) l) (has (lit ∷ []) l) (sym (has-append (take i kept) (lit ∷ []) l) ∙ k)) [
        | inl e ↦ h.covers l e m
        | inr e ↦ (let same = one_literal lit l e in
            let here : nat_abs l ≡ var = ap nat_abs (sym same) ∙ sym var_is in
            elim (cases_Bool (list_any (eqb (nat_abs l)) (map nat_abs taken))) [
              | inl any ↦ any
              | inr none ↦ absurd (both_ways (is_marked old l) (sym (h.unmarked (nat_abs l) ∙ ap (λ b. cond b false (is_marked old l)) none) ∙ ap (λ n. get_or now n false) here ∙ unmarked) m)
            ])
      ];
    })
  where
    one_literal : (a b : ℤ) → (same_lit a b || false) ≡ true → a ≡ b
    one_literal a b k = elim (or_cases (same_lit a b) false k) [ inl e ↦ same_lit-true a b e | inr e ↦ cc ]

pub taken_first : (old : List Bool) (var : ℕ) (first : ℤ) → var ≡ nat_abs first → var < length old → IsTaken old (set old var false) [] first (first ∷ [])
taken_first old var first var_is room =
    record {
      others = [];
      form = refl;
      from_kept = λ l k. cc;
      distinct = IsDistinct-cons eqb (nat_abs first) [] tt (IsDistinct-from_apart eqb [] (λ i j d lt lt2. absurd (omega arith)));
      unmarked = λ v. elim (cases_eq v var) [
        | inl e ↦ ap (λ n. get_or (set old var false) n false) e ∙ get_or-set_same old var false false room ∙ ap (λ b. cond b false (get_or old v false)) (sym (or_left (eqb v (nat_abs first)) false (eq-eqb v (nat_abs first) (e ∙ var_is))))
        | inr e ↦ get_or-set_other old var v false false e ∙ ap (λ b. cond b false (get_or old v false)) (sym (ap (λ b. b || false) (ne_eqb v (nat_abs first) (λ k. e (k ∙ sym var_is)))))
      ];
      covers = λ l k m. cc;
    }
