-- Values of literals, and variables that stand once.
use Rattle.std.proofs.Common.{◌≡◌, ℕ, zero, suc, ◌+◌, ◌<◌, ◌≤◌, Bool, true, false, cond, ◌||◌, eqb, ℤ, pos, negsuc, neg_ℤ, nat_abs, List, [], ◌∷◌, ◌++◌, length, map, refl, ap, sym, ◌∙◌, subst, arith, inl, inr}
use Rattle.std.specs.List.{list_any, IsDistinct, AllByRecursion}
use Rattle.std.proofs.lemmas.Bool.{cases_Bool, or_cases, or_parts, or_from, eqb-true, ne_eqb, false_from_ne_true, both_ways}
use Rattle.std.proofs.lemmas.List.{map-append}
use Rattle.std.proofs.lemmas.Map.Keys.{IsDistinct-head, IsDistinct-tail, IsDistinct-cons}
use Rattle.std.proofs.lemmas.Map.Steps.{length-le_from_distinct_below}
use Rattle.cnf_base.specs.Status.{same_lit, has}
use Rattle.cnf_base.proofs.Literals.{same_lit-true, or-false, has-append, neg_ℤ-neg_ℤ}
use Rattle.sat_trail.specs.declared.truth.Value.{Value}
use Rattle.sat_trail.specs.declared.truth.Value.TheVariants.{True, False, Unset}
use Rattle.sat_trail.specs.Trail.{value_in}
use Rattle.sat_trail.specs.Kept.{kept_value, AreValues}

-- whether a literal's variable is that of one of the list
abbrev pub touches : List ℤ → ℤ → Bool
touches ls l = list_any (eqb (nat_abs l)) (map nat_abs ls)

pub same_variable : (l m : ℤ) → eqb (nat_abs l) (nat_abs m) ≡ (same_lit m l || same_lit m (neg_ℤ l))
same_variable (pos zero) (pos b) = grind arith
same_variable (pos zero) (negsuc b) = grind arith
same_variable (pos (suc a)) (pos b) = grind arith
same_variable (pos (suc a)) (negsuc b) = grind arith
same_variable (negsuc a) (pos b) = grind arith
same_variable (negsuc a) (negsuc b) = grind arith

pub touches-is : (ls : List ℤ) (l : ℤ) → touches ls l ≡ (has ls l || has ls (neg_ℤ l))
touches-is [] l = refl
touches-is (m ∷ ms) l =
    let here = same_variable l m in
    let there = touches-is ms l in
    grind arith

pub unset_says : (ls : List ℤ) (l : ℤ) → value_in ls l ≡ Unset → (has ls l ≡ false) × (has ls (neg_ℤ l) ≡ false)
unset_says ls l h =
    elim (cases_Bool (has ls l)) [
      | inl e ↦ (let k : True ≡ Unset = rw e at h in cc)
      | inr e ↦ elim (cases_Bool (has ls (neg_ℤ l))) [
        | inl f ↦ (let k : False ≡ Unset = rw (e, f) at h in cc)
        | inr f ↦ (e, f)
      ]
    ]

pub unset_touches : (ls : List ℤ) (l : ℤ) → value_in ls l ≡ Unset → touches ls l ≡ false
unset_touches ls l h = let parts = unset_says ls l h in touches-is ls l ∙ or_from (has ls l) (has ls (neg_ℤ l)) parts.0 parts.1

pub untouched_unset : (ls : List ℤ) (l : ℤ) → touches ls l ≡ false → value_in ls l ≡ Unset
untouched_unset ls l h =
    let parts = or_parts (has ls l) (has ls (neg_ℤ l)) (sym (touches-is ls l) ∙ h) in
    rw (parts.0, parts.1) refl

pub AreValues-assignment : (vars : ℕ) (ls : List ℤ) (l : ℤ) (old new : List Value) → value_in ls l ≡ Unset → AreValues vars ls old → ((x : ℤ) → kept_value new x ≡ cond (same_lit l x) True (cond (same_lit l (neg_ℤ x)) False (kept_value old x))) → AreValues vars (ls ++ l ∷ []) new
AreValues-assignment vars ls l old new unset h n x within =
    let free = unset_says ls l unset in
    n x ∙
    (elim (cases_Bool (same_lit l x)) [
      | inl e ↦ rw (has-append ls (l ∷ []) x, e) (grind arith)
      | inr e ↦ elim (cases_Bool (same_lit l (neg_ℤ x))) [
        | inl f ↦ (let P : ℤ → Type 0 = λ y. has ls y ≡ false in
            let there : neg_ℤ l ≡ x = ap neg_ℤ (same_lit-true l (neg_ℤ x) f) ∙ neg_ℤ-neg_ℤ x in
            let absent : has ls x ≡ false = subst P there free.1 in
            rw (has-append ls (l ∷ []) x, has-append ls (l ∷ []) (neg_ℤ x), e, f, absent) (grind arith))
        | inr f ↦ rw (has-append ls (l ∷ []) x, has-append ls (l ∷ []) (neg_ℤ x), e, f, or-false (has ls x), or-false (has ls (neg_ℤ x))) (h x within)
      ]
    ])

pub none_from : (x : ℕ) (zs : List ℕ) → AllByRecursion (λ y. eqb x y ≡ false) zs → list_any (eqb x) zs ≡ false
none_from x [] h = refl
none_from x (z ∷ zs) h = or_from (eqb x z) (list_any (eqb x) zs) h.0 (none_from x zs h.1)

pub each_from : (x : ℕ) (zs : List ℕ) → list_any (eqb x) zs ≡ false → AllByRecursion (λ y. eqb x y ≡ false) zs
each_from x [] h = tt
each_from x (z ∷ zs) h = let parts = or_parts (eqb x z) (list_any (eqb x) zs) h in (parts.0, each_from x zs parts.1)

any-right : (x : ℕ) (xs ys : List ℕ) → list_any (eqb x) (xs ++ ys) ≡ false → list_any (eqb x) ys ≡ false
any-right x [] ys h = h
any-right x (z ∷ zs) ys h = any-right x zs ys (or_parts (eqb x z) (list_any (eqb x) (zs ++ ys)) h).1

-- what stands in one part of a list without repeats doesn't stand in the other
pub distinct_apart : (xs ys : List ℕ) (v : ℕ) → IsDistinct eqb (xs ++ ys) → list_any (eqb v) ys ≡ true → list_any (eqb v) xs ≡ false
distinct_apart [] ys v h k = refl
distinct_apart (x ∷ xs) ys v h k =
    let rest = distinct_apart xs ys v (IsDistinct-tail eqb x (xs ++ ys) h) k in
    let others = any-right x xs ys (none_from x (xs ++ ys) (IsDistinct-head eqb x (xs ++ ys) h)) in
    let apart : eqb v x ≡ false = false_from_ne_true (eqb v x) (λ e.
    let P : ℕ → Type 0 = λ y. list_any (eqb y) ys ≡ true in
    both_ways (list_any (eqb x) ys) others (subst P (eqb-true v x e) k)) in
    or_from (eqb v x) (list_any (eqb v) xs) apart rest

-- the values after the variables of the second part are unset
pub AreValues-cut : (vars : ℕ) (a b : List ℤ) (old new : List Value) → IsDistinct eqb (map nat_abs (a ++ b)) → AreValues vars (a ++ b) old → ((x : ℤ) → kept_value new x ≡ cond (touches b x) Unset (kept_value old x)) → AreValues vars a new
AreValues-cut vars a b old new distinct h n x within =
    let apart : IsDistinct eqb (map nat_abs a ++ map nat_abs b) = (let P : List ℕ → Type 0 = λ ns. IsDistinct eqb ns in subst P (map-append nat_abs a b) distinct) in
    n x ∙
    (elim (cases_Bool (touches b x)) [
      | inl e ↦ rw e (sym (untouched_unset a x (distinct_apart (map nat_abs a) (map nat_abs b) (nat_abs x) apart e)))
      | inr e ↦ (let parts = or_parts (has b x) (has b (neg_ℤ x)) (sym (touches-is b x) ∙ e) in
          let same : has (a ++ b) x ≡ has a x = rw (has-append a b x, parts.0) (or-false (has a x)) in
          let same_neg : has (a ++ b) (neg_ℤ x) ≡ has a (neg_ℤ x) = rw (has-append a b (neg_ℤ x), parts.1) (or-false (has a (neg_ℤ x))) in
          rw e (h x within ∙ rw (same, same_neg) refl))
    ])

abbrev pub IsVar : ℕ → ℕ → Type 0
IsVar vars x = (0 < x) × (x ≤ vars)

pub zero_apart : (vars : ℕ) (xs : List ℕ) → AllByRecursion (IsVar vars) xs → list_any (eqb 0) xs ≡ false
zero_apart vars [] h = refl
zero_apart vars (x ∷ xs) h = or_from (eqb 0 x) (list_any (eqb 0) xs) (ne_eqb 0 x (λ e. let pos_x = h.0.0 in absurd (omega arith))) (zero_apart vars xs h.1)

in_range_from : (vars : ℕ) (xs : List ℕ) (q : ℕ) → AllByRecursion (IsVar vars) xs → list_any (eqb q) xs ≡ true → q ≤ vars
in_range_from vars [] q h k = cc
in_range_from vars (x ∷ xs) q h k =
    elim (or_cases (eqb q x) (list_any (eqb q) xs) k) [
      | inl e ↦ (let same = eqb-true q x e in let le = h.0.1 in omega arith)
      | inr e ↦ in_range_from vars xs q h.1 e
    ]

-- where a variable is free, fewer than all stand on the list
pub room_for : (vars : ℕ) (xs : List ℕ) (v : ℕ) → IsDistinct eqb xs → AllByRecursion (IsVar vars) xs → IsVar vars v → list_any (eqb v) xs ≡ false → length xs < vars
room_for vars xs v distinct in_range here free =
    let zero_free = zero_apart vars xs in_range in
    let with_zero = IsDistinct-cons eqb 0 xs (each_from 0 xs zero_free) distinct in
    let free_too : list_any (eqb v) (0 ∷ xs) ≡ false = or_from (eqb v 0) (list_any (eqb v) xs) (ne_eqb v 0 (λ e. let pos_v = here.0 in absurd (omega arith))) free in
    let with_both = IsDistinct-cons eqb v (0 ∷ xs) (each_from v (0 ∷ xs) free_too) with_zero in
    let bound : length (v ∷ 0 ∷ xs) ≤ vars + 1 = length-le_from_distinct_below (v ∷ 0 ∷ xs) (vars + 1) with_both (λ q k. below q k) in
    omega arith
  where
    below : (q : ℕ) → list_any (eqb q) (v ∷ 0 ∷ xs) ≡ true → q < vars + 1
    below q k =
        elim (or_cases (eqb q v) (list_any (eqb q) (0 ∷ xs)) k) [
          | inl e ↦ (let same = eqb-true q v e in let le = here.1 in omega arith)
          | inr e ↦ elim (or_cases (eqb q 0) (list_any (eqb q) xs) e) [
            | inl f ↦ (let same = eqb-true q 0 f in omega arith)
            | inr f ↦ (let le = in_range_from vars xs q in_range f in omega arith)
          ]
        ]
