-- Literals in lists.
use Rattle.std.proofs.Common.{◌≡◌, zero, suc, Bool, true, false, cond, ◌&&◌, ◌||◌, ℤ, pos, negsuc, neg_ℤ, nat_abs, List, [], ◌∷◌, ◌++◌, filter, refl, ap, sym, ◌∙◌, subst, arith, inl, inr}
use Rattle.std.proofs.lemmas.Bool.{eqb-true, eq-eqb, or_cases, or_left, or_right, or_parts, cases_Bool, both_ways, and_right}
use Rattle.std.specs.List.{list_any}
use Rattle.cnf_base.specs.Status.{same_lit, has}

pub same_tests : (x y : Bool) → (x ≡ true → y ≡ true) → (y ≡ true → x ≡ true) → x ≡ y
same_tests true true f g = refl
same_tests true false f g = sym (f refl)
same_tests false true f g = g refl
same_tests false false f g = refl

pub or-false : (b : Bool) → (b || false) ≡ b
or-false true = refl
or-false false = refl

pub same_lit-true : (a b : ℤ) → same_lit a b ≡ true → a ≡ b
same_lit-true (pos a) (pos b) h = ap pos (eqb-true a b h)
same_lit-true (pos a) (negsuc b) h = cc
same_lit-true (negsuc a) (pos b) h = cc
same_lit-true (negsuc a) (negsuc b) h = ap negsuc (eqb-true a b h)

pub same_lit-itself : (a : ℤ) → same_lit a a ≡ true
same_lit-itself (pos a) = eq-eqb a a refl
same_lit-itself (negsuc a) = eq-eqb a a refl

pub neg_ℤ-neg_ℤ : (l : ℤ) → neg_ℤ (neg_ℤ l) ≡ l
neg_ℤ-neg_ℤ (pos zero) = refl
neg_ℤ-neg_ℤ (pos (suc n)) = refl
neg_ℤ-neg_ℤ (negsuc n) = refl

pub nat_abs-neg_ℤ : (l : ℤ) → nat_abs (neg_ℤ l) ≡ nat_abs l
nat_abs-neg_ℤ (pos zero) = refl
nat_abs-neg_ℤ (pos (suc n)) = refl
nat_abs-neg_ℤ (negsuc n) = refl

pub has-head : (l : ℤ) (ls : List ℤ) → has (l ∷ ls) l ≡ true
has-head l ls = or_left (same_lit l l) (has ls l) (same_lit-itself l)

pub has-append : (a b : List ℤ) (x : ℤ) → has (a ++ b) x ≡ (has a x || has b x)
has-append [] b x = refl
has-append (m ∷ ms) b x = let more = has-append ms b x in grind arith

-- a test that some literal of a list passes
pub list_any-found : (test : ℤ → Bool) (ls : List ℤ) → list_any test ls ≡ true → (l : ℤ) × (has ls l ≡ true) × (test l ≡ true)
list_any-found test [] h = cc
list_any-found test (m ∷ ms) h =
    elim (or_cases (test m) (list_any test ms) h) [
      | inl e ↦ (m, has-head m ms, e)
      | inr e ↦ let found = list_any-found test ms e in (found.0, or_right (same_lit m found.0) (has ms found.0) found.1, found.2)
    ]

pub list_any-at : (test : ℤ → Bool) (ls : List ℤ) (l : ℤ) → has ls l ≡ true → test l ≡ true → list_any test ls ≡ true
list_any-at test [] l h t = cc
list_any-at test (m ∷ ms) l h t =
    elim (or_cases (same_lit m l) (has ms l) h) [
      | inl e ↦ (let P : ℤ → Type 0 = λ x. test x ≡ true in or_left (test m) (list_any test ms) (subst P (sym (same_lit-true m l e)) t))
      | inr e ↦ or_right (test m) (list_any test ms) (list_any-at test ms l e t)
    ]

pub list_any-none : (test : ℤ → Bool) (ls : List ℤ) → list_any test ls ≡ false → (l : ℤ) → has ls l ≡ true → test l ≡ false
list_any-none test [] h l k = cc
list_any-none test (m ∷ ms) h l k =
    let parts = or_parts (test m) (list_any test ms) h in
    elim (or_cases (same_lit m l) (has ms l) k) [
      | inl e ↦ (let P : ℤ → Type 0 = λ x. test x ≡ false in subst P (same_lit-true m l e) parts.0)
      | inr e ↦ list_any-none test ms parts.1 l e
    ]

pub same_lit-apart : (a b : ℤ) → same_lit a b ≡ false → a ≡ b → ⊥
same_lit-apart a b h same =
    let P : ℤ → Type 0 = λ x. same_lit x b ≡ false in
    let differs : same_lit b b ≡ false = subst P same h in
    both_ways (same_lit b b) differs (same_lit-itself b)

pub has-filter : (test : ℤ → Bool) (ls : List ℤ) (l : ℤ) → has (filter test ls) l ≡ (has ls l && test l)
has-filter test [] l = refl
has-filter test (m ∷ ms) l =
    let rest = has-filter test ms l in
    elim (cases_Bool (same_lit m l)) [
      | inl e ↦ (let P : ℤ → Type 0 = λ x. has (cond (test x) (x ∷ filter test ms) (filter test ms)) l ≡ ((same_lit x l || has ms l) && test l) in subst P (sym (same_lit-true m l e)) (at_it test ms l rest))
      | inr e ↦ past test ms m l e rest
    ]
  where
    at_it : (test : ℤ → Bool) (ms : List ℤ) (l : ℤ) → has (filter test ms) l ≡ (has ms l && test l) → has (cond (test l) (l ∷ filter test ms) (filter test ms)) l ≡ ((same_lit l l || has ms l) && test l)
    at_it test ms l rest =
        let itself = same_lit-itself l in
        elim (cases_Bool (test l)) [
          | inl e ↦ rw (e, itself) refl
          | inr e ↦ rw (e, itself) (let k : has (filter test ms) l ≡ (has ms l && false) = rw e at rest in k ∙ and_right (has ms l) false refl)
        ]

    past : (test : ℤ → Bool) (ms : List ℤ) (m l : ℤ) → same_lit m l ≡ false → has (filter test ms) l ≡ (has ms l && test l) → has (cond (test m) (m ∷ filter test ms) (filter test ms)) l ≡ ((same_lit m l || has ms l) && test l)
    past test ms m l e rest = elim (cases_Bool (test m)) [ inl k ↦ rw (k, e) rest | inr k ↦ rw (k, e) rest ]
