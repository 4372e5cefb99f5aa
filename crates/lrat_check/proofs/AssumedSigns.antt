-- Signs of literals that are assumed one after another, and taken back.
use Rattle.std.proofs.Common.{◌≡◌, ℕ, zero, suc, ◌+◌, ◌<◌, ◌≤◌, Bool, true, false, cond, not, ◌||◌, eqb, ℤ, pos, negsuc, neg_ℤ, nat_abs, List, [], ◌∷◌, ◌++◌, drop, get_or, length, Option, Some, None, ◌↔◌, ◌<ℤ◌, refl, ap, sym, ◌∙◌, subst, arith, inl, inr}
use Rattle.std.proofs.lemmas.Bool.{cases_eq, or_cases, ne_eqb, eq-eqb, both_ways, false_from_ne_true}
use Rattle.std.proofs.lemmas.Int.{ints}
use Rattle.std.specs.Bool.{beq}
use Rattle.std.proofs.lemmas.List.{drop_more, drop_all}
use Rattle.cnf_base.specs.Status.{same_lit, has}
use Rattle.lrat_check.specs.Assumptions.{flipped, is_positive, is_sign, signed, AreSignsOf}
use Rattle.cnf_base.proofs.Literals.{or-false, has-append}

-- one more sign adds its literal, where the other sign was not there
signed_more : (old new : ℕ → Option Bool) (l x : ℤ) → (l ≡ pos 0 → ⊥) → signed old (neg_ℤ l) ≡ false → ((y : ℕ) → new y ≡ cond (eqb y (nat_abs l)) (Some (is_positive l)) (old y)) → signed new x ≡ (signed old x || same_lit l x)
signed_more old new (pos zero) x nz h n = absurd (nz refl)
signed_more old new (pos (suc a)) (pos b) nz h n =
    elim (cases_eq b (suc a)) [
      | inl e ↦ rw (n b, eq-eqb b (suc a) e) (grind arith)
      | inr e ↦ rw (n b, ne_eqb b (suc a) e) (grind arith)
    ]
signed_more old new (pos (suc a)) (negsuc b) nz h n =
    elim (cases_eq b a) [
      | inl e ↦ rw (n (suc b), eq-eqb (suc b) (suc a) (ap suc e)) (let P : ℕ → Type 0 = λ y. is_sign false (old (suc y)) ≡ false in let k = subst P (sym e) h in grind arith)
      | inr e ↦ rw (n (suc b), ne_eqb (suc b) (suc a) (λ k. e (omega arith))) (grind arith)
    ]
signed_more old new (negsuc a) (pos b) nz h n =
    elim (cases_eq b (suc a)) [
      | inl e ↦ rw (n b, eq-eqb b (suc a) e) (let P : ℕ → Type 0 = λ y. is_sign true (old y) ≡ false in let k = subst P (sym e) h in grind arith)
      | inr e ↦ rw (n b, ne_eqb b (suc a) e) (grind arith)
    ]
signed_more old new (negsuc a) (negsuc b) nz h n =
    elim (cases_eq b a) [
      | inl e ↦ rw (n (suc b), eq-eqb (suc b) (suc a) (ap suc e)) (grind arith)
      | inr e ↦ rw (n (suc b), ne_eqb (suc b) (suc a) (λ k. e (omega arith))) (grind arith)
    ]

pub AreSignsOf-push : (old new : ℕ → Option Bool) (assumed : List ℤ) (l : ℤ) → (l ≡ pos 0 → ⊥) → AreSignsOf assumed old → has assumed (neg_ℤ l) ≡ false → ((y : ℕ) → new y ≡ cond (eqb y (nat_abs l)) (Some (is_positive l)) (old y)) → AreSignsOf (assumed ++ l ∷ []) new
AreSignsOf-push old new assumed l nz a h n x =
    signed_more old new l x nz (a (neg_ℤ l) ∙ h) n
    ∙ ap (λ b. b || same_lit l x) (a x)
    ∙ ap (λ b. has assumed x || b) (sym (or-false (same_lit l x)))
    ∙ sym (has-append assumed (l ∷ []) x)

-- every literal that the signs have is one of the list
abbrev pub Covers : List ℤ → (ℕ → Option Bool) → Type 0
Covers ls sign = (x : ℤ) → signed sign x ≡ true → has ls x ≡ true

-- one sign less takes away its literal
signed_less : (old new : ℕ → Option Bool) (l x : ℤ) → ((y : ℕ) → new y ≡ cond (eqb y (nat_abs l)) None (old y)) → signed new x ≡ true → (signed old x ≡ true) × (same_lit l x ≡ false)
signed_less old new (pos a) (pos b) n h =
    elim (cases_eq b a) [
      | inl e ↦ (let k : is_sign true None ≡ true = rw (n b, eq-eqb b a e) at h in cc)
      | inr e ↦ (let k : is_sign true (old b) ≡ true = rw (n b, ne_eqb b a e) at h in (k, ne_eqb a b (λ same. e (sym same))))
    ]
signed_less old new (pos a) (negsuc b) n h =
    elim (cases_eq (suc b) a) [
      | inl e ↦ (let k : is_sign false None ≡ true = rw (n (suc b), eq-eqb (suc b) a e) at h in cc)
      | inr e ↦ (let k : is_sign false (old (suc b)) ≡ true = rw (n (suc b), ne_eqb (suc b) a e) at h in (k, refl))
    ]
signed_less old new (negsuc a) (pos b) n h =
    elim (cases_eq b (suc a)) [
      | inl e ↦ (let k : is_sign true None ≡ true = rw (n b, eq-eqb b (suc a) e) at h in cc)
      | inr e ↦ (let k : is_sign true (old b) ≡ true = rw (n b, ne_eqb b (suc a) e) at h in (k, refl))
    ]
signed_less old new (negsuc a) (negsuc b) n h =
    elim (cases_eq b a) [
      | inl e ↦ (let k : is_sign false None ≡ true = rw (n (suc b), eq-eqb (suc b) (suc a) (ap suc e)) at h in cc)
      | inr e ↦ (let k : is_sign false (old (suc b)) ≡ true = rw (n (suc b), ne_eqb (suc b) (suc a) (λ same. e (omega arith))) at h in (k, ne_eqb a b (λ same. e (sym same))))
    ]

pub Covers-less : (ls : List ℤ) (i var : ℕ) (l d : ℤ) (old new : ℕ → Option Bool) → i < length ls → l ≡ get_or ls i d → var ≡ nat_abs l → Covers (drop i ls) old → ((y : ℕ) → new y ≡ cond (eqb y var) None (old y)) → Covers (drop (i + 1) ls) new
Covers-less ls i var l d old new lt is size h n x k =
    let less = signed_less old new l x (λ y. n y ∙ ap (λ z. cond (eqb y z) None (old y)) size) k in
    let P : List ℤ → Type 0 = λ rest. has rest x ≡ true in
    let here : has (get_or ls i d ∷ drop (i + 1) ls) x ≡ true = subst P (drop_more ls i d lt) (h x less.0) in
    elim (or_cases (same_lit (get_or ls i d) x) (has (drop (i + 1) ls) x) here) [
      | inl e ↦ (let Q : ℤ → Type 0 = λ m. same_lit m x ≡ false in absurd (both_ways (same_lit (get_or ls i d) x) (subst Q is less.1) e))
      | inr e ↦ e
    ]

pub AreSignsOf-none : (ls : List ℤ) (i : ℕ) (sign : ℕ → Option Bool) → length ls ≤ i → Covers (drop i ls) sign → AreSignsOf [] sign
AreSignsOf-none ls i sign le h x =
    false_from_ne_true (signed sign x) (λ k.
    let P : List ℤ → Type 0 = λ rest. has rest x ≡ true in
    let none : false ≡ true = subst P (drop_all i ls le) (h x k) in cc)

nat_abs-flipped : (negated : Bool) (l : ℤ) → nat_abs (flipped negated l) ≡ nat_abs l
nat_abs-flipped false l = refl
nat_abs-flipped true (pos zero) = refl
nat_abs-flipped true (pos (suc n)) = refl
nat_abs-flipped true (negsuc n) = refl

is_positive-flipped : (negated : Bool) (l : ℤ) → (nat_abs l ≡ 0 → ⊥) → is_positive (flipped negated l) ≡ not (beq (is_positive l) negated)
is_positive-flipped negated (pos zero) h = absurd (h refl)
is_positive-flipped false (pos (suc n)) h = refl
is_positive-flipped true (pos (suc n)) h = refl
is_positive-flipped false (negsuc n) h = refl
is_positive-flipped true (negsuc n) h = refl

is_positive-from : (positive : Bool) (l : ℤ) → (nat_abs l ≡ 0 → ⊥) → ((positive ≡ true) ↔ (pos 0 <ℤ l)) → positive ≡ is_positive l
is_positive-from positive (pos zero) nz h = absurd (nz refl)
is_positive-from positive (pos (suc n)) nz h = h.1 (omega (arith, ints))
is_positive-from positive (negsuc n) nz h = false_from_ne_true positive (λ k. let less = h.0 k in absurd (omega (arith, ints)))

-- a literal or its negation, as it is assumed
pub AreSignsOf-assumed : (old new : ℕ → Option Bool) (assumed items : List ℤ) (lit l : ℤ) (negated positive : Bool) (var : ℕ) → l ≡ flipped negated lit → items ≡ assumed ++ l ∷ [] → var ≡ nat_abs lit → (var ≡ 0 → ⊥) → ((positive ≡ true) ↔ (pos 0 <ℤ lit)) → AreSignsOf assumed old → has assumed (neg_ℤ (flipped negated lit)) ≡ false → ((y : ℕ) → new y ≡ cond (eqb y var) (Some (not (beq positive negated))) (old y)) → AreSignsOf items new
AreSignsOf-assumed old new assumed items lit l negated positive var is push size nz sign a free n =
    let there : nat_abs lit ≡ 0 → ⊥ = λ k. nz (size ∙ k) in
    let m = flipped negated lit in
    let size_of : nat_abs m ≡ var = nat_abs-flipped negated lit ∙ sym size in
    let sign_of : not (beq positive negated) ≡ is_positive m = ap (λ b. not (beq b negated)) (is_positive-from positive lit there sign) ∙ sym (is_positive-flipped negated lit there) in
    let more = AreSignsOf-push old new assumed m (λ k. nz (sym size_of ∙ ap nat_abs k)) a free
    (λ y. n y ∙ ap (λ x. cond (eqb y x) (Some (not (beq positive negated))) (old y)) (sym size_of) ∙ ap (λ b. cond (eqb y (nat_abs m)) (Some b) (old y)) sign_of) in
    let P : List ℤ → Type 0 = λ ls. AreSignsOf ls new in
    subst P (sym (push ∙ ap (λ x. assumed ++ x ∷ []) is)) more
