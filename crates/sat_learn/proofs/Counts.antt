-- Counts of what passes a test.
use Rattle.std.proofs.Common.{◌≡◌, ℕ, zero, suc, ◌+◌, ◌<◌, ◌≤◌, Bool, true, false, cond, Some, List, [], ◌∷◌, refl, ap, sym, ◌∙◌, arith, inl, inr}
use Rattle.std.specs.List.{count_by, slice_get}
use Rattle.std.proofs.lemmas.Bool.{cases_Bool}
use Rattle.std.proofs.lemmas.List.Sums.{sum_by-cons}

pub count-cons : {X : Type 0} (f : X → Bool) (x : X) (xs : List X) → count_by f (x ∷ xs) ≡ cond (f x) 1 0 + count_by f xs
count-cons f x xs = sum_by-cons (λ y. cond (f y) 1 0) x xs

count-yes : {X : Type 0} (f : X → Bool) (x : X) (xs : List X) → f x ≡ true → count_by f (x ∷ xs) ≡ 1 + count_by f xs
count-yes f x xs h = count-cons f x xs ∙ ap (λ b. cond b 1 0 + count_by f xs) h

count-no : {X : Type 0} (f : X → Bool) (x : X) (xs : List X) → f x ≡ false → count_by f (x ∷ xs) ≡ count_by f xs
count-no f x xs h = count-cons f x xs ∙ ap (λ b. cond b 1 0 + count_by f xs) h ∙ omega arith

-- two tests that agree at each place
pub count_same : {X : Type 0} (f g : X → Bool) (xs : List X) → ((j : ℕ) (y : X) → slice_get xs j ≡ Some y → f y ≡ g y) → count_by f xs ≡ count_by g xs
count_same f g [] h = refl
count_same f g (x ∷ xs) h =
    let rest = count_same f g xs (λ j y there. h (suc j) y there) in
    count-cons f x xs ∙ ap (λ b. cond b 1 0 + count_by f xs) (h 0 x refl) ∙ ap (λ n. cond (g x) 1 0 + n) rest ∙ sym (count-cons g x xs)

-- two tests that agree but at one place
pub count_one_more : {X : Type 0} (f g : X → Bool) (xs : List X) (i : ℕ) (x : X) → slice_get xs i ≡ Some x → f x ≡ false → g x ≡ true → ((j : ℕ) (y : X) → slice_get xs j ≡ Some y → (j ≡ i → ⊥) → f y ≡ g y) → count_by g xs ≡ count_by f xs + 1
count_one_more f g [] i x h misses passes rest = cc
count_one_more f g (z ∷ zs) zero x h misses passes rest =
    let same : z ≡ x = cc in
    let others = count_same f g zs (λ j y there. rest (suc j) y there (λ e. absurd (omega arith))) in
    let here = count-yes g z zs (ap g same ∙ passes) in
    let there = count-no f z zs (ap f same ∙ misses) in
    omega arith
count_one_more f g (z ∷ zs) (suc i) x h misses passes rest =
    let more = count_one_more f g zs i x h misses passes (λ j y there differs. rest (suc j) y there (λ e. differs (let k : j ≡ i = omega arith in k))) in
    let agree : f z ≡ g z = rest 0 z refl (λ e. absurd (omega arith)) in
    let here : cond {A = ℕ} (f z) 1 0 ≡ cond {A = ℕ} (g z) 1 0 = ap (λ b. cond {A = ℕ} b 1 0) agree in
    let a = count-cons g z zs in
    let b = count-cons f z zs in
    omega arith

-- one that passes is counted
pub count_some : {X : Type 0} (f : X → Bool) (xs : List X) (i : ℕ) (x : X) → slice_get xs i ≡ Some x → f x ≡ true → 0 < count_by f xs
count_some f [] i x h passes = cc
count_some f (z ∷ zs) zero x h passes = let same : z ≡ x = cc in let here = count-yes f z zs (ap f same ∙ passes) in omega arith
count_some f (z ∷ zs) (suc i) x h passes = let more = count_some f zs i x h passes in let here = count-cons f z zs in omega arith

-- what is counted stands somewhere
pub count_found : {X : Type 0} (f : X → Bool) (xs : List X) → 0 < count_by f xs → (i : ℕ) × (x : X) × (slice_get xs i ≡ Some x) × (f x ≡ true)
count_found f [] h = absurd (omega arith)
count_found f (z ∷ zs) h =
    elim (cases_Bool (f z)) [
      | inl e ↦ (0, z, refl, e)
      | inr e ↦ (let here = count-no f z zs e in
          let found = count_found f zs (omega arith) in (suc found.0, found.1, found.2, found.3))
    ]

-- where one is counted, no two places pass
pub count_one : {X : Type 0} (f : X → Bool) (xs : List X) (i j : ℕ) (x y : X) → count_by f xs ≤ 1 → slice_get xs i ≡ Some x → slice_get xs j ≡ Some y → f x ≡ true → f y ≡ true → i ≡ j
count_one f [] i j x y le a b p q = cc
count_one f (z ∷ zs) zero zero x y le a b p q = refl
count_one f (z ∷ zs) zero (suc j) x y le a b p q =
    let same : z ≡ x = cc in
    let here = count-yes f z zs (ap f same ∙ p) in
    let more = count_some f zs j y b q in
    absurd (omega arith)
count_one f (z ∷ zs) (suc i) zero x y le a b p q =
    let same : z ≡ y = cc in
    let here = count-yes f z zs (ap f same ∙ q) in
    let more = count_some f zs i x a p in
    absurd (omega arith)
count_one f (z ∷ zs) (suc i) (suc j) x y le a b p q =
    let here = count-cons f z zs in
    ap suc (count_one f zs i j x y (omega arith) a b p q)

-- where more than one is counted, another place passes
pub count_other : {X : Type 0} (f : X → Bool) (xs : List X) (i : ℕ) → 1 < count_by f xs → (j : ℕ) × (y : X) × (slice_get xs j ≡ Some y) × (f y ≡ true) × (j ≡ i → ⊥)
count_other f [] i h = absurd (omega arith)
count_other f (z ∷ zs) zero h =
    let here = count-cons f z zs in
    let few : cond (f z) 1 0 ≤ 1 = elim (f z) as (λ b. cond b 1 0 ≤ 1) [ true ↦ omega arith | false ↦ omega arith ] in
    let found = count_found f zs (omega arith) in
    (suc found.0, found.1, found.2, found.3, λ e. absurd (omega arith))
count_other f (z ∷ zs) (suc i) h =
    elim (cases_Bool (f z)) [
      | inl e ↦ (0, z, refl, e, λ k. absurd (omega arith))
      | inr e ↦ (let here = count-no f z zs e in
          let found = count_other f zs i (omega arith) in
          (suc found.0, found.1, found.2, found.3, λ k. found.4 (let m : found.0 ≡ i = omega arith in m)))
    ]
