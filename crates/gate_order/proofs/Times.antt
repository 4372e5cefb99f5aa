-- How often a number stands in a list.
use Rattle.std.proofs.Common.{◌≡◌, ◌≢◌, ℕ, zero, suc, ◌+◌, ◌<◌, ◌≤◌, ◌⊎◌, inl, inr, nat_eq, List, [], ◌∷◌, ◌++◌, length, get_or, take, drop, refl, sym, ap, ◌∙◌, subst, arith, All, AllPairs, Contains, length-drop, length-take, add-zero}
use Rattle.std.specs.List.Sorted.{IsPermutation}
use Rattle.std.specs.List.{remove, flat_map, sum_by}
use Rattle.std.proofs.lemmas.Bool.{cases_eq}
use Rattle.std.proofs.lemmas.Bool.Decides.{nat_tests}
use Rattle.std.proofs.lemmas.List.{get_or-drop, get_or-take, get_or_default, take-append-drop}
use Rattle.std.proofs.lemmas.List.Sums.{sum_by-cons, sum_by-append, sum_by_push}
use Rattle.std.proofs.lemmas.List.Sorted.{sum_by-IsPermutation, All-permutation, length_permutation, IsPermutation-refl, IsPermutation-sym, IsPermutation-trans, IsPermutation-cons, IsPermutation-remove}
use Rattle.std.proofs.lemmas.List.Elements.{All-contains, All-from_get_or, All-tail, Contains-get_or}
use Rattle.aig_model.specs.Literal.{number}
use Rattle.aig_model.proofs.Elements.{Contains-head, Contains-later, Contains-nil, Contains-cons_cases}
use Rattle.gate_order.specs.PlaceOrder.{times}

-- whether two numbers are equal, as a number
pub equal_number : (m n : ℕ) → ((m ≡ n) × (number (nat_eq m n) ≡ 1)) ⊎ ((m ≢ n) × (number (nat_eq m n) ≡ 0))
equal_number m n = elim (cases_eq m n) [
  | inl e ↦ inl (e, grind (arith, nat_tests))
  | inr ne ↦ inr (ne, grind (arith, nat_tests))
]

pub times-nil : (n : ℕ) → times n [] ≡ 0
unfolding times
times-nil n = refl

pub times-cons : (n m : ℕ) (list : List ℕ) → times n (m ∷ list) ≡ number (nat_eq m n) + times n list
unfolding times
times-cons n m list = sum_by-cons (λ k. number (nat_eq k n)) m list

pub times-append : (n : ℕ) (xs ys : List ℕ) → times n (xs ++ ys) ≡ times n xs + times n ys
unfolding times
times-append n xs ys = sum_by-append (λ k. number (nat_eq k n)) xs ys

pub times_push : (n : ℕ) (xs : List ℕ) (m : ℕ) → times n (xs ++ m ∷ []) ≡ times n xs + number (nat_eq m n)
unfolding times
times_push n xs m = sum_by_push (λ k. number (nat_eq k n)) xs m

pub times-permutation : (n : ℕ) (xs ys : List ℕ) → IsPermutation xs ys → times n ys ≡ times n xs
unfolding times
times-permutation n xs ys same = sum_by-IsPermutation (λ k. number (nat_eq k n)) xs ys same

-- ---- what stands in a list
pub Contains-from_times : (n : ℕ) (list : List ℕ) → 0 < times n list → Contains list n
Contains-from_times n [] h = absurd (omega (arith, times-nil n))
Contains-from_times n (m ∷ list) h =
    elim (equal_number m n) [
      | inl e ↦ Contains-head m n list e.0
      | inr ne ↦ Contains-later m n list (Contains-from_times n list (omega (arith, times-cons n m list, ne.1)))
    ]

pub times-from_Contains : (n : ℕ) (list : List ℕ) → Contains list n → 0 < times n list
times-from_Contains n [] h = absurd (Contains-nil n h)
times-from_Contains n (m ∷ list) h =
    elim (Contains-cons_cases m n list h) [
      | inl e ↦ elim (equal_number m n) [ inl same ↦ omega (arith, times-cons n m list, same.1) | inr ne ↦ absurd (ne.0 e) ]
      | inr later ↦ omega (arith, times-cons n m list, times-from_Contains n list later)
    ]

pub All-times : (P : ℕ → Type 0) (n : ℕ) (list : List ℕ) → All P list → 0 < times n list → P n
All-times P n list all h = All-contains P list n all (Contains-from_times n list h)

-- ---- lists in which nothing stands twice
pub times-from_apart : (list : List ℕ) → AllPairs (λ m n. m ≢ n) list → (n : ℕ) → times n list ≤ 1
times-from_apart [] apart n = omega (arith, times-nil n)
times-from_apart (m ∷ list) apart n =
    let rest : times n list ≤ 1 = times-from_apart list (λ i j d h k. apart (suc i) (suc j) d (omega arith) (omega arith)) n in
    elim (equal_number m n) [
      | inl e ↦ elim (cases_zero (times n list)) [
        | inl none ↦ omega (arith, times-cons n m list, e.1)
        | inr some ↦
            let found = Contains-from_times n list some in
            absurd (apart 0 (suc found.0) n (omega arith) (omega (arith, found.1)) (e.0 ∙ sym found.2))
      ]
      | inr ne ↦ omega (arith, times-cons n m list, ne.1)
    ]
  where
    cases_zero : (k : ℕ) → (k ≡ 0) ⊎ (0 < k)
    cases_zero zero = inl refl
    cases_zero (suc k) = inr (omega arith)

times_at : (list : List ℕ) (i d : ℕ) → i < length list → 0 < times (get_or list i d) list
times_at list i d h = times-from_Contains (get_or list i d) list (i, h, get_or_default list i (get_or list i d) d h)

pub apart-from_times : (list : List ℕ) → ((n : ℕ) → times n list ≤ 1) → AllPairs (λ m n. m ≢ n) list
apart-from_times list once i j d before h e =
    let n = get_or list j d in
    let first : get_or (take j list) i d ≡ n = get_or-take j list i d before ∙ e in
    let second : get_or (drop j list) 0 d ≡ n = get_or-drop j list 0 d ∙ ap (λ k. get_or list k d) (add-zero j) in
    let one : 0 < times n (take j list) = subst (λ m. 0 < times m (take j list)) first (times_at (take j list) i d (omega (arith, length-take j list))) in
    let two : 0 < times n (drop j list) = subst (λ m. 0 < times m (drop j list)) second (times_at (drop j list) 0 d (omega (arith, length-drop j list))) in
    let all : times n list ≡ times n (take j list) + times n (drop j list) =
    ap (times n) (sym (take-append-drop j list)) ∙ times-append n (take j list) (drop j list)
    in
    absurd (omega (arith, once n))

pub apart-permutation : (xs ys : List ℕ) → IsPermutation xs ys → AllPairs (λ m n. m ≢ n) xs → AllPairs (λ m n. m ≢ n) ys
apart-permutation xs ys same apart = apart-from_times ys (λ n. omega (arith, times-permutation n xs ys same, times-from_apart xs apart n))

-- ---- lists with the same numbers
pub permutation-from_times : (xs ys : List ℕ) → ((n : ℕ) → times n xs ≡ times n ys) → IsPermutation xs ys
permutation-from_times [] [] same = IsPermutation-refl []
permutation-from_times [] (y ∷ ys) same =
    absurd (omega (arith, same y, times-nil y, times-from_Contains y (y ∷ ys) (Contains-head y y ys refl)))
permutation-from_times (x ∷ xs) ys same =
    let found = Contains-from_times x ys (omega (arith, same x, times-from_Contains x (x ∷ xs) (Contains-head x x xs refl))) in
    let moved = IsPermutation-remove ys found.0 x found.1 (sym found.2) in
    let rest : IsPermutation xs (remove ys found.0) =
    permutation-from_times xs (remove ys found.0)
    (λ n. omega (arith, same n, times-cons n x xs, times-cons n x (remove ys found.0), times-permutation n ys (x ∷ remove ys found.0) moved))
    in
    IsPermutation-trans (x ∷ xs) (x ∷ remove ys found.0) ys (IsPermutation-cons x xs (remove ys found.0) rest)
    (IsPermutation-sym ys (x ∷ remove ys found.0) moved)

-- ---- lists made of one list for each item
times-flat_map : {X : Type 0} (f : X → List ℕ) (n : ℕ) (xs : List X) → times n (flat_map f xs) ≡ sum_by (λ x. times n (f x)) xs
times-flat_map f n [] = times-nil n
times-flat_map f n (x ∷ xs) =
    times-append n (f x) (flat_map f xs) ∙ (ap (λ k. times n (f x) + k) (times-flat_map f n xs) ∙ sym (sum_by-cons (λ y. times n (f y)) x xs))

pub permutation-flat_map : {X : Type 0} (f : X → List ℕ) (xs ys : List X) → IsPermutation xs ys → IsPermutation (flat_map f xs) (flat_map f ys)
permutation-flat_map f xs ys same =
    permutation-from_times (flat_map f xs) (flat_map f ys)
    (λ n. times-flat_map f n xs ∙ (sym (sum_by-IsPermutation (λ x. times n (f x)) xs ys same) ∙ sym (times-flat_map f n ys)))

-- ---- how many numbers below a bound there are
below_strict : (m : ℕ) (xs : List ℕ) → All (λ x. x < suc m) xs → times m xs ≡ 0 → All (λ x. x < m) xs
below_strict m xs all absent =
    All-from_get_or (λ x. x < m) xs 0
    (λ i h.
    let low : get_or xs i 0 < suc m = all i 0 h in
    let found : 0 < times (get_or xs i 0) xs = times-from_Contains (get_or xs i 0) xs (Contains-get_or xs i 0 h) in
    let other : get_or xs i 0 ≢ m = λ e. absurd (omega (arith, absent, subst (λ (n : ℕ). 0 < times n xs) e found)) in
    omega (arith, low, other))

pub few_below : (m : ℕ) (xs : List ℕ) → ((n : ℕ) → times n xs ≤ 1) → All (λ x. x < m) xs → length xs ≤ m
few_below zero [] once all = omega arith
few_below zero (x ∷ xs) once all = absurd (omega (arith, all 0 0 (omega arith)))
few_below (suc m) xs once all =
    elim (cases_eq (times m xs) 0) [
      | inl absent ↦ omega (arith, few_below m xs once (below_strict m xs all absent))
      | inr some ↦
          let found = Contains-from_times m xs (omega (arith, some)) in
          let ys = remove xs found.0 in
          let moved = IsPermutation-remove xs found.0 m found.1 (sym found.2) in
          let times_rest = λ (n : ℕ). sym (times-permutation n xs (m ∷ ys) moved) ∙ times-cons n m ys in
          let once_rest : (n : ℕ) → times n ys ≤ 1 = λ n. omega (arith, once n, times_rest n) in
          let same : number (nat_eq m m) ≡ 1 = elim (equal_number m m) [ inl e ↦ e.1 | inr ne ↦ absurd (ne.0 refl) ] in
          let absent : times m ys ≡ 0 = omega (arith, once m, times_rest m, same) in
          let below : All (λ x. x < suc m) ys = All-tail (λ x. x < suc m) m ys (All-permutation (λ x. x < suc m) xs (m ∷ ys) moved all) in
          omega (arith, few_below m ys once_rest (below_strict m ys below absent), length_permutation xs (m ∷ ys) moved)
    ]
