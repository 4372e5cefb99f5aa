-- Sums over lists that change at one place, and the sums of the rule.
use Rattle.std.proofs.Common.{◌≡◌, ℕ, zero, suc, ◌+◌, ◌<◌, ◌≤◌, ◌≢◌, Bool, true, false, List, [], ◌∷◌, ◌++◌, set, sym, refl, ap, arith, cond, eqb, eq-eqb, ne_eqb, lt-ltb, le-ltb}
use mathlib.Core.Logic.{dite}
use native.Mathlib.Decide.{ℕ_discrete, dec_le}
use mathlib.Core.Option.{some, some-injective, some-ne-none}
use lib.ListN.{get_elem?}
use Rattle.job_desk.specs.Lists.{total, times, once_below}
use Rattle.job_desk.specs.Draws.{Draw, draw, draws_of, draws_by, late_by}

module _ {A : Type 0} where
  pub set_swap : (l : List A) (i j : ℕ) (a b : A) → i ≢ j → set (set l i a) j b ≡ set (set l j b) i a
  set_swap [] i j a b n = refl
  set_swap (x ∷ xs) zero zero a b n = absurd (n refl)
  set_swap (x ∷ xs) zero (suc j) a b n = refl
  set_swap (x ∷ xs) (suc i) zero a b n = refl
  set_swap (x ∷ xs) (suc i) (suc j) a b n = ap (λ l. x ∷ l) (set_swap xs i j a b (λ e. n (ap suc e)))

  module _ (g : A → ℕ) where
    pub total-append : (l m : List A) → total g (l ++ m) ≡ total g l + total g m
    total-append [] m = omega arith
    total-append (x ∷ xs) m = omega (arith, total-append xs m)

    pub total-set : (l : List A) (i : ℕ) (v w : A) → get_elem? l i ≡ some v → total g (set l i w) + g v ≡ total g l + g w
    total-set [] i v w e = absurd (some-ne-none v (sym e))
    total-set (x ∷ xs) zero v w e = omega (arith, ap g (some-injective x v e))
    total-set (x ∷ xs) (suc i) v w e = omega (arith, total-set xs i v w e)

    pub term_le : (l : List A) (i : ℕ) (v : A) → get_elem? l i ≡ some v → g v ≤ total g l
    term_le [] i v e = absurd (some-ne-none v (sym e))
    term_le (x ∷ xs) zero v e = omega (arith, ap g (some-injective x v e))
    term_le (x ∷ xs) (suc i) v e = omega (arith, term_le xs i v e)

    pub terms_le : (l : List A) (i j : ℕ) (v u : A) → j ≢ i → get_elem? l i ≡ some v → get_elem? l j ≡ some u → g v + g u ≤ total g l
    terms_le [] i j v u n e d = absurd (some-ne-none v (sym e))
    terms_le (x ∷ xs) zero zero v u n e d = absurd (n refl)
    terms_le (x ∷ xs) zero (suc j) v u n e d = omega (arith, ap g (some-injective x v e), term_le xs j u d)
    terms_le (x ∷ xs) (suc i) zero v u n e d = omega (arith, ap g (some-injective x u d), term_le xs i v e)
    terms_le (x ∷ xs) (suc i) (suc j) v u n e d = omega (arith, terms_le xs i j v u (λ h. n (ap suc h)) e d)

    total_none : (l : List A) → ((j : ℕ) (u : A) → get_elem? l j ≡ some u → g u ≡ 0) → total g l ≡ 0
    total_none [] h = refl
    total_none (x ∷ xs) h = omega (arith, h 0 x refl, total_none xs (λ j u e. h (suc j) u e))

    -- where it is 0 elsewhere
    pub total_only : (l : List A) (i : ℕ) (v : A) → get_elem? l i ≡ some v → ((j : ℕ) (u : A) → j ≢ i → get_elem? l j ≡ some u → g u ≡ 0) → total g l ≡ g v
    total_only [] i v e h = absurd (some-ne-none v (sym e))
    total_only (x ∷ xs) zero v e h = omega (arith, ap g (some-injective x v e), total_none xs (λ j u d. h (suc j) u (λ k. omega arith) d))
    total_only (x ∷ xs) (suc i) v e h = omega (arith, h 0 x (λ k. omega arith) refl, total_only xs i v e (λ j u n d. h (suc j) u (λ k. n (omega arith)) d))

pub once_yes : (x n : ℕ) → x < n → once_below x n ≡ 1
once_yes x n h = ap (λ b. cond b 1 0) (lt-ltb x n h)

pub once_no : (x n : ℕ) → n ≤ x → once_below x n ≡ 0
once_no x n h = ap (λ b. cond b 1 0) (le-ltb x n h)

same_one : (x y : ℕ) → x ≡ y → cond {A = ℕ} (eqb x y) 1 0 ≡ 1
same_one x y e = ap (λ b. cond b 1 0) (eq-eqb x y e)

other_none : (x y : ℕ) → x ≢ y → cond {A = ℕ} (eqb x y) 1 0 ≡ 0
other_none x y n = ap (λ b. cond b 1 0) (ne_eqb x y n)

pub times_here : (x : ℕ) → times x (x ∷ []) ≡ 1
times_here x = omega (arith, same_one x x refl)

pub times_else : (x y : ℕ) → y ≢ x → times x (y ∷ []) ≡ 0
times_else x y n = omega (arith, other_none y x n)

-- the number n was drawn once more
pub once_more : (x n caller : ℕ) → once_below x (n + 1) ≡ once_below x n + draws_of x (draw caller n ∷ [])
once_more x n caller = dite (ℕ_discrete n x)
    (λ e. omega (arith, once_yes x (n + 1) (omega arith), once_no x n (omega arith), same_one n x e))
    (λ ne. let z = other_none n x ne in dite (dec_le (x + 1) n)
    (λ l. omega (arith, once_yes x (n + 1) (omega arith), once_yes x n (omega arith)))
    (λ l. omega (arith, once_no x (n + 1) (omega arith), once_no x n (omega arith))))

pub by_other : (k caller n : ℕ) → caller ≢ k → draws_by k (draw caller n ∷ []) ≡ 0
by_other k caller n ne = omega (arith, other_none caller k ne)

cond_le : (b : Bool) (x : ℕ) → cond b 0 x ≤ x
cond_le true x = omega arith
cond_le false x = omega arith

pub late_le : (jobs k : ℕ) (draws : List Draw) → late_by jobs k draws ≤ draws_by k draws
late_le jobs k [] = omega arith
late_le jobs k (d ∷ ds) = omega (arith, late_le jobs k ds, cond_le (Rattle.std.proofs.Common.nat_lt d.number jobs) (cond (eqb d.caller k) 1 0))

pub late_low : (jobs k caller n : ℕ) → n < jobs → late_by jobs k (draw caller n ∷ []) ≡ 0
late_low jobs k caller n h = omega (arith, ap (λ b. cond b 0 (cond {A = ℕ} (eqb caller k) 1 0)) (lt-ltb n jobs h))

pub late_other : (jobs k caller n : ℕ) → caller ≢ k → late_by jobs k (draw caller n ∷ []) ≡ 0
late_other jobs k caller n ne = omega (arith, late_le jobs k (draw caller n ∷ []), by_other k caller n ne)

one_at_most : (b : Bool) → cond {A = ℕ} b 1 0 ≤ 1
one_at_most true = omega arith
one_at_most false = omega arith

pub late_one : (jobs k caller n : ℕ) → late_by jobs k (draw caller n ∷ []) ≤ 1
late_one jobs k caller n = omega (arith, late_le jobs k (draw caller n ∷ []), one_at_most (eqb caller k))
