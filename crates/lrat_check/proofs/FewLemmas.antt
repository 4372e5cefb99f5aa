-- Earned lemmas are few: each is a number with one digit of three for each variable, and these numbers differ.
use Rattle.std.proofs.Common.{◌≡◌, ◌≢◌, ℕ, zero, suc, ◌+◌, ◌*◌, ◌^◌, ◌<◌, ◌≤◌, true, false, cond, eqb, ℤ, pos, negsuc, nat_abs, List, [], ◌∷◌, ◌++◌, length, refl, ap, sym, ◌∙◌, subst, arith, inl, inr}
use Rattle.std.proofs.lemmas.Bool.{eqb-true, or_cases, cases_Bool, ne_eqb}
use Rattle.std.proofs.lemmas.List.Elements.{All-head, All-tail, All-cons, All-contains, Contains-push}
use Rattle.std.proofs.lemmas.Map.Steps.{length-le_from_distinct_below}
use Rattle.std.proofs.Math.Nat.{pow-suc}
use Rattle.std.specs.List.{All, AllByRecursion, IsDistinct, list_any}
use Rattle.cnf_base.specs.Status.{same_lit, has}
use Rattle.cnf_base.specs.Meaning.{CnfFormula, IsWithin}
use Rattle.lrat_text.specs.declared.proof.LratStep.{LratStep}
use Rattle.lrat_text.specs.declared.proof.LratStep.TheVariants.{Add, Delete}
use Rattle.lrat_text.specs.Standing.{Standing, start, with_clause}
use Rattle.lrat_text.specs.Accepted.{IsBothWays}
use Rattle.lrat_text.specs.Spent.{SameLiterals, SpentFrom, SpentOn, EarnedFrom, Earned}
use Rattle.cnf_base.proofs.Literals.{same_tests, same_lit-true, has-head}

-- how the variable y + 1 stands in a clause: not at all, itself, or negated
abbrev digit : List ℤ → ℕ → ℕ
digit c y = cond (has c (pos (suc y))) 1 (cond (has c (negsuc y)) 2 0)

-- the digits of the variables 1 to n
abbrev code : List ℤ → ℕ → ℕ
code c zero = 0
code c (suc n) = 3 * code c n + digit c n

digit_small : (c : List ℤ) (y : ℕ) → digit c y < 3
digit_small c y = grind arith

code_small : (c : List ℤ) (n : ℕ) → code c n < 3 ^ n
code_small c zero = omega arith
code_small c (suc n) = let last = digit_small c n in let rest = code_small c n in rw pow-suc (omega arith)

same_digits : (c e : List ℤ) (n : ℕ) → code c n ≡ code e n → (y : ℕ) → y < n → digit c y ≡ digit e y
same_digits c e zero h y less = absurd (omega arith)
same_digits c e (suc n) h y less =
    let p = digit_small c n in
    let q = digit_small e n in
    let rest : code c n ≡ code e n = omega arith in
    let last : digit c n ≡ digit e n = omega arith in
    elim (cases_Bool (eqb y n)) [
      | inl k ↦ rw (eqb-true y n k) last
      | inr k ↦ same_digits c e n rest y (grind arith)
    ]

digit_one : (c : List ℤ) (y : ℕ) → digit c y ≡ 1 → has c (pos (suc y)) ≡ true
digit_one c y h = grind arith

digit_two : (c : List ℤ) (y : ℕ) → digit c y ≡ 2 → has c (negsuc y) ≡ true
digit_two c y h = grind arith

-- a clause over the variables 1 to n that has no literal both ways
record IsProper (n : ℕ) (c : List ℤ) : Type 0 where
  plain : ¬ IsBothWays c
  range : IsWithin n c

has-within : (n : ℕ) (c : List ℤ) (l : ℤ) → IsWithin n c → has c l ≡ true → nat_abs l ≤ n
has-within n [] l w h = cc
has-within n (m ∷ ms) l w h =
    let P : ℤ → Type 0 = λ x. nat_abs x ≤ n in
    elim (or_cases (same_lit m l) (has ms l) h) [
      | inl e ↦ subst P (same_lit-true m l e) (All-head P m ms w)
      | inr e ↦ has-within n ms l (All-tail P m ms w) e
    ]

-- a proper clause's literals are told by its digits
kept : (n : ℕ) (c e : List ℤ) → IsProper n c → ((y : ℕ) → y < n → digit c y ≡ digit e y) → (l : ℤ) → has c l ≡ true → has e l ≡ true
kept n c e p d (pos zero) h = absurd (p.plain (pos zero, h, h))
kept n c e p d (pos (suc y)) h =
    let less : y < n = omega (arith, has-within n c (pos (suc y)) p.range h) in
    let one : digit c y ≡ 1 = rw h refl in
    digit_one e y (sym (d y less) ∙ one)
kept n c e p d (negsuc y) h =
    let less : y < n = omega (arith, has-within n c (negsuc y) p.range h) in
    elim (cases_Bool (has c (pos (suc y)))) [
      | inl k ↦ absurd (p.plain (pos (suc y), k, h))
      | inr k ↦ (let two : digit c y ≡ 2 = rw (k, h) refl in digit_two e y (sym (d y less) ∙ two))
    ]

apart : (n : ℕ) (c e : List ℤ) → IsProper n c → IsProper n e → ¬ SameLiterals c e → code e n ≡ code c n → ⊥
apart n c e p q f h =
    f (λ l. same_tests (has c l) (has e l) (kept n c e p (same_digits c e n (sym h)) l) (kept n e c q (same_digits e c n h) l))

code-nil : (n : ℕ) → code [] n ≡ 0
code-nil zero = refl
code-nil (suc n) = rw (code-nil n) refl

not_zero : (n : ℕ) (c : List ℤ) → IsProper n c → c ≢ [] → code c n ≡ 0 → ⊥
not_zero n [] p e h = e refl
not_zero n (l ∷ ls) p e h =
    let k : has [] l ≡ true = kept n (l ∷ ls) [] p (same_digits (l ∷ ls) [] n (h ∙ sym (code-nil n))) l (has-head l ls) in cc

abbrev codes : ℕ → List LratStep → List ℕ
codes n [] = []
codes n (Add id lits hints ∷ steps) = code lits n ∷ codes n steps
codes n (Delete at ids ∷ steps) = codes n steps

-- a clause that is not new beside the earlier ones
abbrev IsTaken : List ℤ → List (List ℤ) → Type 0
IsTaken e earlier = (c : List ℤ) → All (λ clause. ¬ SameLiterals c clause) earlier → ¬ SameLiterals c e

IsTaken-push : (e c : List ℤ) (earlier : List (List ℤ)) → IsTaken e earlier → IsTaken e (earlier ++ c ∷ [])
IsTaken-push e c earlier h d fresh = h d (before d earlier fresh)
  where
    before : (d : List ℤ) (xs : List (List ℤ)) → All (λ clause. ¬ SameLiterals d clause) (xs ++ c ∷ []) → All (λ clause. ¬ SameLiterals d clause) xs
    before d [] k = λ i x less. absurd (omega arith)
    before d (x ∷ xs) k = All-cons (λ clause. ¬ SameLiterals d clause) x xs (All-head (λ clause. ¬ SameLiterals d clause) x (xs ++ c ∷ []) k) (before d xs (All-tail (λ clause. ¬ SameLiterals d clause) x (xs ++ c ∷ []) k))

IsTaken-last : (e : List ℤ) (earlier : List (List ℤ)) → IsTaken e (earlier ++ e ∷ [])
IsTaken-last e earlier d fresh = All-contains (λ clause. ¬ SameLiterals d clause) (earlier ++ e ∷ []) e fresh (Contains-push earlier e)

later_apart : (n : ℕ) (e : List ℤ) (s : Standing) (earlier : List (List ℤ)) (steps : List LratStep) → IsProper n e → IsTaken e earlier → SpentFrom s earlier steps → EarnedFrom n earlier steps → AllByRecursion (λ y. eqb (code e n) y ≡ false) (codes n steps)
later_apart n e s earlier [] p k a b = tt
later_apart n e s earlier (Add id lits hints ∷ steps) p k a b = (
  ne_eqb (code e n) (code lits n) (apart n lits e (record { plain = a.1.plain; range = b.0 }) p (k lits a.1.fresh)),
  later_apart n e (with_clause s id lits) (earlier ++ lits ∷ []) steps p (IsTaken-push e lits earlier k) a.2 b.2,
)
later_apart n e s earlier (Delete at ids ∷ steps) p k a b = absurd a

none_zero : (n : ℕ) (s : Standing) (earlier : List (List ℤ)) (steps : List LratStep) → SpentFrom s earlier steps → EarnedFrom n earlier steps → AllByRecursion (λ y. eqb 0 y ≡ false) (codes n steps)
none_zero n s earlier [] a b = tt
none_zero n s earlier (Add id lits hints ∷ steps) a b = (
  ne_eqb 0 (code lits n) (λ h. not_zero n lits (record { plain = a.1.plain; range = b.0 }) a.1.not_empty (sym h)),
  none_zero n (with_clause s id lits) (earlier ++ lits ∷ []) steps a.2 b.2,
)
none_zero n s earlier (Delete at ids ∷ steps) a b = absurd a

distinct : (n : ℕ) (s : Standing) (earlier : List (List ℤ)) (steps : List LratStep) → SpentFrom s earlier steps → EarnedFrom n earlier steps → IsDistinct eqb (codes n steps)
unfolding IsDistinct
distinct n s earlier [] a b = tt
distinct n s earlier (Add id lits hints ∷ steps) a b = (
  later_apart n lits (with_clause s id lits) (earlier ++ lits ∷ []) steps (record { plain = a.1.plain; range = b.0 }) (IsTaken-last lits earlier) a.2 b.2,
  distinct n (with_clause s id lits) (earlier ++ lits ∷ []) steps a.2 b.2,
)
distinct n s earlier (Delete at ids ∷ steps) a b = absurd a

distinct_with_zero : (n : ℕ) (s : Standing) (earlier : List (List ℤ)) (steps : List LratStep) → SpentFrom s earlier steps → EarnedFrom n earlier steps → IsDistinct eqb (0 ∷ codes n steps)
unfolding IsDistinct
distinct_with_zero n s earlier steps a b = (none_zero n s earlier steps a b, distinct n s earlier steps a b)

codes_small : (n : ℕ) (steps : List LratStep) (q : ℕ) → list_any (eqb q) (codes n steps) ≡ true → q < 3 ^ n
codes_small n [] q h = cc
codes_small n (Add id lits hints ∷ steps) q h =
    elim (or_cases (eqb q (code lits n)) (list_any (eqb q) (codes n steps)) h) [
      | inl e ↦ rw (eqb-true q (code lits n) e) (code_small lits n)
      | inr e ↦ codes_small n steps q e
    ]
codes_small n (Delete at ids ∷ steps) q h = codes_small n steps q h

small_with_zero : (n : ℕ) (steps : List LratStep) (q : ℕ) → list_any (eqb q) (0 ∷ codes n steps) ≡ true → q < 3 ^ n
small_with_zero n steps q h =
    elim (or_cases (eqb q 0) (list_any (eqb q) (codes n steps)) h) [
      | inl e ↦ rw (eqb-true q 0 e) (let k = code_small [] n in omega arith)
      | inr e ↦ codes_small n steps q e
    ]

as_many : (n : ℕ) (s : Standing) (earlier : List (List ℤ)) (steps : List LratStep) → SpentFrom s earlier steps → length (codes n steps) ≡ length steps
as_many n s earlier [] a = refl
as_many n s earlier (Add id lits hints ∷ steps) a = ap suc (as_many n (with_clause s id lits) (earlier ++ lits ∷ []) steps a.2)
as_many n s earlier (Delete at ids ∷ steps) a = absurd a

pub earned_are_few : (formula : CnfFormula) (lemmas : ℕ) (proof : List LratStep) → SpentOn formula lemmas proof → Earned formula proof → lemmas < 3 ^ formula.vars
earned_are_few formula lemmas proof a b =
    let n = formula.vars in
    let long = length-le_from_distinct_below (0 ∷ codes n proof) (3 ^ n) (distinct_with_zero n (start formula) formula.clauses proof a.spent b) (small_with_zero n proof) in
    let many = as_many n (start formula) formula.clauses proof a.spent in
    let count = a.count in
    omega arith
