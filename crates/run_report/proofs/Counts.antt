-- Counts of blocks, and pairs in lists.
use Rattle.std.proofs.Common.{◌≡◌, ℕ, zero, suc, ◌+◌, ◌-◌, ◌<◌, ◌≤◌, Bool, true, false, List, [], ◌∷◌, ◌++◌, length, get_or, take, cond, refl, sym, ap, subst, ◌∙◌, arith, All, Contains, Some, inl, inr}
use Rattle.std.specs.Prelude.{slice_get, count_by, AllPairs}
use Rattle.std.proofs.lemmas.Bool.{cases_lt, cases_Bool, false≢true}
use Rattle.std.proofs.lemmas.List.{get_or_append_left, get_or-append_right, length-append, take_all, take_more}
use Rattle.std.proofs.lemmas.List.Elements.{All-push, Contains-get_or}
use Rattle.std.proofs.lemmas.List.Sums.{sum_by-cons}
use Rattle.report_text.specs.declared.report.GoalBlock.{GoalBlock}
use Rattle.report_text.specs.declared.report.GoalBlock.TheVariants as blocks
use Rattle.run_report.specs.Report.{is_reached, is_unreachable, is_open}

-- each block is of one of three kinds
one_kind : (b : GoalBlock) → cond (is_reached b) 1 0 + cond (is_unreachable b) 1 0 + cond (is_open b) 1 0 ≡ 1
one_kind (blocks.Reached n w) = refl
one_kind (blocks.Unreachable n i p) = refl
one_kind (blocks.Open depth hops strength) = refl

pub counts_join : (bs : List GoalBlock) → count_by is_reached bs + count_by is_unreachable bs + count_by is_open bs ≡ length bs
counts_join [] = refl
counts_join (b ∷ bs) =
    omega (arith, counts_join bs, one_kind b, sum_by-cons (λ x. cond (is_reached x) 1 0) b bs, sum_by-cons (λ x. cond (is_unreachable x) 1 0) b bs, sum_by-cons (λ x. cond (is_open x) 1 0) b bs)

pub open_are : (bs : List GoalBlock) (count reached unreachable : ℕ) → length bs ≡ count → reached ≡ count_by is_reached bs → unreachable ≡ count_by is_unreachable bs
    → count - reached - unreachable ≡ count_by is_open bs
open_are bs count reached unreachable size r u = omega (arith, counts_join bs)

zero_if : (t : Bool) → t ≡ false → ◌≡◌ {A = ℕ} (cond t 1 0) 0
zero_if true e = absurd (false≢true (sym e))
zero_if false e = refl

one_if : (t : Bool) → t ≡ true → ◌≡◌ {A = ℕ} (cond t 1 0) 1
one_if true e = refl
one_if false e = absurd (false≢true e)

-- where one is unreachable the count isn't 0
pub some_unreachable : (bs : List GoalBlock) (g : ℕ) (b : GoalBlock) → slice_get bs g ≡ Some b → is_unreachable b ≡ true → 0 < count_by is_unreachable bs
some_unreachable [] g b e un = absurd cc
some_unreachable (x ∷ bs) zero b e un =
    let same : x ≡ b = cc in
    omega (arith, sum_by-cons (λ y. cond (is_unreachable y) 1 0) x bs, one_if (is_unreachable x) (ap is_unreachable same ∙ un))
some_unreachable (x ∷ bs) (suc g) b e un = omega (arith, sum_by-cons (λ y. cond (is_unreachable y) 1 0) x bs, some_unreachable bs g b e un)

-- one that is counted stands somewhere
pub counted_place : (test : GoalBlock → Bool) (bs : List GoalBlock) → 0 < count_by test bs → (g : ℕ) × (b : GoalBlock) × (slice_get bs g ≡ Some b) × (test b ≡ true)
counted_place test [] some = absurd (omega (arith, some))
counted_place test (x ∷ bs) some = elim (cases_Bool (test x)) [
  | inl is ↦ (0, x, refl, is)
  | inr isnt ↦ (
      let rest = counted_place test bs (omega (arith, some, sum_by-cons (λ y. cond (test y) 1 0) x bs, zero_if (test x) isnt)) in
      (suc rest.0, rest.1, rest.2, rest.3)
      )
]

-- ---- lists, item by item
pub all_more : {X : Type 0} (P : X → Type 0) (xs : List X) (k : ℕ) (x : X) → k < length xs → x ≡ get_or xs k x → All P (take k xs) → P x → All P (take (k + 1) xs)
all_more {X = X} P xs k x inside here before own =
    subst (λ (ys : List X). All P ys) (sym (take_more xs k x inside ∙ ap (λ (y : X). take k xs ++ y ∷ []) (sym here))) (All-push P (take k xs) x before own)

pub all_whole : {X : Type 0} (P : X → Type 0) (xs : List X) (k : ℕ) → length xs ≤ k → All P (take k xs) → All P xs
all_whole {X = X} P xs k whole all = subst (λ (ys : List X). All P ys) (take_all k xs whole) all

-- ---- pairs
pub pairs_append : {X : Type 0} (R : X → X → Type 0) (xs ys : List X) → AllPairs R xs → AllPairs R ys → ((x y : X) → Contains xs x → Contains ys y → R x y) → AllPairs R (xs ++ ys)
pairs_append {X = X} R xs ys left right cross = λ i j d l m.
    elim (cases_lt j (length xs)) [
      | inl before ↦ (
          subst (λ (x : X). R (get_or (xs ++ ys) i d) x) (sym (get_or_append_left xs ys d j before))
          (subst (λ (x : X). R x (get_or xs j d)) (sym (get_or_append_left xs ys d i (omega arith))) (left i j d l before))
          )
      | inr after ↦ (
          let inside : j - length xs < length ys = omega (arith, m, length-append xs ys) in
          let last = get_or-append_right xs ys (length xs) j d refl after in
          elim (cases_lt i (length xs)) [
            | inl first ↦ (
                subst (λ (x : X). R (get_or (xs ++ ys) i d) x) (sym last)
                (subst (λ (x : X). R x (get_or ys (j - length xs) d)) (sym (get_or_append_left xs ys d i first))
                (cross (get_or xs i d) (get_or ys (j - length xs) d) (Contains-get_or xs i d first) (Contains-get_or ys (j - length xs) d inside)))
                )
            | inr later ↦ (
                subst (λ (x : X). R (get_or (xs ++ ys) i d) x) (sym last)
                (subst (λ (x : X). R x (get_or ys (j - length xs) d)) (sym (get_or-append_right xs ys (length xs) i d refl later))
                (right (i - length xs) (j - length xs) d (omega arith) inside))
                )
          ]
          )
    ]
