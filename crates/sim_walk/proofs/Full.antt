-- As many different numbers below n as there are leave none out.
use Rattle.std.proofs.Common.{◌≡◌, ◌≢◌, ℕ, ◌<◌, ◌≤◌, false, List, ◌∷◌, length, get_or, eqb, eq-eqb, sym, ◌∙◌, arith, All, AllPairs, Contains, inl, inr}
use Rattle.std.specs.List.{list_any}
use Rattle.std.proofs.lemmas.Bool.{cases_Bool, eqb-true, false≢true}
use Rattle.std.proofs.lemmas.Bool.Decides.{nat_tests}
use Rattle.std.proofs.lemmas.List.Elements.{All-cons, All-contains}
use Rattle.std.proofs.lemmas.List.Folds.{list_any_at}
use Rattle.std.proofs.lemmas.List.Kept.{AllPairs-cons}
use Rattle.std.proofs.lemmas.Map.Keys.{IsDistinct-from_apart}
use Rattle.std.proofs.lemmas.Map.Steps.{length-le_from_distinct_below}
use Rattle.std.proofs.lemmas.Map.Views.{Contains-from_any}

other_test : (m n : ℕ) → m ≢ n → eqb m n ≡ false
other_test m n e = grind (arith, nat_tests)

pub distinct_below : (xs : List ℕ) (n : ℕ) → AllPairs (λ x y. x ≢ y) xs → All (λ x. x < n) xs → length xs ≤ n
distinct_below xs n distinct below =
    length-le_from_distinct_below xs n
    (IsDistinct-from_apart eqb xs (λ i j d l m. other_test (get_or xs i d) (get_or xs j d) (distinct i j d l m)))
    (λ q h. All-contains (λ x. x < n) xs q below (Contains-from_any eqb-true q xs h))

pub all_contained : (xs : List ℕ) (n q : ℕ) → AllPairs (λ x y. x ≢ y) xs → All (λ x. x < n) xs → n ≤ length xs → q < n → Contains xs q
all_contained xs n q distinct below whole inside =
    elim (cases_Bool (list_any (eqb q) xs)) [
      | inl found ↦ Contains-from_any eqb-true q xs found
      | inr none ↦ (
          let apart : All (λ x. q ≢ x) xs = λ k d l e. false≢true (sym none ∙ list_any_at (eqb q) xs k d l (eq-eqb q (get_or xs k d) e)) in
          let short = distinct_below (q ∷ xs) n (AllPairs-cons (λ x y. x ≢ y) q xs apart distinct) (All-cons (λ x. x < n) q xs inside below) in
          absurd (omega (arith, short))
          )
    ]
