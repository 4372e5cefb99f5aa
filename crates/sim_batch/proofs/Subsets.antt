-- Different numbers that are all in a list are no more than the list.
use Rattle.std.proofs.Common.{◌≡◌, ◌≢◌, ℕ, ◌≤◌, false, List, length, get_or, eqb, eq-eqb, sym, arith, AllPairs, Contains}
use Rattle.std.proofs.lemmas.Bool.{eqb-true}
use Rattle.std.proofs.lemmas.Bool.Decides.{nat_tests}
use Rattle.std.proofs.lemmas.List.Folds.{list_any_at}
use Rattle.std.proofs.lemmas.Map.Keys.{IsDistinct-from_apart}
use Rattle.std.proofs.lemmas.Map.Made.{length-le_from_is_member}
use Rattle.std.proofs.lemmas.Map.Views.{Contains-from_any}
use Rattle.std.proofs.lemmas.Cmp.{nat_eq_equiv}

apart_test : (m n : ℕ) → m ≢ n → eqb m n ≡ false
apart_test m n e = grind (arith, nat_tests)

pub fewer_inside : (xs ys : List ℕ) → AllPairs (λ x y. x ≢ y) xs → ((x : ℕ) → Contains xs x → Contains ys x) → length xs ≤ length ys
fewer_inside xs ys distinct inside =
    length-le_from_is_member nat_eq_equiv xs ys
    (IsDistinct-from_apart eqb xs (λ i j d l m. apart_test (get_or xs i d) (get_or xs j d) (distinct i j d l m)))
    (λ q h. (
    let there = inside q (Contains-from_any eqb-true q xs h) in
    list_any_at (eqb q) ys there.0 q there.1 (eq-eqb q (get_or ys there.0 q) (sym there.2))
    ))
