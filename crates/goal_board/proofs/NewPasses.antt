-- Passes of a new board.
use Rattle.std.proofs.Common.{◌≡◌, ℕ, zero, suc, ◌+◌, ◌-◌, ◌*◌, ◌<◌, ◌≤◌, false, [], ◌∷◌, ◌++◌, length, map, get_or, replicate, Option, Some, sym, refl, ap, ◌∙◌, subst, arith, suc-mul}
use Rattle.std.specs.List.{range_with_len}
use Rattle.std.proofs.lemmas.List.FromFn.{get_or-map-range_with_len, length-map-range_with_len}
use Rattle.atomic_table.specs.Seated.{TableId}
use Rattle.board_core.specs.Core.{fresh_view}
use Rattle.goal_board.specs.declared.view.Terms.{Terms}
use Rattle.goal_board.specs.Lists.{trues}
use Rattle.goal_board.specs.Passes.{BoardState, PassState, PassesState, IsPassOf, AreAllOf, new_pass}

pub no_trues : (n : ℕ) → trues (replicate n false) ≡ 0
no_trues zero = refl
no_trues (suc n) = omega (arith, no_trues n)

-- one part less has one share less
pub less_one : (parts share : ℕ) → 0 < parts → parts * share - share ≡ (parts - 1) * share
less_one zero share some = absurd (omega arith)
less_one (suc p) share some =
    let one : suc p * share ≡ p * share + share = suc-mul p share in
    let less : suc p - 1 ≡ p = omega arith in
    let back : (suc p - 1) * share ≡ p * share = ap (λ (n : ℕ). n * share) less in
    omega (arith, one, back)

pub one_fits : (parts share : ℕ) → 0 < parts → share ≤ parts * share
one_fits zero share some = absurd (omega arith)
one_fits (suc p) share some = let one : suc p * share ≡ p * share + share = suc-mul p share in omega arith

pub pass_is : (board : BoardState) (table : TableId) (terms : Option Terms) (goals caller : ℕ) → table ≡ board.table → terms ≡ Some board.terms → goals ≡ board.terms.goals
    → (let p : PassState = record { table = table; terms = terms; goals = goals; caller = caller; known = fresh_view; evidence = [] } in p ≡ new_pass board caller)
pass_is board table terms goals caller a b d = λ i. record { table = a i; terms = b i; goals = d i; caller = caller; known = fresh_view; evidence = [] }

pub range_snoc : {X : Type 0} (f : ℕ → X) (a n m : ℕ) → m ≡ a + n → map f (range_with_len a n) ++ f m ∷ [] ≡ map f (range_with_len a (n + 1))
range_snoc f a zero m e = ap (λ k. f k ∷ []) (let h : m ≡ a = omega arith in h)
range_snoc f a (suc n) m e = ap (λ l. f a ∷ l) (range_snoc f (a + 1) n m (omega arith)) ∙ ap (λ k. map f (range_with_len a k)) (let h : suc (n + 1) ≡ suc n + 1 = omega arith in h)

pub range_front : {X : Type 0} (f : ℕ → X) (n m : ℕ) → m ≡ n + 1 → f 0 ∷ map f (range_with_len 1 n) ≡ map f (range_with_len 0 m)
range_front f n m e = ap (λ k. map f (range_with_len 0 k)) (let h : suc n ≡ m = omega arith in h)

pub all_of : (board : BoardState) (s : PassesState) → s.passes ≡ map (new_pass board) (range_with_len 0 board.terms.callers) → s.room ≡ board.terms.callers → s.goals ≡ board.terms.goals → AreAllOf board s
all_of board s e room goals =
    let n : ℕ = board.terms.callers in
    let long : length s.passes ≡ n = ap length e ∙ length-map-range_with_len (new_pass board) 0 n in
    let at : (k : ℕ) (d : PassState) → k < length s.passes → get_or s.passes k d ≡ new_pass board k
    = λ k d lt. ap (λ l. get_or l k d) e ∙ get_or-map-range_with_len (new_pass board) 0 n k k d (omega (arith, lt, long)) (let same : 0 + k ≡ k = omega arith in same) in
    record {
      of_board = λ k d lt. subst (IsPassOf board) (sym (at k d lt)) record { table = refl; terms = refl; goals = refl };
      count = long;
      distinct = λ i j d lt far same.
          let a = ap (λ (p : PassState). p.caller) (at i d (omega (arith, lt, far))) in
          let b = ap (λ (p : PassState). p.caller) (at j d far) in
          omega (arith, lt, sym a ∙ same ∙ b);
      room = room;
      goals = goals;
    }
