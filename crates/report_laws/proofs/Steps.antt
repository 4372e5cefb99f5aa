-- The steps of one search: they run from 0, so that each is the number of those before it.
use Rattle.std.proofs.Common.{◌≡◌, ℕ, zero, suc, ◌+◌, ◌<◌, List, [], ◌∷◌, length, take, get_or, refl, ap, subst, ◌∙◌, arith, AllPairs, Contains, Option, Some, None}
use Rattle.std.specs.Prelude.{slice_get}
use Rattle.std.specs.List.{cons_option, range_with_len}
use Rattle.std.proofs.lemmas.List.FromFn.{get_or-range_with_len, length-range_with_len}
use Rattle.std.proofs.lemmas.Option.{none-some, same_Some, slice_get_within, get_or_from_slice_get}
use Rattle.report_text.specs.declared.report.BlockName.{BlockName}
use Rattle.report_text.specs.declared.report.Block.{Block}
use Rattle.report_check.specs.Bounds.{steps_of}

-- ---- pairs of queries
pub pair_at : (R : Block → Block → Type 0) (xs : List Block) (i j : ℕ) (x y : Block) → AllPairs R xs → i < j → slice_get xs i ≡ Some x → slice_get xs j ≡ Some y → R x y
pair_at R xs i j x y all earlier at_x at_y =
    subst (λ (b : Block). R b y) (get_or_from_slice_get xs i x x at_x)
    (subst (λ (b : Block). R (get_or xs i x) b) (get_or_from_slice_get xs j y x at_y) (all i j x earlier (slice_get_within xs j y at_y)))

-- ---- steps that run from a number on
first_number : (t : ℕ) (rest : List ℕ) (from count : ℕ) → t ∷ rest ≡ range_with_len from count → (n : ℕ) × (count ≡ suc n) × (t ≡ from) × (rest ≡ range_with_len (from + 1) n)
first_number t rest from zero e = absurd cc
first_number t rest from (suc n) e = (n, refl, cc, cc)

step_first : (own : Option ℕ) (rest : List ℕ) (from count t : ℕ) → own ≡ Some t → cons_option own rest ≡ range_with_len from count → (t ≡ from + 0) × (t < from + count)
step_first None rest from count t is e = absurd (none-some t is)
step_first (Some u) rest from count t is e =
    let first = first_number u rest from count e in
    let same : u ≡ t = same_Some u t is in
    (omega (arith, first.2, same), omega (arith, first.1, first.2, same))

step_later : (own : Option ℕ) (rest before : List ℕ) (from count t : ℕ) → cons_option own rest ≡ range_with_len from count
    → ((start n : ℕ) → rest ≡ range_with_len start n → (t ≡ start + length before) × (t < start + n))
    → (t ≡ from + length (cons_option own before)) × (t < from + count)
step_later None rest before from count t e later = later from count e
step_later (Some u) rest before from count t e later =
    let first = first_number u rest from count e in
    let on = later (from + 1) first.0 first.3 in
    (omega (arith, on.0), omega (arith, on.1, first.1))

step_from : (step_in : BlockName → Option ℕ) (xs : List Block) (place : ℕ) (b : Block) (t from count : ℕ) → steps_of step_in xs ≡ range_with_len from count
    → slice_get xs place ≡ Some b → step_in b.name ≡ Some t → (t ≡ from + length (steps_of step_in (take place xs))) × (t < from + count)
step_from step_in [] place b t from count e at is = absurd (none-some b at)
step_from step_in (x ∷ xs) zero b t from count e at is =
    step_first (step_in x.name) (steps_of step_in xs) from count t (ap (λ (y : Block). step_in y.name) (same_Some x b at) ∙ is) e
step_from step_in (x ∷ xs) (suc place) b t from count e at is =
    step_later (step_in x.name) (steps_of step_in xs) (steps_of step_in (take place xs)) from count t e (λ start n run. step_from step_in xs place b t start n run at is)

-- a query's step is the next after those before it, and below the number of all
pub step_at : (step_in : BlockName → Option ℕ) (xs : List Block) (place : ℕ) (b : Block) (t count : ℕ) → steps_of step_in xs ≡ range_with_len 0 count
    → slice_get xs place ≡ Some b → step_in b.name ≡ Some t → (t ≡ length (steps_of step_in (take place xs))) × (t < count)
step_at step_in xs place b t count e at is =
    let from = step_from step_in xs place b t 0 count e at is in
    (omega (arith, from.0), omega (arith, from.1))

-- each number below is a step
pub step_told : (steps : List ℕ) (count t : ℕ) → steps ≡ range_with_len 0 count → t < count → Contains steps t
step_told steps count t e below =
    let size : length steps ≡ count = ap length e ∙ length-range_with_len 0 count in
    (t, omega (arith, size), ap (λ (ts : List ℕ). get_or ts t t) e ∙ (get_or-range_with_len 0 count t t below ∙ (let same : 0 + t ≡ t = omega arith in same)))
