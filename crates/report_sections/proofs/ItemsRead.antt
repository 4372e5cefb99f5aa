-- One item more, and the last one.
use Rattle.std.proofs.Common.{◌≡◌, ℕ, suc, ◌+◌, ◌-◌, ◌<◌, ◌≤◌, List, [], ◌∷◌, ◌++◌, ap, arith, Ok}
use Rattle.report_lines.specs.Reading.{Place, Read, items_read, ◌>>=◌}

pub items_more : {A : Type 0} (read : ℕ → Place → Read A) (i n : ℕ) (xs : List A) (p : Place) → i < n
    → items_read read i (n - i) xs p ≡ (read i p >>= λ a. items_read read (i + 1) (n - (i + 1)) (xs ++ a.0 ∷ []) a.1)
items_more read i n xs p h = let size : n - i ≡ suc (n - (i + 1)) = omega arith in ap (λ (m : ℕ). items_read read i m xs p) size

pub items_done : {A : Type 0} (read : ℕ → Place → Read A) (i n : ℕ) (xs : List A) (p : Place) → n ≤ i → items_read read i (n - i) xs p ≡ Ok (xs, p)
items_done read i n xs p h = let size : n - i ≡ 0 = omega arith in ap (λ (m : ℕ). items_read read i m xs p) size

pub ruleset item_steps = (items_more, items_done)
