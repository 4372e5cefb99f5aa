-- One row more, and the last one.
use Rattle.std.proofs.Common.{◌≡◌, ℕ, suc, ◌+◌, ◌-◌, ◌<◌, ◌≤◌, Bool, List, [], ◌∷◌, ◌++◌, ap, arith, Ok, Err}
use Rattle.report_lines.specs.Reading.{Place, ◌>>=◌, line_read, fault_at}
use Rattle.report_blocks.specs.Witness.{row_of, or_end, rows_from}

pub rows_more : (width i n : ℕ) (rows : List (List Bool)) (p : Place) → i < n
    → rows_from width (n - i) rows p ≡ (line_read (row_of width) p >>= λ o. or_end o.0 (Ok (rows, o.1)) (λ row. rows_from width (n - (i + 1)) (rows ++ row ∷ []) o.1))
rows_more width i n rows p h = let size : n - i ≡ suc (n - (i + 1)) = omega arith in ap (λ (m : ℕ). rows_from width m rows p) size

pub rows_done : (width i n : ℕ) (rows : List (List Bool)) (p : Place) → n ≤ i → rows_from width (n - i) rows p ≡ Err (fault_at p)
rows_done width i n rows p h = let size : n - i ≡ 0 = omega arith in ap (λ (m : ℕ). rows_from width m rows p) size

pub ruleset row_steps = (rows_more, rows_done)
