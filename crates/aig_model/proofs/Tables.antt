-- Rows kept in one list without gaps: their places, and one row more.
use Rattle.std.proofs.Common.{◌≡◌, ℕ, ◌+◌, ◌*◌, ◌<◌, ◌≤◌, Bool, false, List, [], ◌∷◌, ◌++◌, length, get_or, take, drop, refl, sym, ap, ◌∙◌, zero-add, arith, map, length-drop, length-take, All}
use Rattle.std.proofs.lemmas.List.FromFn.{length-map-range_with_len, get_or-map-range_with_len, fill_by_all, map-range_with_len_more}
use Rattle.std.proofs.lemmas.List.{get_or-take, get_or-drop, drop-append-le, take-append-le, drop_all, take_all}
use Rattle.std.proofs.lemmas.Nat.{mul-add-lt, mul-le}
use Rattle.std.specs.List.{range_with_len}
use Rattle.aig_model.specs.Table.{Table, row_of, rows_of}

pub length-rows_of : (width len : ℕ) (bits : List Bool) → length (rows_of width len bits) ≡ len
unfolding rows_of
length-rows_of width len bits = length-map-range_with_len (row_of width bits) 0 len

pub get_or-rows_of : (width len : ℕ) (bits : List Bool) (row : ℕ) (other : List Bool) → row < len → get_or (rows_of width len bits) row other ≡ row_of width bits row
unfolding rows_of
get_or-rows_of width len bits row other h = get_or-map-range_with_len (row_of width bits) 0 len row row other h (zero-add row)

-- ---- places in the list without gaps
row_within : (width len row total : ℕ) → row < len → total ≡ len * width → row * width + width ≤ total
row_within width len row total h e = let below : (row + 1) * width ≤ len * width = mul-le (row + 1) width len width (omega arith) (omega arith) in omega arith

-- a row that stood keeps its values
row_of-append : (width len row : ℕ) (bits more : List Bool) → length bits ≡ len * width → row < len → row_of width (bits ++ more) row ≡ row_of width bits row
row_of-append width len row bits more e h =
    let fits : row * width + width ≤ length bits = row_within width len row (length bits) h e in
    let left : width ≤ length (drop (row * width) bits) = omega (arith, length-drop (row * width) bits) in
    ap (take width) (drop-append-le (row * width) bits more (omega arith)) ∙ take-append-le width (drop (row * width) bits) more left

row_of-last : (width len : ℕ) (bits more : List Bool) → length bits ≡ len * width → length more ≡ width → row_of width (bits ++ more) len ≡ more
row_of-last width len bits more e wide =
    rw (← e, drop-append-le (length bits) bits more (omega arith), drop_all (length bits) bits (omega arith)) (take_all width more (omega arith))

pub rows_of-push : (width len : ℕ) (bits more : List Bool) → length bits ≡ len * width → length more ≡ width
    → rows_of width (len + 1) (bits ++ more) ≡ rows_of width len bits ++ more ∷ []
unfolding rows_of
rows_of-push width len bits more e wide =
    let kept : map (row_of width bits) (range_with_len 0 len) ≡ map (row_of width (bits ++ more)) (range_with_len 0 len) =
    fill_by_all (row_of width (bits ++ more)) (map (row_of width bits) (range_with_len 0 len)) len [] (length-map-range_with_len (row_of width bits) 0 len)
    (λ k h. get_or-map-range_with_len (row_of width bits) 0 len k k [] h (zero-add k) ∙ sym (row_of-append width len k bits more e h))
    in
    map-range_with_len_more (row_of width (bits ++ more)) 0 len len (zero-add len) ∙ rw (← kept, row_of-last width len bits more e wide) refl

-- ---- from the table that contracts see back to the list without gaps
abbrev pub table : ℕ → ℕ → List Bool → Table
table width len bits = record { width = width; rows = rows_of width len bits }

pub same_width : (width len : ℕ) (bits : List Bool) (t : Table) → table width len bits ≡ t → width ≡ t.width
same_width width len bits t e = ap (λ x. x.width) e

row_below : (width len row : ℕ) (bits : List Bool) (t : Table) → table width len bits ≡ t → row < length t.rows → row < len
row_below width len row bits t e h =
    let same : length (rows_of width len bits) ≡ length t.rows = ap (λ x. length x.rows) e in omega (arith, length-rows_of width len bits)

pub row_fits : (width len row : ℕ) (bits : List Bool) (t : Table) → table width len bits ≡ t → length bits ≡ len * width → row < length t.rows
    → row * width + width ≤ length bits
row_fits width len row bits t e size h = row_within width len row (length bits) (row_below width len row bits t e h) size

pub row_is : (width len row : ℕ) (bits : List Bool) (t : Table) (other : List Bool) → table width len bits ≡ t → row < length t.rows
    → row_of width bits row ≡ get_or t.rows row other
row_is width len row bits t other e h =
    sym (get_or-rows_of width len bits row other (row_below width len row bits t e h)) ∙ ap (λ x. get_or x.rows row other) e

pub length-row_of : (width row : ℕ) (bits : List Bool) → row * width + width ≤ length bits → length (row_of width bits row) ≡ width
length-row_of width row bits h = omega (arith, length-take width (drop (row * width) bits), length-drop (row * width) bits)

pub bit_fits : (width len row column : ℕ) (bits : List Bool) (t : Table) → table width len bits ≡ t → length bits ≡ len * width
    → row < length t.rows → column < t.width → row * width + column < length bits
bit_fits width len row column bits t e size h within =
    let same = same_width width len bits t e in omega (arith, mul-add-lt row width column len (row_below width len row bits t e h) (omega arith), size)

pub bit_is : (width len row column : ℕ) (bits : List Bool) (t : Table) → table width len bits ≡ t → row < length t.rows → column < t.width
    → get_or bits (row * width + column) false ≡ get_or (get_or t.rows row []) column false
bit_is width len row column bits t e h within =
    let same = same_width width len bits t e in
    sym (get_or-take width (drop (row * width) bits) column false (omega arith) ∙ get_or-drop (row * width) bits column false)
    ∙ ap (λ x. get_or x column false) (row_is width len row bits t [] e h)

pub rows_are_wide : (width len : ℕ) (bits : List Bool) (t : Table) → table width len bits ≡ t → length bits ≡ len * width
    → All (λ row. length row ≡ t.width) t.rows
rows_are_wide width len bits t e size k other h =
    ap length (sym (row_is width len k bits t other e h)) ∙ (length-row_of width k bits (row_fits width len k bits t e size h) ∙ same_width width len bits t e)
