-- The lines of seeds tell them.
use Rattle.std.proofs.Common.{◌≡◌, ℕ, ◌<◌, ◌^◌, Bool, List, [], ◌∷◌, ◌++◌, map, length, refl, sym, ap, ◌∙◌, append_assoc, arith, Option, Some, None}
use Rattle.std.specs.Prelude.{codes, decimal}
use Rattle.report_text.specs.declared.report.SeedLine.{SeedLine}
use Rattle.report_text.specs.Form.{IsCounted, FitsSeed, FitsSeedLine}
use Rattle.report_text.specs.Text.{Line, number_words, bits_words, seed_lines, seeds_lines}
use Rattle.report_text.proofs.Lines.{◌&◌, IsLine, AreLines, word-from_test}
use Rattle.report_text.proofs.Words.{decimal-is_word, decimal-no_letter}
use Rattle.report_text.proofs.Pieces.{IsSpelling, all-append, lines-plain, lines-tell, number_words-is_line, number_words-tells, section-is_spelling}
use Rattle.report_text.proofs.WitnessLines.{bits-is_line, bits-tell}

seed-plain : (inputs latches batch : ℕ) (s : Option SeedLine) → batch < 2 ^ 32 → FitsSeed inputs latches s → AreLines (seed_lines batch s)
unfolding seed_lines
seed-plain inputs latches batch None h f = (word-from_test (codes "seed") refl & decimal-is_word batch (omega arith) & word-from_test (codes "none") refl & tt, tt)
seed-plain inputs latches batch (Some s) h f = (
    number_words-is_line (codes "seed") (batch ∷ length s.rows.rows ∷ []) (word-from_test (codes "seed") refl) ((omega arith) & (omega (arith, f.count)) & tt)
    & bits-is_line s.start
    & all-append IsLine (map bits_words s.rows.rows) (bits_words s.state ∷ []) (lines-plain (λ (row : List Bool). length row ≡ inputs) bits_words (λ row _. bits-is_line row) s.rows.rows f.rows_wide) (bits-is_line s.state, tt)
    )

no_count : (n : ℕ) → n < 2 ^ 32 → codes "none" ≡ decimal n → ⊥
no_count n h e = decimal-no_letter n (codes "none") (omega arith) (omega arith) (sym e)

some-tells : (inputs latches batch : ℕ) (s t : SeedLine) (x y : List Line) → batch < 2 ^ 32 → FitsSeedLine inputs latches s → FitsSeedLine inputs latches t
    → seed_lines batch (Some s) ++ x ≡ seed_lines batch (Some t) ++ y → (s ≡ t) × (x ≡ y)
unfolding seed_lines
some-tells inputs latches batch s t x y h f g e =
    let heads : number_words (codes "seed") (batch ∷ length s.rows.rows ∷ []) ≡ number_words (codes "seed") (batch ∷ length t.rows.rows ∷ []) = cc in
    let numbers : batch ∷ length s.rows.rows ∷ [] ≡ batch ∷ length t.rows.rows ∷ [] = number_words-tells (codes "seed") (batch ∷ length s.rows.rows ∷ []) (batch ∷ length t.rows.rows ∷ [])
    ((omega arith) & (omega (arith, f.count)) & tt) ((omega arith) & (omega (arith, g.count)) & tt) heads in
    let size : length s.rows.rows ≡ length t.rows.rows = cc in
    let starts : bits_words s.start ≡ bits_words t.start = cc in
    let joined : (map bits_words s.rows.rows ++ bits_words s.state ∷ []) ++ x ≡ (map bits_words t.rows.rows ++ bits_words t.state ∷ []) ++ y = cc in
    let tails = sym (append_assoc (map bits_words s.rows.rows) (bits_words s.state ∷ []) x) ∙ (joined ∙ append_assoc (map bits_words t.rows.rows) (bits_words t.state ∷ []) y) in
    let rest = lines-tell (λ (row : List Bool). length row ≡ inputs) bits_words (λ a b _ _ same. bits-tell a b same) s.rows.rows t.rows.rows (bits_words s.state ∷ x) (bits_words t.state ∷ y) size f.rows_wide g.rows_wide tails in
    let lasts : bits_words s.state ∷ x ≡ bits_words t.state ∷ y = rest.1 in
    let states : bits_words s.state ≡ bits_words t.state = cc in
    let ends : x ≡ y = cc in
    let start = bits-tell s.start t.start starts in
    let state = bits-tell s.state t.state states in
    let width : s.rows.width ≡ t.rows.width = f.width_is ∙ sym g.width_is in
    let table : s.rows ≡ t.rows = λ i. record { width = width i; rows = rest.0 i } in
    let same : s ≡ t = λ i. record { start = start i; rows = table i; state = state i } in
    (same, ends)

seed-tells : (inputs latches batch : ℕ) (s t : Option SeedLine) (x y : List Line) → batch < 2 ^ 32 → FitsSeed inputs latches s → FitsSeed inputs latches t
    → seed_lines batch s ++ x ≡ seed_lines batch t ++ y → (s ≡ t) × (x ≡ y)
unfolding seed_lines
seed-tells inputs latches batch None None x y h f g e = let tails : x ≡ y = cc in (refl, tails)
seed-tells inputs latches batch None (Some t) x y h f g e = let thirds : codes "none" ≡ decimal (length t.rows.rows) = cc in absurd (no_count (length t.rows.rows) g.count thirds)
seed-tells inputs latches batch (Some s) None x y h f g e = let thirds : codes "none" ≡ decimal (length s.rows.rows) = cc in absurd (no_count (length s.rows.rows) f.count thirds)
seed-tells inputs latches batch (Some s) (Some t) x y h f g e =
    let both = some-tells inputs latches batch s t x y h f g e in
    (ap (λ (u : SeedLine). Some u) both.0, both.1)

pub seed-is_spelling : (inputs latches batch : ℕ) → batch < 2 ^ 32 → IsSpelling (FitsSeed inputs latches) (seed_lines batch)
seed-is_spelling inputs latches batch h = record { plain = λ s f. seed-plain inputs latches batch s h f; tells = λ s t x y f g e. seed-tells inputs latches batch s t x y h f g e }

pub seeds-is_spelling : (inputs latches : ℕ) → IsSpelling (IsCounted (FitsSeed inputs latches)) seeds_lines
seeds-is_spelling inputs latches =
    section-is_spelling (FitsSeed inputs latches) (codes "seeds") seed_lines (word-from_test (codes "seeds") refl) (seed-is_spelling inputs latches)
