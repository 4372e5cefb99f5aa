-- A witness tells its trace.
use Rattle.std.proofs.Common.{◌≡◌, ℕ, ◌<◌, ◌^◌, Bool, true, false, List, [], ◌∷◌, ◌++◌, map, get_or, refl, sym, ap, ◌∙◌, subst, append_assoc, arith}
use Rattle.std.specs.Prelude.{codes, decimal}
use Rattle.std.specs.List.{flat_map}
use Rattle.aig_model.specs.declared.trace.Trace.{Trace}
use Rattle.report_text.specs.Form.{FitsTrace}
use Rattle.wit_text.specs.WitnessText.{digit, line_text, witness_text}
use Rattle.wit_text.specs.WitnessText as witness
use Rattle.report_text.specs.Text.{Line, text, one_word, bits_words, witness_lines}
use Rattle.report_text.proofs.Lines.{◌&◌, IsLine, AreLines, word-from_test}
use Rattle.report_text.proofs.Words.{decimal-is_word, digits-are_bits_word, digits-injective}
use Rattle.report_text.proofs.Pieces.{IsSpelling, all-append}

-- ---- lines of one word
text-one_word : (ls : List (List ℕ)) → text (map one_word ls) ≡ flat_map line_text ls
text-one_word [] = refl
text-one_word (l ∷ ls) = ap (λ (rest : List ℕ). line_text l ++ rest) (text-one_word ls)

pub witness-written : (goal : ℕ) (t : Trace) → text (witness_lines goal t) ≡ witness_text goal t
unfolding witness_lines
witness-written goal t = text-one_word (witness.witness_lines goal t)

-- the lines of the rows, and the last one
rows-words : (rows : List (List Bool)) → map one_word (map witness.bits_line rows ++ codes "." ∷ []) ≡ map bits_words rows ++ (codes "." ∷ []) ∷ []
rows-words [] = refl
rows-words (row ∷ rows) = ap (λ (ls : List Line). bits_words row ∷ ls) (rows-words rows)

lines-words : (goal : ℕ) (t : Trace) → witness_lines goal t ≡ (codes "1" ∷ []) ∷ ((codes "b" ++ decimal goal) ∷ []) ∷ bits_words t.start ∷ (map bits_words t.rows.rows ++ (codes "." ∷ []) ∷ [])
unfolding witness_lines
lines-words goal t = ap (λ (ls : List Line). (codes "1" ∷ []) ∷ ((codes "b" ++ decimal goal) ∷ []) ∷ bits_words t.start ∷ ls) (rows-words t.rows.rows)

-- ---- rows, up to a point
pub bits-is_line : (bits : List Bool) → IsLine (bits_words bits)
bits-is_line bits = (digits-are_bits_word bits, tt)

rows-plain : (rows : List (List Bool)) → AreLines (map bits_words rows)
rows-plain [] = tt
rows-plain (row ∷ rows) = (bits-is_line row, rows-plain rows)

pub bits-tell : (a b : List Bool) → bits_words a ≡ bits_words b → a ≡ b
bits-tell a b e = let digits : map digit a ≡ map digit b = cc in digits-injective a b digits

no_bits : (bits : List Bool) → codes "." ∷ [] ≡ bits_words bits → ⊥
no_bits [] e = cc
no_bits (true ∷ bits) e = omega (arith, ap (λ (l : Line). get_or (get_or l 0 []) 0 0) e)
no_bits (false ∷ bits) e = omega (arith, ap (λ (l : Line). get_or (get_or l 0 []) 0 0) e)

rows-tell : (r s : List (List Bool)) (x y : List Line) → map bits_words r ++ (codes "." ∷ []) ∷ x ≡ map bits_words s ++ (codes "." ∷ []) ∷ y → (r ≡ s) × (x ≡ y)
rows-tell [] [] x y e = let rest : x ≡ y = cc in (refl, rest)
rows-tell [] (b ∷ s) x y e = let heads : codes "." ∷ [] ≡ bits_words b = cc in absurd (no_bits b heads)
rows-tell (a ∷ r) [] x y e = let heads : codes "." ∷ [] ≡ bits_words a = cc in absurd (no_bits a heads)
rows-tell (a ∷ r) (b ∷ s) x y e =
    let heads : bits_words a ≡ bits_words b = cc in
    let tails : map bits_words r ++ (codes "." ∷ []) ∷ x ≡ map bits_words s ++ (codes "." ∷ []) ∷ y = cc in
    let rest = rows-tell r s x y tails in
    let head : a ≡ b = bits-tell a b heads in
    let tail : r ≡ s = rest.0 in
    (cc, rest.1)

-- ---- the whole
witness-plain : (goal : ℕ) (t : Trace) → goal < 2 ^ 64 → AreLines (witness_lines goal t)
witness-plain goal t h =
    let words : AreLines ((codes "1" ∷ []) ∷ ((codes "b" ++ decimal goal) ∷ []) ∷ bits_words t.start ∷ (map bits_words t.rows.rows ++ (codes "." ∷ []) ∷ [])) =
    (word-from_test (codes "1") refl & tt) & ((record { newline = refl; space = refl } & decimal-is_word goal h) & tt) & bits-is_line t.start
    & all-append IsLine (map bits_words t.rows.rows) ((codes "." ∷ []) ∷ []) (rows-plain t.rows.rows) ((word-from_test (codes ".") refl & tt) & tt) in
    subst AreLines (sym (lines-words goal t)) words

witness-tells : (inputs latches goal : ℕ) (t u : Trace) (x y : List Line) → FitsTrace inputs latches t → FitsTrace inputs latches u
    → witness_lines goal t ++ x ≡ witness_lines goal u ++ y → (t ≡ u) × (x ≡ y)
witness-tells inputs latches goal t u x y p q same =
    let e = ap (λ (ls : List Line). ls ++ x) (sym (lines-words goal t)) ∙ same ∙ ap (λ (ls : List Line). ls ++ y) (lines-words goal u) in
    let starts : bits_words t.start ≡ bits_words u.start = cc in
    let tails : (map bits_words t.rows.rows ++ (codes "." ∷ []) ∷ []) ++ x ≡ (map bits_words u.rows.rows ++ (codes "." ∷ []) ∷ []) ++ y = cc in
    let rest = rows-tell t.rows.rows u.rows.rows x y (sym (append_assoc (map bits_words t.rows.rows) _ _) ∙ (tails ∙ append_assoc (map bits_words u.rows.rows) _ _)) in
    let start : t.start ≡ u.start = bits-tell t.start u.start starts in
    let width : t.rows.width ≡ u.rows.width = p.width_is ∙ sym q.width_is in
    let table : t.rows ≡ u.rows = λ i. record { width = width i; rows = rest.0 i } in
    let trace : t ≡ u = λ i. record { start = start i; rows = table i } in
    (trace, rest.1)

pub witness-is_spelling : (inputs latches goal : ℕ) → goal < 2 ^ 64 → IsSpelling (FitsTrace inputs latches) (witness_lines goal)
witness-is_spelling inputs latches goal h = record { plain = λ t p. witness-plain goal t h; tells = witness-tells inputs latches goal }
