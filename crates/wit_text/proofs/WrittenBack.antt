-- The text of a witness spells it again.
use Rattle.std.proofs.Common.{◌≡◌, ℕ, suc, ◌<◌, ◌^◌, Bool, true, false, List, [], ◌∷◌, ◌++◌, length, map, inl, refl, sym, ap, ◌∙◌, arith, append_assoc}
use Rattle.std.specs.Prelude.{codes, decimal}
use Rattle.std.specs.List.{AllZip, AllByRecursion, flat_map}
use Rattle.std.proofs.lemmas.List.{length-map}
use Rattle.std.proofs.lemmas.List.Elements.{All-from_recursion, recursion_from_All}
use Rattle.std.proofs.lemmas.Fmt.{length-decimal-le}
use Rattle.text_words.specs.Lines.{lines}
use Rattle.text_words.proofs.Written.{IsInLine, IsDigit, each-append, each-weaker, lines-written, decimal-digits, natural_of-decimal}
use Rattle.wit_text.specs.declared.witness.Witness.{Witness}
use Rattle.wit_text.specs.WitnessText.{digit, bits_line, witness_lines, line_text, witness_text, IsWritable, SpellsBit, SpellsBits, SpellsProperty, SpellsWitness}

-- ---- lines

abbrev AreInLine : List ℕ → Type 0
AreInLine bytes = AllByRecursion IsInLine bytes

lines-back : (ls : List (List ℕ)) → AllByRecursion AreInLine ls → lines (flat_map line_text ls) ≡ ls
lines-back [] each = refl
lines-back (l ∷ ls) each =
    ap lines (append_assoc l (10 ∷ []) (flat_map line_text ls)) ∙ lines-written l (flat_map line_text ls) each.0 ∙ ap (λ (xs : List (List ℕ)). l ∷ xs) (lines-back ls each.1)

digit-in_line : (b : Bool) → IsInLine (digit b)
digit-in_line true = (omega arith, omega arith)
digit-in_line false = (omega arith, omega arith)

bits-in_line : (bits : List Bool) → AreInLine (bits_line bits)
bits-in_line [] = tt
bits-in_line (b ∷ bits) = (digit-in_line b, bits-in_line bits)

rows-in_lines : (rows : List (List Bool)) → AllByRecursion AreInLine (map bits_line rows)
rows-in_lines [] = tt
rows-in_lines (row ∷ rows) = (bits-in_line row, rows-in_lines rows)

property-in_line : (property : ℕ) → property < 2 ^ 64 → AreInLine (codes "b" ++ decimal property)
property-in_line property few = ((omega arith, omega arith), each-weaker IsDigit IsInLine (λ b h. (omega (arith, h.0, h.1), omega (arith, h.0, h.1))) (decimal property) (decimal-digits property few))

written-in_lines : (w : Witness) → w.property < 2 ^ 64 → AllByRecursion AreInLine (witness_lines w.property w.trace)
written-in_lines w few = (
  ((omega arith, omega arith), tt),
  (property-in_line w.property few, (bits-in_line w.trace.start, rest)),
)
  where
    rest : AllByRecursion AreInLine (map bits_line w.trace.rows.rows ++ codes "." ∷ [])
    rest = each-append AreInLine (map bits_line w.trace.rows.rows) (codes "." ∷ []) (rows-in_lines w.trace.rows.rows) (((omega arith, omega arith), tt), tt)

-- ---- what they spell

bit-spelled : (b : Bool) → SpellsBit (digit b) b
bit-spelled true = refl
bit-spelled false = inl refl

bits-spelled : (bits : List Bool) → AllZip SpellsBit (bits_line bits) bits
bits-spelled [] = tt
bits-spelled (b ∷ bits) = (bit-spelled b, bits-spelled bits)

row-spelled : (width : ℕ) (bits : List Bool) → length bits ≡ width → SpellsBits width (bits_line bits) bits
row-spelled width bits wide = record { wide = length-map bits digit ∙ wide; each = bits-spelled bits }

rows-spelled : (width : ℕ) (rows : List (List Bool)) → AllByRecursion (λ row. length row ≡ width) rows → AllZip (SpellsBits width) (map bits_line rows) rows
rows-spelled width [] wide = tt
rows-spelled width (row ∷ rows) wide = (row-spelled width row wide.0, rows-spelled width rows wide.1)

property-spelled : (property : ℕ) → property < 2 ^ 32 → SpellsProperty (codes "b" ++ decimal property) property
property-spelled property small = record {
  digits = decimal property;
  form = refl;
  few = length-decimal-le 10 property (omega arith) (omega (arith, small)) (omega (arith, small));
  value = natural_of-decimal property (omega (arith, small));
  small = small;
}

pub reads-back : (w : Witness) → IsWritable w → SpellsWitness (length w.trace.start) w.trace.rows.width (witness_text w.property w.trace) w
reads-back w h = record {
  property = codes "b" ++ decimal w.property;
  start = bits_line w.trace.start;
  steps = map bits_line w.trace.rows.rows;
  after = [];
  parts = lines-back (witness_lines w.property w.trace) (written-in_lines w (omega (arith, h.property)));
  named = property-spelled w.property h.property;
  starts = row-spelled (length w.trace.start) w.trace.start refl;
  some = omega (arith, h.some, length-map w.trace.rows.rows bits_line);
  width = refl;
  each = rows-spelled w.trace.rows.width w.trace.rows.rows (recursion_from_All (λ (row : List Bool). length row ≡ w.trace.rows.width) w.trace.rows.rows h.wide);
}

-- ---- what is spelled can be written

values-wide : (l : List ℕ) (bits : List Bool) → AllZip SpellsBit l bits → length bits ≡ length l
values-wide [] [] each = refl
values-wide [] (v ∷ bits) each = absurd each
values-wide (b ∷ l) [] each = absurd each
values-wide (b ∷ l) (v ∷ bits) each = ap suc (values-wide l bits each.1)

rows-wide : (inputs width : ℕ) (steps : List (List ℕ)) (rows : List (List Bool)) → width ≡ inputs → AllZip (SpellsBits inputs) steps rows → AllByRecursion (λ row. length row ≡ width) rows
rows-wide inputs width [] [] same each = tt
rows-wide inputs width [] (row ∷ rows) same each = absurd each
rows-wide inputs width (s ∷ steps) [] same each = absurd each
rows-wide inputs width (s ∷ steps) (row ∷ rows) same each = (values-wide s row each.0.each ∙ each.0.wide ∙ sym same, rows-wide inputs width steps rows same each.1)

rows-many : (inputs : ℕ) (steps : List (List ℕ)) (rows : List (List Bool)) → AllZip (SpellsBits inputs) steps rows → length rows ≡ length steps
rows-many inputs [] [] each = refl
rows-many inputs [] (row ∷ rows) each = absurd each
rows-many inputs (s ∷ steps) [] each = absurd each
rows-many inputs (s ∷ steps) (row ∷ rows) each = ap suc (rows-many inputs steps rows each.1)

pub spelled-writable : (latches inputs : ℕ) (text : List ℕ) (w : Witness) → SpellsWitness latches inputs text w → IsWritable w
spelled-writable latches inputs text w s = record {
  property = s.named.small;
  some = omega (arith, s.some, rows-many inputs s.steps w.trace.rows.rows s.each);
  wide = All-from_recursion (λ (row : List Bool). length row ≡ w.trace.rows.width) w.trace.rows.rows (rows-wide inputs w.trace.rows.width s.steps w.trace.rows.rows s.width s.each);
}
