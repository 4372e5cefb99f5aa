-- What is read of a text is what it spells, or its first fault, and nothing else.
use Rattle.std.proofs.Common.{◌≡◌, ◌≢◌, ℕ, suc, ◌+◌, ◌<◌, Bool, true, false, cond, Option, Some, None, Result, Ok, Err, inl, inr, List, [], ◌∷◌, ◌++◌, length, map, refl, sym, ap, ◌∙◌, subst, arith, append_assoc, length-append}
use Rattle.std.specs.Prelude.{codes, bytes_eq}
use Rattle.std.specs.List.{AllZip}
use Rattle.std.specs.Option.{ok_or}
use Rattle.std.proofs.lemmas.List.{append-nil, map-append, length-map}
use Rattle.text_words.specs.Lines.{lines}
use Rattle.text_words.specs.Text.{Rest}
use Rattle.wit_text.specs.declared.witness.Witness.{Witness}
use Rattle.wit_text.specs.declared.fault.WitKind.{WitKind}
use Rattle.wit_text.specs.declared.fault.WitKind.TheVariants.{Status, Property, Length, NoRows, Truncated}
use Rattle.wit_text.specs.declared.fault.WitFault.{WitFault}
use Rattle.wit_text.specs.declared.fault.WitFault.TheVariants as faults
use Rattle.wit_text.specs.Reading.{property_of, bits_of, then_read, is_empty, rows_after, table, with_rows, from_start, from_property, reading}
use Rattle.wit_text.specs.WitnessText.{SpellsBits, SpellsProperty, SpellsWitness, lines_there, line, AreRight, IsLineFault, HasFaultyLine, IsCutOff, IsFirstFault}
use Rattle.wit_text.proofs.Spelled.{some-or-none, none-clash, same-text, from-same, from-other, other-text, status-read, status-not, property-read, property-spells, bits-read, bits-spell, end-no_bits}

abbrev pub Rows : Type 0
Rows = List (List Bool)

-- what follows the rows that are read
abbrev pub witness : ℕ → List Bool → ℕ → Rows → Witness
witness property start inputs rows = record { property = property; trace = record { start = start; rows = table inputs rows } }

-- ---- nothing is read of a line that isn't right

property-not : (l : List ℕ) → ((p : ℕ) → ¬ SpellsProperty l p) → property_of l ≡ None
property-not l never = elim (some-or-none (property_of l)) as (λ _. property_of l ≡ None) [
  | inl none ↦ none
  | inr some ↦ absurd (never some.0 (property-spells l some.0 some.1))
]

bits-not : (width : ℕ) (l : List ℕ) → (¬ ((bits : List Bool) × SpellsBits width l bits)) → bits_of width l ≡ None
bits-not width l never = elim (some-or-none (bits_of width l)) as (λ _. bits_of width l ≡ None) [
  | inl none ↦ none
  | inr some ↦ absurd (never (some.0, bits-spell width l some.0 some.1))
]

-- ---- one line of rows

abbrev rows_else : ℕ → ℕ → Rows → Rest → List Rest → Option (List Bool) → Result Rows WitFault
rows_else last inputs rows l ls o = then_read (ok_or o (faults.At l.at Length)) (λ (row : List Bool). rows_after last inputs (rows ++ row ∷ []) ls)

abbrev rows_end : Rows → Rest → Result Rows WitFault
rows_end rows l = cond (is_empty rows) (Err (faults.At l.at NoRows)) (Ok rows)

pub row-read : (last inputs : ℕ) (rows : Rows) (l : Rest) (ls : List Rest) (row : List Bool) → SpellsBits inputs (line l) row
    → rows_after last inputs rows (l ∷ ls) ≡ rows_after last inputs (rows ++ row ∷ []) ls
row-read last inputs rows l ls row s =
    ap (λ t. cond t (rows_end rows l) (rows_else last inputs rows l ls (bits_of inputs (line l)))) (other-text (line l) (codes ".") (end-no_bits inputs (line l) row s))
    ∙ ap (rows_else last inputs rows l ls) (bits-read inputs (line l) row s)

row-not : (last inputs : ℕ) (rows : Rows) (l : Rest) (ls : List Rest) → line l ≢ codes "." → bits_of inputs (line l) ≡ None → rows_after last inputs rows (l ∷ ls) ≡ Err (faults.At l.at Length)
row-not last inputs rows l ls other none =
    ap (λ t. cond t (rows_end rows l) (rows_else last inputs rows l ls (bits_of inputs (line l)))) (other-text (line l) (codes ".") other)
    ∙ ap (rows_else last inputs rows l ls) none

row-end : (last inputs : ℕ) (rows : Rows) (l : Rest) (ls : List Rest) → line l ≡ codes "." → rows_after last inputs rows (l ∷ ls) ≡ rows_end rows l
row-end last inputs rows l ls e =
    ap (λ t. cond t (rows_end rows l) (rows_else last inputs rows l ls (bits_of inputs (line l)))) (same-text (line l) (codes ".") e)

no-rows : (rows : Rows) (l : Rest) → length rows ≡ 0 → rows_end rows l ≡ Err (faults.At l.at NoRows)
no-rows [] l e = refl
no-rows (row ∷ rows) l e = absurd (omega (arith, e))

some-rows : (rows : Rows) (l : Rest) → 0 < length rows → rows_end rows l ≡ Ok rows
some-rows [] l h = absurd (omega (arith, h))
some-rows (row ∷ rows) l h = refl

-- ---- a text that spells a witness

-- the first of lines that are known
first-known : (ls : List Rest) (x : List ℕ) (xs : List (List ℕ)) → map line ls ≡ x ∷ xs → (l : Rest) × (more : List Rest) × (ls ≡ l ∷ more) × (line l ≡ x) × (map line more ≡ xs)
first-known [] x xs e = cc
first-known (l ∷ more) x xs e =
    let head : line l ≡ x = cc in
    let tail : map line more ≡ xs = cc in
    (l, more, refl, head, tail)

rows-spelled : (last inputs : ℕ) (done : Rows) (ls : List Rest) (steps after : List (List ℕ)) (rows : Rows) → map line ls ≡ steps ++ codes "." ∷ after → AllZip (SpellsBits inputs) steps rows
    → 0 < length done + length steps → rows_after last inputs done ls ≡ Ok (done ++ rows)
rows-spelled last inputs done ls [] after [] e each some =
    let f = first-known ls (codes ".") after e in
    ap (rows_after last inputs done) f.2 ∙ row-end last inputs done f.0 f.1 f.3 ∙ some-rows done f.0 (omega (arith, some)) ∙ ap (λ (rows : Rows). Ok rows) (sym (append-nil done))
rows-spelled last inputs done ls [] after (row ∷ rows) e each some = absurd each
rows-spelled last inputs done ls (s ∷ steps) after [] e each some = absurd each
rows-spelled last inputs done ls (s ∷ steps) after (row ∷ rows) e each some =
    let f = first-known ls s (steps ++ codes "." ∷ after) e in
    let here : SpellsBits inputs (line f.0) row = subst (λ (l : List ℕ). SpellsBits inputs l row) (sym f.3) each.0 in
    ap (rows_after last inputs done) f.2 ∙ row-read last inputs done f.0 f.1 row here
    ∙ rows-spelled last inputs (done ++ row ∷ []) f.1 steps after rows f.4 each.1 (omega (arith, length-append done (row ∷ [])))
    ∙ ap (λ (rs : Rows). Ok rs) (append_assoc done (row ∷ []) rows)

-- the first lines, which are right
status-passed : (latches inputs last : ℕ) (s : Rest) (ls : List Rest) → line s ≡ codes "1" → reading latches inputs last (s ∷ ls) ≡ from_property latches inputs last ls
status-passed latches inputs last s ls is = ap (λ (o : Option (Unit {0})). then_read (ok_or o (faults.At s.at Status)) (λ _. from_property latches inputs last ls)) (status-read (line s) is)

property-passed : (latches inputs last : ℕ) (s p : Rest) (ls : List Rest) (property : ℕ) → line s ≡ codes "1" → SpellsProperty (line p) property
    → reading latches inputs last (s ∷ p ∷ ls) ≡ from_start latches inputs last property ls
property-passed latches inputs last s p ls property is named =
    status-passed latches inputs last s (p ∷ ls) is
    ∙ ap (λ (o : Option ℕ). then_read (ok_or o (faults.At p.at Property)) (λ (q : ℕ). from_start latches inputs last q ls)) (property-read (line p) property named)

head-read : (latches inputs last : ℕ) (s p t : Rest) (ls : List Rest) (property : ℕ) (start : List Bool) → line s ≡ codes "1" → SpellsProperty (line p) property → SpellsBits latches (line t) start
    → reading latches inputs last (s ∷ p ∷ t ∷ ls) ≡ with_rows property start inputs (rows_after last inputs [] ls)
head-read latches inputs last s p t ls property start is named starts =
    property-passed latches inputs last s p (t ∷ ls) property is named
    ∙ ap (λ (o : Option (List Bool)). then_read (ok_or o (faults.At t.at Length)) (λ (bits : List Bool). with_rows property bits inputs (rows_after last inputs [] ls))) (bits-read latches (line t) start starts)

pub witness-read : (latches inputs : ℕ) (text : List ℕ) (w : Witness) → SpellsWitness latches inputs text w → reading latches inputs (length text) (lines_there text) ≡ Ok w
witness-read latches inputs text w g =
    let last = length text in
    let s = first-known (lines_there text) (codes "1") (g.property ∷ g.start ∷ (g.steps ++ codes "." ∷ g.after)) g.parts in
    let p = first-known s.1 g.property (g.start ∷ (g.steps ++ codes "." ∷ g.after)) s.4 in
    let t = first-known p.1 g.start (g.steps ++ codes "." ∷ g.after) p.4 in
    let all : lines_there text ≡ s.0 ∷ p.0 ∷ t.0 ∷ t.1 = s.2 ∙ ap (λ (ls : List Rest). s.0 ∷ ls) (p.2 ∙ ap (λ (ls : List Rest). p.0 ∷ ls) t.2) in
    let named = subst (λ (l : List ℕ). SpellsProperty l w.property) (sym p.3) g.named in
    let starts = subst (λ (l : List ℕ). SpellsBits latches l w.trace.start) (sym t.3) g.starts in
    ap (reading latches inputs last) all ∙ head-read latches inputs last s.0 p.0 t.0 t.1 w.property w.trace.start s.3 named starts
    ∙ ap (with_rows w.property w.trace.start inputs) (rows-spelled last inputs [] t.1 g.steps g.after w.trace.rows.rows t.4 g.each (omega (arith, g.some)))
    ∙ ap (λ (n : ℕ). Ok (witness w.property w.trace.start n w.trace.rows.rows)) (sym g.width)

-- ---- a text with a fault

status-fault : (latches inputs last : ℕ) (l : Rest) (ls : List Rest) (kind : WitKind) → IsLineFault latches inputs 0 (line l) kind → reading latches inputs last (l ∷ ls) ≡ Err (faults.At l.at kind)
status-fault latches inputs last l ls Status f =
    ap (λ (o : Option (Unit {0})). then_read (ok_or o (faults.At l.at Status)) (λ _. from_property latches inputs last ls)) (status-not (line l) f.1)
status-fault latches inputs last l ls Property f = absurd (omega (arith, f.0))
status-fault latches inputs last l ls Length f = absurd (omega (arith, f.0))
status-fault latches inputs last l ls NoRows f = absurd (omega (arith, f.0))
status-fault latches inputs last l ls Truncated f = absurd f

property-fault : (latches inputs last : ℕ) (s l : Rest) (ls : List Rest) (kind : WitKind) → line s ≡ codes "1" → IsLineFault latches inputs 1 (line l) kind
    → reading latches inputs last (s ∷ l ∷ ls) ≡ Err (faults.At l.at kind)
property-fault latches inputs last s l ls Status is f = absurd (omega (arith, f.0))
property-fault latches inputs last s l ls Property is f =
    status-passed latches inputs last s (l ∷ ls) is
    ∙ ap (λ (o : Option ℕ). then_read (ok_or o (faults.At l.at Property)) (λ (q : ℕ). from_start latches inputs last q ls)) (property-not (line l) f.1)
property-fault latches inputs last s l ls Length is f = absurd (omega (arith, f.0))
property-fault latches inputs last s l ls NoRows is f = absurd (omega (arith, f.0))
property-fault latches inputs last s l ls Truncated is f = absurd f

start-fault : (latches inputs last : ℕ) (s p l : Rest) (ls : List Rest) (property : ℕ) (kind : WitKind) → line s ≡ codes "1" → SpellsProperty (line p) property → IsLineFault latches inputs 2 (line l) kind
    → reading latches inputs last (s ∷ p ∷ l ∷ ls) ≡ Err (faults.At l.at kind)
start-fault latches inputs last s p l ls property Status is named f = absurd (omega (arith, f.0))
start-fault latches inputs last s p l ls property Property is named f = absurd (omega (arith, f.0))
start-fault latches inputs last s p l ls property Length is named f =
    property-passed latches inputs last s p (l ∷ ls) property is named
    ∙ ap (λ (o : Option (List Bool)). then_read (ok_or o (faults.At l.at Length)) (λ (bits : List Bool). with_rows property bits inputs (rows_after last inputs [] ls))) (bits-not latches (line l) f.1)
start-fault latches inputs last s p l ls property NoRows is named f = absurd (omega (arith, f.0))
start-fault latches inputs last s p l ls property Truncated is named f = absurd f

-- a fault among the rows, behind those that are read; k rows stand before it
row-fault : (latches inputs last k : ℕ) (done : Rows) (l : Rest) (ls : List Rest) (kind : WitKind) → k ≡ length done → IsLineFault latches inputs (suc (suc (suc k))) (line l) kind
    → rows_after last inputs done (l ∷ ls) ≡ Err (faults.At l.at kind)
row-fault latches inputs last k done l ls Status size f = absurd (omega (arith, f.0))
row-fault latches inputs last k done l ls Property size f = absurd (omega (arith, f.0))
row-fault latches inputs last k done l ls Length size f = row-not last inputs done l ls (f.2 (omega arith)) (bits-not inputs (line l) f.1)
row-fault latches inputs last k done l ls NoRows size f = row-end last inputs done l ls f.1 ∙ no-rows done l (omega (arith, f.0, size))
row-fault latches inputs last k done l ls Truncated size f = absurd f

rows-fault : (latches inputs last k n : ℕ) (done : Rows) (before : List Rest) (l : Rest) (after : List Rest) (kind : WitKind) → k ≡ length done + length before
    → AreRight latches inputs (suc (suc (suc n))) (map line before) → IsLineFault latches inputs (suc (suc (suc k))) (line l) kind
    → rows_after last inputs done (before ++ l ∷ after) ≡ Err (faults.At l.at kind)
rows-fault latches inputs last k n done [] l after kind size right f = row-fault latches inputs last k done l after kind (omega (arith, size)) f
rows-fault latches inputs last k n done (b ∷ before) l after kind size right f =
    let row = right.0 in
    row-read last inputs done b (before ++ l ∷ after) row.0 row.1
    ∙ rows-fault latches inputs last k (suc n) (done ++ row.0 ∷ []) before l after kind (omega (arith, size, length-append done (row.0 ∷ []))) right.1 f

rows-cut : (latches inputs last n : ℕ) (done : Rows) (ls : List Rest) → AreRight latches inputs (suc (suc (suc n))) (map line ls) → rows_after last inputs done ls ≡ Err (faults.At last Truncated)
rows-cut latches inputs last n done [] right = refl
rows-cut latches inputs last n done (l ∷ ls) right = row-read last inputs done l ls right.0.0 right.0.1 ∙ rows-cut latches inputs last (suc n) (done ++ right.0.0 ∷ []) ls right.1

lines-fault : (latches inputs last : ℕ) (before : List Rest) (l : Rest) (after : List Rest) (kind : WitKind) → AreRight latches inputs 0 (map line before) → IsLineFault latches inputs (length before) (line l) kind
    → reading latches inputs last (before ++ l ∷ after) ≡ Err (faults.At l.at kind)
lines-fault latches inputs last [] l after kind right f = status-fault latches inputs last l after kind f
lines-fault latches inputs last (s ∷ []) l after kind right f = property-fault latches inputs last s l after kind right.0 f
lines-fault latches inputs last (s ∷ p ∷ []) l after kind right f = start-fault latches inputs last s p l after right.1.0.0 kind right.0 right.1.0.1 f
lines-fault latches inputs last (s ∷ p ∷ t ∷ before) l after kind right f =
    let property = right.1.0 in
    let start = right.1.1.0 in
    head-read latches inputs last s p t (before ++ l ∷ after) property.0 start.0 right.0 property.1 start.1
    ∙ ap (with_rows property.0 start.0 inputs) (rows-fault latches inputs last (length before) 0 [] before l after kind (omega arith) right.1.1.1 f)

lines-cut : (latches inputs last : ℕ) (ls : List Rest) → AreRight latches inputs 0 (map line ls) → reading latches inputs last ls ≡ Err (faults.At last Truncated)
lines-cut latches inputs last [] right = refl
lines-cut latches inputs last (s ∷ []) right = status-passed latches inputs last s [] right.0
lines-cut latches inputs last (s ∷ p ∷ []) right = property-passed latches inputs last s p [] right.1.0.0 right.0 right.1.0.1
lines-cut latches inputs last (s ∷ p ∷ t ∷ ls) right =
    let property = right.1.0 in
    let start = right.1.1.0 in
    head-read latches inputs last s p t ls property.0 start.0 right.0 property.1 start.1 ∙ ap (with_rows property.0 start.0 inputs) (rows-cut latches inputs last 0 [] ls right.1.1.1)

faulty-read : (latches inputs : ℕ) (text : List ℕ) (at : ℕ) (kind : WitKind) → HasFaultyLine latches inputs text at kind → reading latches inputs (length text) (lines_there text) ≡ Err (faults.At at kind)
faulty-read latches inputs text at kind h =
    ap (reading latches inputs (length text)) h.parts ∙ lines-fault latches inputs (length text) h.before h.at_fault h.after kind h.right h.fault ∙ ap (λ (n : ℕ). Err (faults.At n kind)) (sym h.place)

pub fault-read : (latches inputs : ℕ) (text : List ℕ) (at : ℕ) (kind : WitKind) → IsFirstFault latches inputs text at kind → reading latches inputs (length text) (lines_there text) ≡ Err (faults.At at kind)
fault-read latches inputs text at Status f = faulty-read latches inputs text at Status f
fault-read latches inputs text at Property f = faulty-read latches inputs text at Property f
fault-read latches inputs text at Length f = faulty-read latches inputs text at Length f
fault-read latches inputs text at NoRows f = faulty-read latches inputs text at NoRows f
fault-read latches inputs text at Truncated f = lines-cut latches inputs (length text) (lines_there text) f.right ∙ ap (λ (n : ℕ). Err (faults.At n Truncated)) (sym f.place)

-- ---- what is read is right

-- what is read of the text is true of it
abbrev pub Tells : (latches inputs : ℕ) → List ℕ → Result Witness WitFault → Type 0
Tells latches inputs text (Ok w) = SpellsWitness latches inputs text w
Tells latches inputs text (Err (faults.At at kind)) = IsFirstFault latches inputs text at kind
Tells latches inputs text (Err faults.OutOfMemory) = ⊥

-- the first three lines of a text, which are right
record Head (latches : ℕ) (s p t : Rest) (property : ℕ) (start : List Bool) : Type 0 where
  status : line s ≡ codes "1"
  named : SpellsProperty (line p) property
  starts : SpellsBits latches (line t) start

cut-at : (latches inputs : ℕ) (text : List ℕ) (ls : List Rest) → lines_there text ≡ ls → AreRight latches inputs 0 (map line ls) → IsCutOff latches inputs text (length text)
cut-at latches inputs text ls parts right = record { right = subst (λ (xs : List Rest). AreRight latches inputs 0 (map line xs)) (sym parts) right; place = refl }

faulty-at : (latches inputs : ℕ) (text : List ℕ) (before : List Rest) (l : Rest) (after : List Rest) (kind : WitKind) → lines_there text ≡ before ++ l ∷ after → AreRight latches inputs 0 (map line before)
    → IsLineFault latches inputs (length before) (line l) kind → HasFaultyLine latches inputs text l.at kind
faulty-at latches inputs text before l after kind parts right f = record { before = before; at_fault = l; after = after; parts = parts; right = right; fault = f; place = refl }

rows-right : (latches inputs n : ℕ) (before : List Rest) (done : Rows) → AllZip (SpellsBits inputs) (map line before) done → AreRight latches inputs (suc (suc (suc n))) (map line before)
rows-right latches inputs n [] done each = tt
rows-right latches inputs n (b ∷ before) [] each = absurd each
rows-right latches inputs n (b ∷ before) (row ∷ done) each = ((row, each.0), rows-right latches inputs (suc n) before done each.1)

rows-push : (inputs : ℕ) (before : List Rest) (done : Rows) (l : Rest) (row : List Bool) → AllZip (SpellsBits inputs) (map line before) done → SpellsBits inputs (line l) row
    → AllZip (SpellsBits inputs) (map line (before ++ l ∷ [])) (done ++ row ∷ [])
rows-push inputs [] [] l row each s = (s, tt)
rows-push inputs [] (r ∷ done) l row each s = absurd each
rows-push inputs (b ∷ before) [] l row each s = absurd each
rows-push inputs (b ∷ before) (r ∷ done) l row each s = (each.0, rows-push inputs before done l row each.1 s)

rows-many : (inputs : ℕ) (before : List Rest) (done : Rows) → AllZip (SpellsBits inputs) (map line before) done → length before ≡ length done
rows-many inputs [] [] each = refl
rows-many inputs [] (r ∷ done) each = absurd each
rows-many inputs (b ∷ before) [] each = absurd each
rows-many inputs (b ∷ before) (r ∷ done) each = ap suc (rows-many inputs before done each.1)

head-right : (latches inputs : ℕ) (s p t : Rest) (property : ℕ) (start : List Bool) (before : List Rest) (done : Rows) → Head latches s p t property start → AllZip (SpellsBits inputs) (map line before) done
    → AreRight latches inputs 0 (map line (s ∷ p ∷ t ∷ before))
head-right latches inputs s p t property start before done h each = (h.status, ((property, h.named), ((start, h.starts), rows-right latches inputs 0 before done each)))

-- the line `.`, behind these rows
end-tells : (latches inputs : ℕ) (text : List ℕ) (s p t : Rest) (property : ℕ) (start : List Bool) (before : List Rest) (done : Rows) (l : Rest) (ls : List Rest) → Head latches s p t property start
    → AllZip (SpellsBits inputs) (map line before) done → lines_there text ≡ s ∷ p ∷ t ∷ (before ++ l ∷ ls) → line l ≡ codes "." → Tells latches inputs text (with_rows property start inputs (rows_end done l))
end-tells latches inputs text s p t property start before [] l ls h each parts dot =
    let none = rows-many inputs before [] each in
    faulty-at latches inputs text (s ∷ p ∷ t ∷ before) l ls NoRows parts (head-right latches inputs s p t property start before [] h each) (omega (arith, none), dot)
end-tells latches inputs text s p t property start before (row ∷ done) l ls h each parts dot =
    let bytes : lines text ≡ line s ∷ line p ∷ line t ∷ (map line before ++ line l ∷ map line ls) =
    ap (λ (xs : List Rest). map line xs) parts ∙ ap (λ (xs : List (List ℕ)). line s ∷ line p ∷ line t ∷ xs) (map-append line before (l ∷ ls)) in
    let written = bytes ∙ ap (λ (x : List ℕ). x ∷ line p ∷ line t ∷ (map line before ++ line l ∷ map line ls)) h.status
    ∙ ap (λ (x : List ℕ). codes "1" ∷ line p ∷ line t ∷ (map line before ++ x ∷ map line ls)) dot in
    record {
      property = line p;
      start = line t;
      steps = map line before;
      after = map line ls;
      parts = written;
      named = h.named;
      starts = h.starts;
      some = omega (arith, length-map before line, rows-many inputs before (row ∷ done) each);
      width = refl;
      each = each;
    }

rows-tell : (latches inputs : ℕ) (text : List ℕ) (s p t : Rest) (property : ℕ) (start : List Bool) (before : List Rest) (done : Rows) (ls : List Rest) → Head latches s p t property start
    → AllZip (SpellsBits inputs) (map line before) done → lines_there text ≡ s ∷ p ∷ t ∷ (before ++ ls) → Tells latches inputs text (with_rows property start inputs (rows_after (length text) inputs done ls))
rows-tell latches inputs text s p t property start before done [] h each parts =
    cut-at latches inputs text (s ∷ p ∷ t ∷ before) (parts ∙ ap (λ (xs : List Rest). s ∷ p ∷ t ∷ xs) (append-nil before)) (head-right latches inputs s p t property start before done h each)
rows-tell latches inputs text s p t property start before done (l ∷ ls) h each parts =
    let Goal : Result Rows WitFault → Type 0 = λ r. Tells latches inputs text (with_rows property start inputs r) in
    let values : line l ≢ codes "." → (o : Option (List Bool)) → bits_of inputs (line l) ≡ o → Goal (rows_else (length text) inputs done l ls o) = λ other o. elim o as (λ o. bits_of inputs (line l) ≡ o → Goal (rows_else (length text) inputs done l ls o)) [
      | None ↦ λ e. faulty-at latches inputs text (s ∷ p ∷ t ∷ before) l ls Length parts (head-right latches inputs s p t property start before done h each)
          (omega arith, (λ spelled. none-clash (bits_of inputs (line l)) spelled.0 e (bits-read inputs (line l) spelled.0 spelled.1)), λ _. other)
      | Some row ↦ λ e.
          let longer : lines_there text ≡ s ∷ p ∷ t ∷ ((before ++ l ∷ []) ++ ls) = parts ∙ ap (λ (xs : List Rest). s ∷ p ∷ t ∷ xs) (sym (append_assoc before (l ∷ []) ls)) in
          rows-tell latches inputs text s p t property start (before ++ l ∷ []) (done ++ row ∷ []) ls h (rows-push inputs before done l row each (bits-spell inputs (line l) row e)) longer
    ] in
    let step : (b : Bool) → bytes_eq (line l) (codes ".") ≡ b → Goal (cond b (rows_end done l) (rows_else (length text) inputs done l ls (bits_of inputs (line l)))) = λ b. elim b as (λ b. bytes_eq (line l) (codes ".") ≡ b → Goal (cond b (rows_end done l) (rows_else (length text) inputs done l ls (bits_of inputs (line l))))) [
      | true ↦ λ e. end-tells latches inputs text s p t property start before done l ls h each parts (from-same (line l) (codes ".") e)
      | false ↦ λ e. values (from-other (line l) (codes ".") e) (bits_of inputs (line l)) refl
    ] in
    step (bytes_eq (line l) (codes ".")) refl

start-tells : (latches inputs : ℕ) (text : List ℕ) (s p : Rest) (ls : List Rest) (property : ℕ) → line s ≡ codes "1" → SpellsProperty (line p) property → lines_there text ≡ s ∷ p ∷ ls
    → Tells latches inputs text (from_start latches inputs (length text) property ls)
start-tells latches inputs text s p [] property is named parts = cut-at latches inputs text (s ∷ p ∷ []) parts (is, ((property, named), tt))
start-tells latches inputs text s p (t ∷ ls) property is named parts =
    let Goal : Option (List Bool) → Type 0 = λ o. Tells latches inputs text (then_read (ok_or o (faults.At t.at Length)) (λ (bits : List Bool). with_rows property bits inputs (rows_after (length text) inputs [] ls))) in
    let step : (o : Option (List Bool)) → bits_of latches (line t) ≡ o → Goal o = λ o. elim o as (λ o. bits_of latches (line t) ≡ o → Goal o) [
      | None ↦ λ e. faulty-at latches inputs text (s ∷ p ∷ []) t ls Length parts (is, ((property, named), tt))
          (omega arith, (λ spelled. none-clash (bits_of latches (line t)) spelled.0 e (bits-read latches (line t) spelled.0 spelled.1)), λ late. absurd (omega (arith, late)))
      | Some start ↦ λ e. rows-tell latches inputs text s p t property start [] [] ls (record { status = is; named = named; starts = bits-spell latches (line t) start e }) tt parts
    ] in
    step (bits_of latches (line t)) refl

property-tells : (latches inputs : ℕ) (text : List ℕ) (s : Rest) (ls : List Rest) → line s ≡ codes "1" → lines_there text ≡ s ∷ ls
    → Tells latches inputs text (from_property latches inputs (length text) ls)
property-tells latches inputs text s [] is parts = cut-at latches inputs text (s ∷ []) parts (is, tt)
property-tells latches inputs text s (p ∷ ls) is parts =
    let Goal : Option ℕ → Type 0 = λ o. Tells latches inputs text (then_read (ok_or o (faults.At p.at Property)) (λ (q : ℕ). from_start latches inputs (length text) q ls)) in
    let step : (o : Option ℕ) → property_of (line p) ≡ o → Goal o = λ o. elim o as (λ o. property_of (line p) ≡ o → Goal o) [
      | None ↦ λ e. faulty-at latches inputs text (s ∷ []) p ls Property parts (is, tt) (refl, λ q spelled. none-clash (property_of (line p)) q e (property-read (line p) q spelled))
      | Some property ↦ λ e. start-tells latches inputs text s p ls property is (property-spells (line p) property e) parts
    ] in
    step (property_of (line p)) refl

lines-tell : (latches inputs : ℕ) (text : List ℕ) (ls : List Rest) → lines_there text ≡ ls → Tells latches inputs text (reading latches inputs (length text) ls)
lines-tell latches inputs text [] parts = cut-at latches inputs text [] parts tt
lines-tell latches inputs text (s ∷ ls) parts =
    let next : Unit {0} → Result Witness WitFault = λ _. from_property latches inputs (length text) ls in
    let Goal : Bool → Type 0 = λ b. Tells latches inputs text (then_read (ok_or (cond b (Some tt) None) (faults.At s.at Status)) next) in
    let step : (b : Bool) → bytes_eq (line s) (codes "1") ≡ b → Goal b = λ b. elim b as (λ b. bytes_eq (line s) (codes "1") ≡ b → Goal b) [
      | true ↦ λ e. property-tells latches inputs text s ls (from-same (line s) (codes "1") e) parts
      | false ↦ λ e. faulty-at latches inputs text [] s ls Status parts tt (refl, from-other (line s) (codes "1") e)
    ] in
    step (bytes_eq (line s) (codes "1")) refl

pub reading-tells : (latches inputs : ℕ) (text : List ℕ) → Tells latches inputs text (reading latches inputs (length text) (lines_there text))
reading-tells latches inputs text = lines-tell latches inputs text (lines_there text) refl
