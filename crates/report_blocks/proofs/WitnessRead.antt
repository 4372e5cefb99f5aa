-- Witnesses are read as their lines tell them.
use Rattle.std.proofs.Common.{lit<, ◌≡◌, inl, inr, ℕ, zero, suc, ◌<◌, ◌≤◌, ◌^◌, Bool, true, false, cond, Option, Some, None, List, [], ◌∷◌, ◌++◌, map, length, replicate, get_or, refl, sym, ap, ◌∙◌, subst, append_assoc, arith, length-append, Ok, Err}
use Rattle.std.specs.Prelude.{codes, decimal, IfSome}
use Rattle.std.specs.Option.{option_map}
use Rattle.std.specs.List.{AllByRecursion}
use Rattle.std.proofs.lemmas.Fmt.{decimal_digit}
use Rattle.std.proofs.lemmas.List.{length-replicate}
use Rattle.aig_model.specs.declared.trace.Trace.{Trace}
use Rattle.wit_text.specs.WitnessText.{bits_line}
use Rattle.wit_text.specs.WitnessText as witness
use Rattle.report_text.specs.Form.{FitsTrace}
use Rattle.report_text.specs.Text.{Word, Line, line, one_word, bits_words, witness_lines}
use Rattle.report_text.proofs.Lines.{IsLine, AreLines, word-from_test}
use Rattle.report_text.proofs.Words.{decimal-is_word}
use Rattle.report_text.proofs.WitnessLines.{bits-is_line}
use Rattle.report_lines.specs.Words.{◌>>?◌, small_of}
use Rattle.report_lines.specs.Reading.{Place, Read, ◌>>=◌, line_read, settled, fault_at}
use Rattle.report_sections.specs.History.{behind_front}
use Rattle.report_sections.specs.Pieces.{Passes, ReadsTo, one, and_read}
use Rattle.report_sections.specs.Seeds.{if_same, bits_of, bits_read}
use Rattle.report_sections.proofs.Sections.{passes_none}
use Rattle.report_sections.proofs.LineWords.{IsLineParse, line-reads, line-is_spelling}
use Rattle.report_sections.proofs.Parses.{IsField, bind-some, name-or, made-tells, field, whole_parse}
use Rattle.report_sections.proofs.Until.{words-differ}
use Rattle.report_sections.proofs.Combine.{Leads, leads-reads}
use Rattle.report_sections.proofs.Pairs.{pair-reads, mapped-reads}
use Rattle.report_sections.proofs.HistoryRead.{front-tells}
use Rattle.report_sections.proofs.SeedsRead.{HasWidth, bits_field, bits-reads, bits-are_spelling, IsNumber, same_field}
use Rattle.report_blocks.specs.Witness.{status_of, property_word, property_of, row_word, row_of, or_end, rows_from, rows_read, TraceFields, to_trace, trace_read}

-- ---- a row, or the end of the rows
abbrev FitsRow : ℕ → Option (List Bool) → Type 0
FitsRow width o = IfSome o (λ bits. length bits ≡ width)

abbrev row_text : Option (List Bool) → Word
row_text None = codes "."
row_text (Some bits) = bits_line bits

abbrev row_words : Option (List Bool) → Line
row_words o = row_text o ∷ []

row-tells : (width : ℕ) (w : Word) (b : Option (List Bool)) → row_word width w ≡ Some b → FitsRow width b × (row_text b ≡ w)
row-tells width w b e =
    elim (name-or (FitsRow width) row_text w (codes ".") None b (option_map (λ bits. Some bits) (bits_of width w)) tt refl e) as (λ _. FitsRow width b × (row_text b ≡ w)) [
      | inl g ↦ g
      | inr h ↦ made-tells (FitsRow width) row_text (bits_field width) (λ bits. Some bits) (λ bits f. (f, refl)) w b h
    ]

no-end : (bits : List Bool) → bits_line bits ≡ codes "." → ⊥
no-end [] e = cc
no-end (true ∷ bits) e = omega (arith, ap (λ (w : Word). get_or w 0 0) e)
no-end (false ∷ bits) e = omega (arith, ap (λ (w : Word). get_or w 0 0) e)

row-back : (width : ℕ) (b : Option (List Bool)) → FitsRow width b → row_word width (row_text b) ≡ Some b
row-back width None f = refl
row-back width (Some bits) f =
    ap (λ (t : Bool). cond t (Some None) (option_map (λ k. Some k) (bits_of width (bits_line bits)))) (words-differ (bits_line bits) (codes ".") (no-end bits))
    ∙ ap (option_map (λ k. Some k)) ((bits_field width).back bits f)

row_field : (width : ℕ) → IsField (FitsRow width) row_text (row_word width)
row_field width = record { tells = row-tells width; back = row-back width }

row-is_line : (width : ℕ) (o : Option (List Bool)) → FitsRow width o → IsLine (row_words o)
row-is_line width None f = (word-from_test (codes ".") refl, tt)
row-is_line width (Some bits) f = bits-is_line bits

no_row : (width : ℕ) → FitsRow width None
no_row width = tt

row_parse : (width : ℕ) → IsLineParse (FitsRow width) row_words (row_of width)
row_parse width = whole_parse (FitsRow width) row_words _ None (field (row_field width)) (row-is_line width) (no_row width)

-- ---- the rows up to their end
abbrev AreWide : ℕ → List (List Bool) → Type 0
AreWide width rows = AllByRecursion (HasWidth width) rows

abbrev end_lines : List (List Bool) → List Line
end_lines rows = map bits_words rows ++ (codes "." ∷ []) ∷ []

end-plain : (rows : List (List Bool)) → AreLines (end_lines rows)
end-plain [] = ((word-from_test (codes ".") refl, tt), tt)
end-plain (row ∷ rows) = (bits-is_line row, end-plain rows)

abbrev first_row : List (List Bool) → Option (List Bool)
first_row [] = None
first_row (row ∷ rows) = Some row

abbrev later_rows : List (List Bool) → List (List Bool)
later_rows [] = []
later_rows (row ∷ rows) = rows

abbrev later_lines : List (List Bool) → List Line
later_lines [] = []
later_lines (row ∷ rows) = end_lines rows

first-fits : (width : ℕ) (rows : List (List Bool)) → AreWide width rows → FitsRow width (first_row rows)
first-fits width [] f = tt
first-fits width (row ∷ rows) f = f.0

end-are : (rows : List (List Bool)) → end_lines rows ≡ one row_words (first_row rows) ++ later_lines rows
end-are [] = refl
end-are (row ∷ rows) = refl

later-plain : (rows : List (List Bool)) → AreLines (later_lines rows)
later-plain [] = tt
later-plain (row ∷ rows) = end-plain rows

abbrev rows_with : Option (List Bool) → List (List Bool)
rows_with None = []
rows_with (Some row) = row ∷ []

with-fits : (width : ℕ) (o : Option (List Bool)) → FitsRow width o → AreWide width (rows_with o)
with-fits width None f = tt
with-fits width (Some row) f = (f, tt)

with-first : (o : Option (List Bool)) → first_row (rows_with o) ≡ o
with-first None = refl
with-first (Some row) = refl

row-leads : (width : ℕ) → Leads (FitsRow width) (one row_words) (AreWide width) end_lines first_row later_lines
row-leads width = record {
  fits = first-fits width;
  are = λ v f. end-are v;
  plain = λ v f. later-plain v;
  some = λ o f. rows_with o;
  some_fits = with-fits width;
  some_head = λ o f. with-first o;
}

-- a row, and what is read behind it
later-back : (width : ℕ) (row : List Bool) (v : List (List Bool)) → AreWide width v × (first_row v ≡ Some row) → AreWide width (later_rows v) × (end_lines (later_rows v) ≡ later_lines v)
later-back width row [] h = let none : None ≡ Some row = h.1 in cc
later-back width row (r ∷ rows) h = (h.0.1, refl)

row-then : (width : ℕ) (row : List Bool) (p : Place) (r : Read (List (List Bool))) → HasWidth width row → ReadsTo (AreWide width) end_lines p r
    → ReadsTo (λ v. AreWide width v × (first_row v ≡ Some row)) later_lines p (r >>= λ rows. Ok (row ∷ rows.0, rows.1))
row-then width row p r f reads =
    mapped-reads (AreWide width) end_lines (λ v. AreWide width v × (first_row v ≡ Some row)) later_lines (λ rows. row ∷ rows) later_rows p r
    (record { there = λ rows g. (((f, g), refl), refl); back = later-back width row }) reads

-- rows that are read behind others
rows-behind : (width n : ℕ) (before rows : List (List Bool)) (p : Place) → rows_from width n (before ++ rows) p ≡ (rows_from width n rows p >>= λ r. Ok (before ++ r.0, r.1))
rows-behind width zero before rows p = refl
rows-behind width (suc n) before rows p =
    let more : List (List Bool) → Option (List Bool) × Place → Read (List (List Bool)) = λ rs o. or_end o.0 (Ok (rs, o.1)) (λ row. rows_from width n (rs ++ row ∷ []) o.1) in
    let join : List (List Bool) × Place → Read (List (List Bool)) = λ r. Ok (before ++ r.0, r.1) in
    let each : (o : Option (List Bool)) (q : Place) → more (before ++ rows) (o, q) ≡ (more rows (o, q) >>= join) = λ o q. elim o as (λ s. more (before ++ rows) (s, q) ≡ (more rows (s, q) >>= join)) [
      | None ↦ refl
      | Some row ↦ ap (λ (rs : List (List Bool)). rows_from width n rs q) (append_assoc before rows (row ∷ [])) ∙ rows-behind width n before (rows ++ row ∷ []) q
    ] in
    let lines : (r : Read (Option (List Bool))) → (r >>= more (before ++ rows)) ≡ ((r >>= more rows) >>= join) = λ r. elim r as (λ s. (s >>= more (before ++ rows)) ≡ ((s >>= more rows) >>= join)) [
      | Ok o ↦ each o.0 o.1
      | Err e ↦ refl
    ] in
    lines (line_read (row_of width) p)

-- ---- each line has a byte at least
line-some : (l : Line) → 0 < length (line l)
line-some [] = omega arith
line-some (w ∷ []) = omega (arith, length-append w (10 ∷ []))
line-some (w ∷ v ∷ ws) = omega (arith, length-append w (32 ∷ line (v ∷ ws)))

pub passes-fewer : (l : Line) (p q : Place) → Passes (l ∷ []) p q → length q.bytes < length p.bytes
passes-fewer l p q pass =
    let size : length p.bytes ≡ length ((line l ++ []) ++ q.bytes) = ap length pass.bytes in
    omega (arith, size, length-append (line l ++ []) q.bytes, length-append (line l) [], line-some l)

settled-none : {A : Type 0} (p : Place) (o : Option A) (bytes : List ℕ) → length bytes ≤ 0 → settled p o bytes ≡ Err (fault_at p)
settled-none p None bytes h = refl
settled-none p (Some a) [] h = refl
settled-none p (Some a) (b ∷ bs) h = absurd (omega arith)

abbrev Reads_on : ℕ → (List Bool → Place → Read (List (List Bool))) → Place → Type 0
Reads_on width next p = (row : List Bool) (s : Place) → HasWidth width row → Passes (one row_words (Some row)) p s → ReadsTo (AreWide width) end_lines s (next row s)

abbrev step : (List Bool → Place → Read (List (List Bool))) → Option (List Bool) × Place → Read (List (List Bool))
step next o = or_end o.0 (Ok ([], o.1)) (λ row. next row o.1 >>= λ rows. Ok (row ∷ rows.0, rows.1))

step-rest : (width : ℕ) (next : List Bool → Place → Read (List (List Bool))) (p : Place) (o : Option (List Bool)) (s : Place) → Reads_on width next p → FitsRow width o → Passes (one row_words o) p s
    → ReadsTo (λ v. AreWide width v × (first_row v ≡ o)) later_lines s (step next (o, s))
step-rest width next p None s more f pass = ((tt, refl), passes_none s)
step-rest width next p (Some row) s more f pass = row-then width row s (next row s) f (more row s f pass)

step-reads : (width : ℕ) (next : List Bool → Place → Read (List (List Bool))) (p : Place) → Reads_on width next p → ReadsTo (AreWide width) end_lines p (line_read (row_of width) p >>= step next)
step-reads width next p more =
    leads-reads (FitsRow width) (one row_words) (AreWide width) end_lines first_row later_lines p (line_read (row_of width) p) (step next)
    (line-is_spelling (FitsRow width) row_words (row_of width) (row_parse width)) (row-leads width) (line-reads (FitsRow width) row_words (row_of width) p (row_parse width))
    (λ o s f pass. step-rest width next p o s more f pass)

rows-step : (width n : ℕ) (p : Place) → rows_from width (suc n) [] p ≡ (line_read (row_of width) p >>= step (λ row. rows_from width n []))
rows-step width n p =
    let next : List Bool → Place → Read (List (List Bool)) = λ row. rows_from width n [] in
    let more : Option (List Bool) × Place → Read (List (List Bool)) = λ o. or_end o.0 (Ok ([], o.1)) (λ row. rows_from width n (row ∷ []) o.1) in
    let each : (o : Option (List Bool)) (q : Place) → more (o, q) ≡ step next (o, q) = λ o q. elim o as (λ s. more (s, q) ≡ step next (s, q)) [
      | None ↦ refl
      | Some row ↦ rows-behind width n (row ∷ []) [] q
    ] in
    let lines : (r : Read (Option (List Bool))) → (r >>= more) ≡ (r >>= step next) = λ r. elim r as (λ s. (s >>= more) ≡ (s >>= step next)) [
      | Ok o ↦ each o.0 o.1
      | Err e ↦ refl
    ] in
    lines (line_read (row_of width) p)

no-bytes : (width : ℕ) (p : Place) (row : List Bool) (s : Place) → length p.bytes ≤ 0 → Passes (one row_words (Some row)) p s → ⊥
no-bytes width p row s h pass = omega (arith, passes-fewer (row_words (Some row)) p s pass)

end-reads : (width n : ℕ) (p : Place) → length p.bytes ≤ n → ReadsTo (AreWide width) end_lines p (rows_from width n [] p)
end-reads width zero p h =
    let next : List Bool → Place → Read (List (List Bool)) = λ row s. Ok ([], s) in
    let none : (line_read (row_of width) p >>= step next) ≡ Err (fault_at p) = ap (λ (r : Read (Option (List Bool))). r >>= step next) (settled-none p _ p.bytes h) in
    subst (λ (r : Read (List (List Bool))). ReadsTo (AreWide width) end_lines p r) none (step-reads width next p (λ row s f pass. absurd (no-bytes width p row s h pass)))
end-reads width (suc n) p h =
    subst (λ (r : Read (List (List Bool))). ReadsTo (AreWide width) end_lines p r) (sym (rows-step width n p))
    (step-reads width (λ row. rows_from width n []) p (λ row s f pass. end-reads width n s (let fewer = passes-fewer (row_words (Some row)) p s pass in omega arith)))

-- ---- one row or more
abbrev AreRows : ℕ → List (List Bool) → Type 0
AreRows width rows = AreWide width rows × (0 < length rows)

abbrev head_row : List (List Bool) → List Bool
head_row [] = []
head_row (row ∷ rows) = row

head-fits : (width : ℕ) (rows : List (List Bool)) → AreRows width rows → HasWidth width (head_row rows)
head-fits width [] f = let some = f.1 in absurd (omega arith)
head-fits width (row ∷ rows) f = f.0.0

head-are : (rows : List (List Bool)) → 0 < length rows → end_lines rows ≡ one bits_words (head_row rows) ++ later_lines rows
head-are [] h = absurd (omega arith)
head-are (row ∷ rows) h = refl

rows-lead : (width : ℕ) → Leads (HasWidth width) (one bits_words) (AreRows width) end_lines head_row later_lines
rows-lead width = record {
  fits = head-fits width;
  are = λ v f. head-are v f.1;
  plain = λ v f. later-plain v;
  some = λ row f. row ∷ [];
  some_fits = λ row f. ((f, tt), lit< tt);
  some_head = λ row f. refl;
}

head-back : (width : ℕ) (row : List Bool) (v : List (List Bool)) → AreRows width v × (head_row v ≡ row) → AreWide width (later_rows v) × (end_lines (later_rows v) ≡ later_lines v)
head-back width row [] h = let some = h.0.1 in absurd (omega arith)
head-back width row (r ∷ rows) h = (h.0.0.1, refl)

head-then : (width : ℕ) (row : List Bool) (p : Place) → HasWidth width row → ReadsTo (λ v. AreRows width v × (head_row v ≡ row)) later_lines p (rows_from width (length p.bytes) (row ∷ []) p)
head-then width row p f =
    let size = length p.bytes in
    subst (λ (r : Read (List (List Bool))). ReadsTo (λ v. AreRows width v × (head_row v ≡ row)) later_lines p r) (sym (rows-behind width size (row ∷ []) [] p))
    (mapped-reads (AreWide width) end_lines (λ v. AreRows width v × (head_row v ≡ row)) later_lines (λ rows. row ∷ rows) later_rows p (rows_from width size [] p)
    (record { there = λ rows g. ((((f, g), omega arith), refl), refl); back = head-back width row }) (end-reads width size p (omega arith)))

rows-reads : (width : ℕ) (p : Place) → ReadsTo (AreRows width) end_lines p (rows_read width p)
rows-reads width p =
    leads-reads (HasWidth width) (one bits_words) (AreRows width) end_lines head_row later_lines p (bits_read width p) (λ b. rows_from width (length b.1.bytes) (b.0 ∷ []) b.1)
    (bits-are_spelling width) (rows-lead width) (bits-reads width p) (λ row s f _. head-then width row s f)

-- ---- the status and the goal
abbrev status_words : ℕ → Line
status_words n = decimal n ∷ []

one-small : 1 < 2 ^ 32
one-small = lit< tt

status-is_line : (n : ℕ) → IsNumber 1 n → IsLine (status_words n)
status-is_line n h = (decimal-is_word n (omega (arith, h)), tt)

status_parse : IsLineParse (IsNumber 1) status_words status_of
status_parse = whole_parse (IsNumber 1) status_words _ 1 (field (same_field 1 one-small)) status-is_line refl

abbrev property_text : ℕ → Word
property_text n = codes "b" ++ decimal n

property-tells : (goal : ℕ) → goal < 2 ^ 32 → (w : Word) (n : ℕ) → property_word goal w ≡ Some n → IsNumber goal n × (property_text n ≡ w)
property-tells goal h w n e =
    let first = bind-some (behind_front (codes "b") w) (λ (r : Word). small_of r >>? if_same goal) n e in
    let told = (same_field goal h).tells first.0 n first.2 in
    (told.0, ap (λ (r : Word). codes "b" ++ r) told.1 ∙ front-tells (codes "b") w first.0 first.1)

property_field : (goal : ℕ) → goal < 2 ^ 32 → IsField (IsNumber goal) property_text (property_word goal)
property_field goal h = record { tells = property-tells goal h; back = λ n f. (same_field goal h).back n f }

property-is_line : (goal n : ℕ) → goal < 2 ^ 32 → IsNumber goal n → IsLine (property_text n ∷ [])
property-is_line goal n h is = ((record { newline = refl; space = refl }, decimal-is_word n (omega (arith, is))), tt)

property_parse : (goal : ℕ) → goal < 2 ^ 32 → IsLineParse (IsNumber goal) (λ n. property_text n ∷ []) (property_of goal)
property_parse goal h = whole_parse (IsNumber goal) (λ n. property_text n ∷ []) _ goal (field (property_field goal h)) (λ n is. property-is_line goal n h is) refl

-- ---- the whole
abbrev FitsStart : ℕ → ℕ → List Bool × List (List Bool) → Type 0
FitsStart inputs latches t = HasWidth latches t.0 × AreRows inputs t.1

abbrev start_lines : List Bool × List (List Bool) → List Line
start_lines t = one bits_words t.0 ++ end_lines t.1

abbrev FitsNamed : ℕ → ℕ → ℕ → ℕ × (List Bool × List (List Bool)) → Type 0
FitsNamed inputs latches goal t = IsNumber goal t.0 × FitsStart inputs latches t.1

abbrev named_lines : ℕ × (List Bool × List (List Bool)) → List Line
named_lines t = one (λ n. property_text n ∷ []) t.0 ++ start_lines t.1

abbrev FitsFields : ℕ → ℕ → ℕ → TraceFields → Type 0
FitsFields inputs latches goal t = IsNumber 1 t.0 × FitsNamed inputs latches goal t.1

abbrev field_lines : TraceFields → List Line
field_lines t = one status_words t.0 ++ named_lines t.1

abbrev some_row : ℕ → List (List Bool)
some_row inputs = replicate inputs false ∷ []

some-are_rows : (inputs : ℕ) → AreRows inputs (some_row inputs)
some-are_rows inputs = ((length-replicate inputs false, tt), lit< tt)

start-plain : (inputs latches : ℕ) (t : List Bool × List (List Bool)) → FitsStart inputs latches t → AreLines (start_lines t)
start-plain inputs latches t f = (bits-is_line t.0, end-plain t.1)

named-plain : (inputs latches goal : ℕ) → goal < 2 ^ 32 → (t : ℕ × (List Bool × List (List Bool))) → FitsNamed inputs latches goal t → AreLines (named_lines t)
named-plain inputs latches goal h t f = (property-is_line goal t.0 h f.0, start-plain inputs latches t.1 f.1)

start-reads : (inputs latches : ℕ) (p : Place) → ReadsTo (FitsStart inputs latches) start_lines p (and_read (bits_read latches p) (rows_read inputs))
start-reads inputs latches p =
    pair-reads (HasWidth latches) (one bits_words) (AreRows inputs) end_lines p (bits_read latches p) (rows_read inputs) (some_row inputs) (bits-are_spelling latches) (λ rows f. end-plain rows)
    (some-are_rows inputs) (bits-reads latches p) (rows-reads inputs)

named-reads : (inputs latches goal : ℕ) (p : Place) → goal < 2 ^ 32
    → ReadsTo (FitsNamed inputs latches goal) named_lines p (and_read (line_read (property_of goal) p) (λ s. and_read (bits_read latches s) (rows_read inputs)))
named-reads inputs latches goal p h =
    let parse = property_parse goal h in
    pair-reads (IsNumber goal) (one (λ n. property_text n ∷ [])) (FitsStart inputs latches) start_lines p (line_read (property_of goal) p) (λ s. and_read (bits_read latches s) (rows_read inputs))
    (replicate latches false, some_row inputs) (line-is_spelling (IsNumber goal) (λ n. property_text n ∷ []) (property_of goal) parse) (start-plain inputs latches)
    (length-replicate latches false, some-are_rows inputs) (line-reads (IsNumber goal) (λ n. property_text n ∷ []) (property_of goal) p parse) (start-reads inputs latches)

fields-reads : (inputs latches goal : ℕ) (p : Place) → goal < 2 ^ 32
    → ReadsTo (FitsFields inputs latches goal) field_lines p (and_read (line_read status_of p) (λ q. and_read (line_read (property_of goal) q) (λ s. and_read (bits_read latches s) (rows_read inputs))))
fields-reads inputs latches goal p h =
    pair-reads (IsNumber 1) (one status_words) (FitsNamed inputs latches goal) named_lines p (line_read status_of p) (λ q. and_read (line_read (property_of goal) q) (λ s. and_read (bits_read latches s) (rows_read inputs)))
    (goal, (replicate latches false, some_row inputs)) (line-is_spelling (IsNumber 1) status_words status_of status_parse) (named-plain inputs latches goal h)
    (refl, (length-replicate latches false, some-are_rows inputs)) (line-reads (IsNumber 1) status_words status_of p status_parse) (λ q. named-reads inputs latches goal q h)

-- the lines of the rows, and the last one
rows-words : (rows : List (List Bool)) → map one_word (map witness.bits_line rows ++ codes "." ∷ []) ≡ end_lines rows
rows-words [] = refl
rows-words (row ∷ rows) = ap (λ (ls : List Line). bits_words row ∷ ls) (rows-words rows)

lines-words : (goal : ℕ) (t : Trace) → witness_lines goal t ≡ (codes "1" ∷ []) ∷ ((codes "b" ++ decimal goal) ∷ []) ∷ bits_words t.start ∷ end_lines t.rows.rows
unfolding witness_lines
lines-words goal t = ap (λ (ls : List Line). (codes "1" ∷ []) ∷ ((codes "b" ++ decimal goal) ∷ []) ∷ bits_words t.start ∷ ls) (rows-words t.rows.rows)

trace-lines : (inputs goal : ℕ) (t : TraceFields) → IsNumber 1 t.0 → IsNumber goal t.1.0 → witness_lines goal (to_trace inputs t) ≡ field_lines t
trace-lines inputs goal t f g =
    lines-words goal (to_trace inputs t)
    ∙ (ap (λ (w : Word). (w ∷ []) ∷ ((codes "b" ++ decimal goal) ∷ []) ∷ start_lines t.1.1) (sym (ap decimal f ∙ decimal_digit 1 (omega arith)))
    ∙ ap (λ (n : ℕ). (decimal t.0 ∷ []) ∷ ((codes "b" ++ decimal n) ∷ []) ∷ start_lines t.1.1) (sym g))

abbrev trace_fields : ℕ → Trace → TraceFields
trace_fields goal t = (1, (goal, (t.start, t.rows.rows)))

fields-lines : (goal : ℕ) (t : Trace) → field_lines (trace_fields goal t) ≡ witness_lines goal t
fields-lines goal t =
    ap (λ (w : Word). (w ∷ []) ∷ ((codes "b" ++ decimal goal) ∷ []) ∷ bits_words t.start ∷ end_lines t.rows.rows) (decimal_digit 1 (omega arith)) ∙ sym (lines-words goal t)

pub trace-reads : (inputs latches goal : ℕ) (p : Place) → goal < 2 ^ 32 → ReadsTo (FitsTrace inputs latches) (witness_lines goal) p (trace_read inputs latches goal p)
trace-reads inputs latches goal p h =
    mapped-reads (FitsFields inputs latches goal) field_lines (FitsTrace inputs latches) (witness_lines goal) (to_trace inputs) (trace_fields goal) p _
    (record {
      there = λ t f. (record { start_wide = f.1.1.0; width_is = refl; rows_wide = f.1.1.1.0; some = f.1.1.1.1 }, trace-lines inputs goal t f.0 f.1.0);
      back = λ t f. ((refl, (refl, (f.start_wide, (f.rows_wide, f.some)))), fields-lines goal t);
    })
    (fields-reads inputs latches goal p h)

pub some_trace : ℕ → ℕ → Trace
some_trace inputs latches = to_trace inputs (1, (0, (replicate latches false, some_row inputs)))

pub some_trace-fits : (inputs latches : ℕ) → FitsTrace inputs latches (some_trace inputs latches)
unfolding some_trace
some_trace-fits inputs latches = record { start_wide = length-replicate latches false; width_is = refl; rows_wide = (length-replicate inputs false, tt); some = lit< tt }
