-- Lines of truth values and the lines of seeds are read as they tell them.
use Rattle.std.proofs.Common.{◌≡◌, inl, inr, ℕ, zero, suc, ◌+◌, ◌<◌, ◌^◌, Bool, true, false, cond, Option, Some, None, List, [], ◌∷◌, ◌++◌, map, length, replicate, refl, sym, ap, ◌∙◌, subst, append_assoc, arith, Ok}
use Rattle.std.specs.Prelude.{codes, nat_eq, decimal, IfSome}
use Rattle.std.specs.Option.{option_map}
use Rattle.std.specs.List.{AllByRecursion}
use Rattle.std.proofs.lemmas.Bool.{eqb-true, eq-eqb}
use Rattle.std.proofs.lemmas.List.{append-nil, length-replicate, length-map}
use Rattle.wit_text.specs.WitnessText.{digit, bits_line}
use Rattle.report_text.specs.declared.report.SeedLine.{SeedLine}
use Rattle.report_text.specs.Form.{IsCounted, FitsSeed}
use Rattle.report_text.specs.Text.{Word, Line, bits_words, bound_text, numbered_lines, seed_lines, seeds_lines}
use Rattle.report_text.proofs.Lines.{◌&◌, IsWord, IsLine, AreLines, word-from_test}
use Rattle.report_text.proofs.Words.{decimal-is_word, decimal-no_letter}
use Rattle.report_text.proofs.Pieces.{IsSpelling, one_line, lines-plain, lines-tell, all-append}
use Rattle.report_text.proofs.WitnessLines.{bits-is_line, bits-tell}
use Rattle.report_text.proofs.SeedLines.{seed-is_spelling}
use Rattle.report_lines.specs.Words.{◌>>?◌, small_of}
use Rattle.report_lines.specs.Reading.{Place, ◌>>=◌, line_read}
use Rattle.report_sections.specs.Items.{HasItems}
use Rattle.report_sections.specs.Pieces.{ReadsTo, one}
use Rattle.report_sections.specs.Seeds.{bit_of, bits_from, bits_of, bits_line_of, bits_read, rows_read, bound_of, if_same, rows_of, seed_line_of, Values, values_read, to_seed, seed_rest, seed_read, seeds_read}
use Rattle.report_sections.proofs.Sections.{AreItems, IsSmall, passes_none}
use Rattle.report_sections.proofs.LineWords.{IsLineParse, line-reads}
use Rattle.report_sections.proofs.Numbers.{small_field, count_parse}
use Rattle.report_sections.proofs.Parses.{IsField, some-some, cond-told, cond-some, name-or, made-tells, field, and_parse, name_parse, map_parse, whole_parse}
use Rattle.report_sections.proofs.Until.{kept_field, words-differ}
use Rattle.report_sections.proofs.Pairs.{pair-reads, mapped-reads}
use Rattle.report_sections.proofs.Combine.{items-reads, section-reads, Leads, leads-reads}

-- ---- truth values
bit-step : (b : ℕ) (v t u : Bool) → (t ≡ true → b ≡ 48) → (u ≡ true → b ≡ 49) → cond t (Some false) (cond u (Some true) None) ≡ Some v → digit v ≡ b
bit-step b v true u h k e = ap digit (sym (some-some false v e)) ∙ sym (h refl)
bit-step b v false true h k e = ap digit (sym (some-some true v e)) ∙ sym (k refl)
bit-step b v false false h k e = cc

bit-tells : (b : ℕ) (v : Bool) → bit_of b ≡ Some v → digit v ≡ b
bit-tells b v e = bit-step b v (nat_eq b 48) (nat_eq b 49) (eqb-true b 48) (eqb-true b 49) e

bit-back : (v : Bool) → bit_of (digit v) ≡ Some v
bit-back true = refl
bit-back false = refl

record AreBits (xs ys : List Bool) (bs : List ℕ) : Type 0 where
  more : List Bool
  all : ys ≡ xs ++ more
  word : map digit more ≡ bs

bits-told : (bs : List ℕ) (xs ys : List Bool) → bits_from xs bs ≡ Some ys → AreBits xs ys bs
bits-told [] xs ys e = record { more = []; all = sym (some-some xs ys e) ∙ sym (append-nil xs); word = refl }
bits-told (b ∷ bs) xs ys e =
    let step : (o : Option Bool) → bit_of b ≡ o → (o >>? λ v. bits_from (xs ++ v ∷ []) bs) ≡ Some ys → AreBits xs ys (b ∷ bs) = λ o. elim o as (λ q. bit_of b ≡ q → (q >>? λ v. bits_from (xs ++ v ∷ []) bs) ≡ Some ys → AreBits xs ys (b ∷ bs)) [
      | None ↦ λ h g. cc
      | Some v ↦ λ h g.
          let rest = bits-told bs (xs ++ v ∷ []) ys g in
          let head : digit v ≡ b = bit-tells b v h in
          let tail : map digit rest.more ≡ bs = rest.word in
          record { more = v ∷ rest.more; all = rest.all ∙ append_assoc xs (v ∷ []) rest.more; word = cc }
    ] in
    step (bit_of b) refl e

bits-back : (zs xs : List Bool) → bits_from xs (map digit zs) ≡ Some (xs ++ zs)
bits-back [] xs = ap (λ (l : List Bool). Some l) (sym (append-nil xs))
bits-back (z ∷ zs) xs =
    ap (λ (o : Option Bool). o >>? λ v. bits_from (xs ++ v ∷ []) (map digit zs)) (bit-back z) ∙ (bits-back zs (xs ++ z ∷ []) ∙ ap (λ (l : List Bool). Some l) (append_assoc xs (z ∷ []) zs))

abbrev pub HasWidth : ℕ → List Bool → Type 0
HasWidth width bits = length bits ≡ width

pub bits_field : (width : ℕ) → IsField (HasWidth width) bits_line (bits_of width)
bits_field width = record {
  tells = λ w ys e.
      let both = cond-told (nat_eq (length w) width) (bits_from [] w) ys e in
      let told = bits-told w [] ys both.1 in
      let word : map digit ys ≡ w = ap (map digit) told.all ∙ told.word in
      (sym (length-map ys digit) ∙ (ap length word ∙ eqb-true (length w) width both.0), word);
  back = λ ys h.
      ap (λ (t : Bool). cond t (bits_from [] (map digit ys)) None) (eq-eqb (length (map digit ys)) width (length-map ys digit ∙ h)) ∙ bits-back ys [];
}

bits_parse : (width : ℕ) → IsLineParse (HasWidth width) bits_words (bits_line_of width)
bits_parse width = whole_parse (HasWidth width) bits_words _ (replicate width false) (field (bits_field width)) (λ bits f. bits-is_line bits) (length-replicate width false)

pub bits-reads : (width : ℕ) (p : Place) → ReadsTo (λ bits. length bits ≡ width) (one bits_words) p (bits_read width p)
bits-reads width p = line-reads (HasWidth width) bits_words (bits_line_of width) p (bits_parse width)

pub bits-are_spelling : (width : ℕ) → IsSpelling (HasWidth width) (one bits_words)
bits-are_spelling width = one_line (HasWidth width) bits_words (λ bits f. bits-is_line bits) (λ a b f g e. bits-tell a b e)

-- ---- rows
abbrev row_lines : List (List Bool) → List Line
row_lines rows = numbered_lines (λ _ row. bits_words row ∷ []) 0 rows

rows_items : (width : ℕ) → AreItems (HasWidth width) (λ _ row. bits_words row ∷ [])
rows_items width = record { each = λ n h. bits-are_spelling width; some = replicate width false; some_fits = length-replicate width false }

rows-reads : (width n : ℕ) (p : Place) → n < 2 ^ 32 → ReadsTo (HasItems (HasWidth width) n) row_lines p (rows_read width n p)
rows-reads width n p h =
    items-reads (HasWidth width) (λ _ row. bits_words row ∷ []) (λ _. bits_read width) n 0 n [] p p (rows_items width) (λ i s small. bits-reads width s) (omega arith) h
    (record { size = refl; each = tt; pass = passes_none p })

pub numbered-rows : (k : ℕ) (rows : List (List Bool)) → numbered_lines (λ _ row. bits_words row ∷ []) k rows ≡ map bits_words rows
numbered-rows k [] = refl
numbered-rows k (row ∷ rows) = ap (λ (ls : List Line). bits_words row ∷ ls) (numbered-rows (k + 1) rows)

rows-plain : (width n : ℕ) (rows : List (List Bool)) → HasItems (HasWidth width) n rows → AreLines (row_lines rows)
rows-plain width n rows f = subst AreLines (sym (numbered-rows 0 rows)) (lines-plain (HasWidth width) bits_words (λ row _. bits-is_line row) rows f.each)

rows-told : (width n : ℕ) (rows more : List (List Bool)) (x y : List Line) → HasItems (HasWidth width) n rows → HasItems (HasWidth width) n more → row_lines rows ++ x ≡ row_lines more ++ y → (rows ≡ more) × (x ≡ y)
rows-told width n rows more x y f g e =
    lines-tell (HasWidth width) bits_words (λ a b _ _ same. bits-tell a b same) rows more x y (f.size ∙ sym g.size) f.each g.each
    (ap (λ (ls : List Line). ls ++ x) (sym (numbered-rows 0 rows)) ∙ (e ∙ ap (λ (ls : List Line). ls ++ y) (numbered-rows 0 more)))

rows-are_spelling : (width n : ℕ) → IsSpelling (HasItems (HasWidth width) n) row_lines
rows-are_spelling width n = record { plain = rows-plain width n; tells = rows-told width n }

-- ---- the first line of a seed
abbrev pub FitsBound : Option ℕ → Type 0
FitsBound o = IfSome o (λ n. n < 2 ^ 32)

bound-tells : (w : Word) (b : Option ℕ) → bound_of w ≡ Some b → FitsBound b × (bound_text b ≡ w)
unfolding bound_text
bound-tells w b e =
    elim (name-or FitsBound bound_text w (codes "none") None b (option_map (λ n. Some n) (small_of w)) tt refl e) as (λ _. FitsBound b × (bound_text b ≡ w)) [
      | inl g ↦ g
      | inr h ↦ made-tells FitsBound bound_text small_field (λ n. Some n) (λ n f. (f, refl)) w b h
    ]

bound-back : (b : Option ℕ) → FitsBound b → bound_of (bound_text b) ≡ Some b
unfolding bound_text
bound-back None f = refl
bound-back (Some n) f =
    let long : n < 2 ^ 64 = (let small : n < 2 ^ 32 = f in omega arith) in
    ap (λ (t : Bool). cond t (Some None) (option_map (λ k. Some k) (small_of (decimal n)))) (words-differ (decimal n) (codes "none") (decimal-no_letter n (codes "none") long (omega arith)))
    ∙ ap (option_map (λ k. Some k)) (small_field.back n f)

pub bound_field : IsField FitsBound bound_text bound_of
bound_field = record { tells = bound-tells; back = bound-back }

abbrev pub IsNumber : ℕ → ℕ → Type 0
IsNumber m n = n ≡ m

pub same_field : (m : ℕ) → m < 2 ^ 32 → IsField (IsNumber m) decimal (λ w. small_of w >>? if_same m)
same_field m small = kept_field IsSmall (IsNumber m) decimal small_of (if_same m) small_field
    (λ a b f e. let both = cond-some (nat_eq a m) a b e in (both.1, eqb-true a m both.0))
    (λ n g. (subst IsSmall (sym g) small, ap (λ (t : Bool). cond t (Some n) None) (eq-eqb n m g)))

abbrev first_words : ℕ → Option ℕ → Line
first_words batch o = codes "seed" ∷ decimal batch ∷ bound_text o ∷ []

pub bound-is_word : (o : Option ℕ) → FitsBound o → IsWord (bound_text o)
unfolding bound_text
bound-is_word None f = word-from_test (codes "none") refl
bound-is_word (Some n) f = decimal-is_word n (let small : n < 2 ^ 32 = f in omega arith)

first-is_line : (batch : ℕ) → batch < 2 ^ 32 → (o : Option ℕ) → FitsBound o → IsLine (first_words batch o)
first-is_line batch h o f = word-from_test (codes "seed") refl & decimal-is_word batch (omega arith) & bound-is_word o f & tt

no_bound : FitsBound None
no_bound = tt

first_parse : (batch : ℕ) → batch < 2 ^ 32 → IsLineParse FitsBound (first_words batch) (seed_line_of batch)
first_parse batch h =
    let fields = name_parse (codes "seed") (and_parse (field (same_field batch h)) (field bound_field)) in
    let all = map_parse FitsBound (first_words batch) rows_of (λ o. (batch, o)) fields (record {
      there = λ t f. (f.1, ap (λ (n : ℕ). codes "seed" ∷ decimal n ∷ bound_text t.1 ∷ []) (sym f.0));
      back = λ o f. ((refl, f), refl, refl);
    }) in
    whole_parse FitsBound (first_words batch) _ None all (first-is_line batch h) no_bound

bound-same : (a b : Option ℕ) → FitsBound a → FitsBound b → bound_text a ≡ bound_text b → a ≡ b
bound-same a b f g e = some-some a b (sym (bound-back a f) ∙ (ap bound_of e ∙ bound-back b g))

first-is_spelling : (batch : ℕ) → batch < 2 ^ 32 → IsSpelling FitsBound (one (first_words batch))
first-is_spelling batch h = one_line FitsBound (first_words batch) (first-is_line batch h) (λ a b f g e. let texts : bound_text a ≡ bound_text b = cc in bound-same a b f g texts)

-- ---- a seed
abbrev FitsValues : ℕ → ℕ → ℕ → Values → Type 0
FitsValues inputs latches n t = HasWidth latches t.0 × (HasItems (HasWidth inputs) n t.1.0 × HasWidth latches t.1.1)

abbrev values_lines : Values → List Line
values_lines t = one bits_words t.0 ++ (row_lines t.1.0 ++ one bits_words t.1.1)

values-plain : (inputs latches n : ℕ) (t : List (List Bool) × List Bool) → HasItems (HasWidth inputs) n t.0 × HasWidth latches t.1 → AreLines (row_lines t.0 ++ one bits_words t.1)
values-plain inputs latches n t f = all-append IsLine (row_lines t.0) (one bits_words t.1) (rows-plain inputs n t.0 f.0) (bits-is_line t.1, tt)

all-rows : (width n : ℕ) → AllByRecursion (HasWidth width) (replicate n (replicate width false))
all-rows width zero = tt
all-rows width (suc n) = (length-replicate width false, all-rows width n)

abbrev some_rows : ℕ → ℕ → List (List Bool)
some_rows width n = replicate n (replicate width false)

values-reads : (inputs latches n : ℕ) (p : Place) → n < 2 ^ 32 → ReadsTo (FitsValues inputs latches n) values_lines p (values_read inputs latches n p)
values-reads inputs latches n p h =
    pair-reads (HasWidth latches) (one bits_words) (λ (t : List (List Bool) × List Bool). HasItems (HasWidth inputs) n t.0 × HasWidth latches t.1) (λ t. row_lines t.0 ++ one bits_words t.1) p (bits_read latches p)
    (λ q. rows_read inputs n q >>= λ r. (bits_read latches r.1 >>= λ t. Ok ((r.0, t.0), t.1))) (some_rows inputs n, replicate latches false) (bits-are_spelling latches) (values-plain inputs latches n)
    (record { size = length-replicate n (replicate inputs false); each = all-rows inputs n }, length-replicate latches false) (bits-reads latches p)
    (λ q.
    pair-reads (HasItems (HasWidth inputs) n) row_lines (HasWidth latches) (one bits_words) q (rows_read inputs n q) (bits_read latches) (replicate latches false) (rows-are_spelling inputs n) (λ bits f. (bits-is_line bits, tt))
    (length-replicate latches false) (rows-reads inputs n q h) (bits-reads latches))

abbrev seed_head : Option SeedLine → Option ℕ
seed_head None = None
seed_head (Some s) = Some (length s.rows.rows)

abbrev seed_body : Option SeedLine → List Line
seed_body None = []
seed_body (Some s) = bits_words s.start ∷ (map bits_words s.rows.rows ++ bits_words s.state ∷ [])

abbrev HasHead : ℕ → ℕ → Option ℕ → Option SeedLine → Type 0
HasHead inputs latches o v = FitsSeed inputs latches v × (seed_head v ≡ o)

abbrev values_of : Option SeedLine → Values
values_of None = ([], ([], []))
values_of (Some s) = (s.start, (s.rows.rows, s.state))

value-lines : (t : Values) → seed_body (to_seed 0 t) ≡ values_lines t
value-lines t = ap (λ (ls : List Line). bits_words t.0 ∷ (ls ++ bits_words t.1.1 ∷ [])) (sym (numbered-rows 0 t.1.0))

to-seed-fits : (inputs latches n : ℕ) (t : Values) → n < 2 ^ 32 → FitsValues inputs latches n t → HasHead inputs latches (Some n) (to_seed inputs t)
to-seed-fits inputs latches n t h f = (
  record {
    start_wide = f.0;
    width_is = refl;
    rows_wide = f.1.0.each;
    count = omega (arith, f.1.0.size);
    state_wide = f.1.1;
  },
  ap (λ (k : ℕ). Some k) f.1.0.size,
)

seed-back : (inputs latches n : ℕ) (v : Option SeedLine) → HasHead inputs latches (Some n) v → FitsValues inputs latches n (values_of v) × (values_lines (values_of v) ≡ seed_body v)
seed-back inputs latches n None f = let none : None ≡ Some n = f.1 in cc
seed-back inputs latches n (Some s) f = (
  (f.0.start_wide, (record { size = some-some (length s.rows.rows) n f.1; each = f.0.rows_wide }, f.0.state_wide)),
  sym (value-lines (s.start, (s.rows.rows, s.state))),
)

rest-reads : (inputs latches : ℕ) (o : Option ℕ) (p : Place) → FitsBound o → ReadsTo (HasHead inputs latches o) seed_body p (seed_rest inputs latches o p)
rest-reads inputs latches None p f = ((tt, refl), passes_none p)
rest-reads inputs latches (Some n) p f =
    mapped-reads (FitsValues inputs latches n) values_lines (HasHead inputs latches (Some n)) seed_body (to_seed inputs) values_of p (values_read inputs latches n p)
    (record { there = λ t g. (to-seed-fits inputs latches n t f g, value-lines t); back = seed-back inputs latches n }) (values-reads inputs latches n p f)

abbrev seed_with : ℕ → ℕ → Option ℕ → Option SeedLine
seed_with inputs latches None = None
seed_with inputs latches (Some n) = to_seed inputs (replicate latches false, (some_rows inputs n, replicate latches false))

with-fits : (inputs latches : ℕ) (o : Option ℕ) → FitsBound o → HasHead inputs latches o (seed_with inputs latches o)
with-fits inputs latches None f = (tt, refl)
with-fits inputs latches (Some n) f =
    to-seed-fits inputs latches n (replicate latches false, (some_rows inputs n, replicate latches false)) f
    (length-replicate latches false, (record { size = length-replicate n (replicate inputs false); each = all-rows inputs n }, length-replicate latches false))

head-fits : (inputs latches : ℕ) (v : Option SeedLine) → FitsSeed inputs latches v → FitsBound (seed_head v)
head-fits inputs latches None f = tt
head-fits inputs latches (Some s) f = f.count

seed-are : (batch : ℕ) (v : Option SeedLine) → seed_lines batch v ≡ one (first_words batch) (seed_head v) ++ seed_body v
unfolding seed_lines bound_text
seed-are batch None = refl
seed-are batch (Some s) = refl

body-plain : (inputs latches : ℕ) (v : Option SeedLine) → FitsSeed inputs latches v → AreLines (seed_body v)
body-plain inputs latches None f = tt
body-plain inputs latches (Some s) f =
    (bits-is_line s.start, all-append IsLine (map bits_words s.rows.rows) (bits_words s.state ∷ []) (lines-plain (HasWidth inputs) bits_words (λ row _. bits-is_line row) s.rows.rows f.rows_wide) (bits-is_line s.state, tt))

seed-leads : (inputs latches batch : ℕ) → Leads FitsBound (one (first_words batch)) (FitsSeed inputs latches) (seed_lines batch) seed_head seed_body
seed-leads inputs latches batch = record {
  fits = head-fits inputs latches;
  are = λ v f. seed-are batch v;
  plain = body-plain inputs latches;
  some = λ o f. seed_with inputs latches o;
  some_fits = λ o f. (with-fits inputs latches o f).0;
  some_head = λ o f. (with-fits inputs latches o f).1;
}

seed-reads : (inputs latches batch : ℕ) (p : Place) → batch < 2 ^ 32 → ReadsTo (FitsSeed inputs latches) (seed_lines batch) p (seed_read inputs latches batch p)
seed-reads inputs latches batch p h =
    leads-reads FitsBound (one (first_words batch)) (FitsSeed inputs latches) (seed_lines batch) seed_head seed_body p (line_read (seed_line_of batch) p) (λ n. seed_rest inputs latches n.0 n.1)
    (first-is_spelling batch h) (seed-leads inputs latches batch) (line-reads FitsBound (first_words batch) (seed_line_of batch) p (first_parse batch h)) (λ o s f _. rest-reads inputs latches o s f)

no_seed : (inputs latches : ℕ) → FitsSeed inputs latches None
no_seed inputs latches = tt

seed_items : (inputs latches : ℕ) → AreItems (FitsSeed inputs latches) seed_lines
seed_items inputs latches = record { each = seed-is_spelling inputs latches; some = None; some_fits = no_seed inputs latches }

pub seeds-reads : (inputs latches : ℕ) (p : Place) → ReadsTo (IsCounted (FitsSeed inputs latches)) seeds_lines p (seeds_read inputs latches p)
seeds-reads inputs latches p =
    section-reads (FitsSeed inputs latches) (codes "seeds") seed_lines (seed_read inputs latches) p (seed_items inputs latches) (word-from_test (codes "seeds") refl)
    (count_parse (codes "seeds") (word-from_test (codes "seeds") refl)) (λ i s h. seed-reads inputs latches i s h)
