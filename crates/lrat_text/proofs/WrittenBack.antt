-- A proof's text spells the proof.
use Rattle.std.proofs.Common.{◌≡◌, ℕ, ◌<◌, ◌^◌, Bool, true, cond, ℤ, pos, nat_abs, List, [], ◌∷◌, ◌++◌, map, filter, codes, refl, sym, ap, ◌∙◌, subst, append_assoc, arith}
use Rattle.std.specs.List.{flat_map, AllByRecursion, AllZip}
use Rattle.std.specs.Fmt.{signed_decimal}
use Rattle.text_words.specs.Lines.{lines}
use Rattle.text_words.specs.Words.{words, content}
use Rattle.text_words.specs.declared.words.Separators.TheVariants.{Spaces}
use Rattle.text_words.proofs.Written.{IsInLine, IsGraphic, each-append, each-weaker, graphic-in_line, lines-written, words-written, words-written-last, signed_decimal-graphic, signed_decimal-some, signed_decimal-low, integer_of-signed_decimal, content-number}
use Rattle.lrat_text.specs.declared.proof.LratStep.{LratStep}
use Rattle.lrat_text.specs.declared.proof.LratStep.TheVariants.{Add, Delete}
use Rattle.lrat_text.specs.Lrat.{words_of, has_words, Are, numbers, IsId, IsLiteral, IsHint, SpellsStep, SpellsProof}
use Rattle.lrat_text.specs.Text.{number_text, id_text, step_text, proof_text, HasIdsAndHints, HasLiterals, IsWritable, HasProofLiterals}
use Rattle.lrat_text.proofs.Lists.{are-append, are-cons}
use Rattle.lrat_text.proofs.Items.{fits-small}

-- ---- numbers

abbrev Small : ℤ → Type 0
Small z = nat_abs z < 2 ^ 64

small-literals : (zs : List ℤ) → AllByRecursion IsLiteral zs → AllByRecursion Small zs
small-literals zs each = each-weaker IsLiteral Small (λ z h. let few = fits-small z h.1 in omega arith) zs each

small-hints : (zs : List ℤ) → AllByRecursion IsHint zs → AllByRecursion Small zs
small-hints zs each = each-weaker IsHint Small (λ z h. let few = h.1 in omega arith) zs each

small-id : (n : ℕ) → IsId n → Small (pos n)
small-id n h = let few = h.1 in omega arith

-- ids are written as numbers
ids-text : (ids : List ℕ) → flat_map id_text ids ≡ flat_map number_text (numbers ids)
ids-text [] = refl
ids-text (n ∷ ns) = ap (λ t. id_text n ++ t) (ids-text ns)

small-ids : (ids : List ℕ) → AllByRecursion IsId ids → AllByRecursion Small (numbers ids)
small-ids [] each = tt
small-ids (n ∷ ns) each = (small-id n each.0, small-ids ns each.1)

abbrev texts : List ℤ → List (List ℕ)
texts zs = map signed_decimal zs

are-texts : (zs : List ℤ) → AllByRecursion Small zs → Are (texts zs) zs
are-texts [] each = refl
are-texts (z ∷ zs) each = are-cons (signed_decimal z) (texts zs) z zs (integer_of-signed_decimal z each.0) (are-texts zs each.1)

number-in_line : (z : ℤ) → Small z → AllByRecursion IsInLine (number_text z)
number-in_line z few =
    each-append IsInLine (signed_decimal z) (codes " ") (each-weaker IsGraphic IsInLine graphic-in_line (signed_decimal z) (signed_decimal-graphic z few)) ((omega arith, omega arith), tt)

numbers-in_line : (zs : List ℤ) → AllByRecursion Small zs → AllByRecursion IsInLine (flat_map number_text zs)
numbers-in_line [] each = tt
numbers-in_line (z ∷ zs) each = each-append IsInLine (number_text z) (flat_map number_text zs) (number-in_line z each.0) (numbers-in_line zs each.1)

words-number : (z : ℤ) (rest : List ℕ) → Small z → words Spaces (number_text z ++ rest) ≡ signed_decimal z ∷ words Spaces rest
words-number z rest few =
    ap (words Spaces) (append_assoc (signed_decimal z) (32 ∷ []) rest)
    ∙ words-written Spaces (signed_decimal z) rest (signed_decimal-some z few) (signed_decimal-graphic z few)

words-numbers : (zs : List ℤ) (rest : List ℕ) → AllByRecursion Small zs → words Spaces (flat_map number_text zs ++ rest) ≡ texts zs ++ words Spaces rest
words-numbers [] rest each = refl
words-numbers (z ∷ zs) rest each =
    ap (words Spaces) (append_assoc (number_text z) (flat_map number_text zs) rest)
    ∙ words-number z (flat_map number_text zs ++ rest) each.0
    ∙ ap (λ ws. signed_decimal z ∷ ws) (words-numbers zs rest each.1)

last-zero : words Spaces (codes "0") ≡ codes "0" ∷ []
last-zero = words-written-last Spaces (codes "0") (omega arith) (omega arith, tt)

-- ---- a step

-- the line of an addition, and of a deletion, regrouped
abbrev added : ℕ → List ℤ → List ℤ → List ℕ
added id lits hints = number_text (pos id) ++ (flat_map number_text lits ++ (codes "0 " ++ (flat_map number_text hints ++ codes "0")))

abbrev deleted : ℕ → List ℕ → List ℕ
deleted n ids = number_text (pos n) ++ (codes "d " ++ (flat_map number_text (numbers ids) ++ codes "0"))

abbrev step_line : LratStep → List ℕ
step_line (Add id lits hints) = added id lits hints
step_line (Delete n ids) = deleted n ids

end-regroup : (a : List ℕ) (rest : List ℕ) → (a ++ codes "0\n") ++ rest ≡ (a ++ codes "0") ++ 10 ∷ rest
end-regroup a rest = append_assoc a (48 ∷ 10 ∷ []) rest ∙ sym (append_assoc a (48 ∷ []) (10 ∷ rest))

four : (a b c d e : List ℕ) → (((a ++ b) ++ c) ++ d) ++ e ≡ a ++ (b ++ (c ++ (d ++ e)))
four a b c d e = simp append_assoc

three : (a b c d : List ℕ) → ((a ++ b) ++ c) ++ d ≡ a ++ (b ++ (c ++ d))
three a b c d = simp append_assoc

step-line : (step : LratStep) (rest : List ℕ) → step_text step ++ rest ≡ step_line step ++ 10 ∷ rest
step-line (Add id lits hints) rest =
    end-regroup (id_text id ++ flat_map number_text lits ++ codes "0 " ++ flat_map number_text hints) rest
    ∙ ap (λ t. t ++ 10 ∷ rest) (four (id_text id) (flat_map number_text lits) (codes "0 ") (flat_map number_text hints) (codes "0"))
step-line (Delete n ids) rest =
    end-regroup (id_text n ++ codes "d " ++ flat_map id_text ids) rest
    ∙ ap (λ t. t ++ 10 ∷ rest) (three (id_text n) (codes "d ") (flat_map id_text ids) (codes "0"))
    ∙ ap (λ t. (id_text n ++ (codes "d " ++ (t ++ codes "0"))) ++ 10 ∷ rest) (ids-text ids)

-- what is written fits the format
abbrev Fits : LratStep → Type 0
Fits step = HasIdsAndHints step × HasLiterals step

in_line-zero : AllByRecursion IsInLine (codes "0")
in_line-zero = ((omega arith, omega arith), tt)

step-in_line : (step : LratStep) → Fits step → AllByRecursion IsInLine (step_line step)
step-in_line (Add id lits hints) fits =
    each-append IsInLine (number_text (pos id)) (flat_map number_text lits ++ (codes "0 " ++ (flat_map number_text hints ++ codes "0"))) (number-in_line (pos id) (small-id id fits.0.0))
    (each-append IsInLine (flat_map number_text lits) (codes "0 " ++ (flat_map number_text hints ++ codes "0")) (numbers-in_line lits (small-literals lits fits.1)) (
      (omega arith, omega arith),
      (
        (omega arith, omega arith),
        each-append IsInLine (flat_map number_text hints) (codes "0") (numbers-in_line hints (small-hints hints fits.0.1)) in_line-zero,
      ),
    ))
step-in_line (Delete n ids) fits =
    each-append IsInLine (number_text (pos n)) (codes "d " ++ (flat_map number_text (numbers ids) ++ codes "0")) (number-in_line (pos n) (small-id n fits.0.0)) (
      (omega arith, omega arith),
      (
        (omega arith, omega arith),
        each-append IsInLine (flat_map number_text (numbers ids)) (codes "0") (numbers-in_line (numbers ids) (small-ids ids fits.0.1)) in_line-zero,
      ),
    )

-- its words
abbrev step_words : LratStep → List (List ℕ)
step_words (Add id lits hints) = signed_decimal (pos id) ∷ (texts lits ++ (codes "0" ∷ (texts hints ++ codes "0" ∷ [])))
step_words (Delete n ids) = signed_decimal (pos n) ∷ codes "d" ∷ (texts (numbers ids) ++ codes "0" ∷ [])

step-words : (step : LratStep) → Fits step → words Spaces (step_line step) ≡ step_words step
step-words (Add id lits hints) fits =
    let end = flat_map number_text hints ++ codes "0" in
    words-number (pos id) (flat_map number_text lits ++ (codes "0 " ++ end)) (small-id id fits.0.0)
    ∙ ap (λ ws. signed_decimal (pos id) ∷ ws) (words-numbers lits (codes "0 " ++ end) (small-literals lits fits.1)
    ∙ ap (λ ws. texts lits ++ ws) (words-written Spaces (codes "0") end (omega arith) (omega arith, tt)
    ∙ ap (λ ws. codes "0" ∷ ws) (words-numbers hints (codes "0") (small-hints hints fits.0.1) ∙ ap (λ ws. texts hints ++ ws) last-zero)))
step-words (Delete n ids) fits =
    let end = flat_map number_text (numbers ids) ++ codes "0" in
    words-number (pos n) (codes "d " ++ end) (small-id n fits.0.0)
    ∙ ap (λ ws. signed_decimal (pos n) ∷ ws) (words-written Spaces (codes "d") end (omega arith) (omega arith, tt)
    ∙ ap (λ ws. codes "d" ∷ ws) (words-numbers (numbers ids) (codes "0") (small-ids ids fits.0.1) ∙ ap (λ ws. texts (numbers ids) ++ ws) last-zero))

-- a line that begins with an id is no comment
numbered-content : (n : ℕ) (rest : List ℕ) → IsId n → content Spaces (number_text (pos n) ++ rest) ≡ words Spaces (number_text (pos n) ++ rest)
numbered-content n rest h =
    let few = small-id n h in
    ap (content Spaces) (append_assoc (signed_decimal (pos n)) (32 ∷ []) rest)
    ∙ content-number Spaces (signed_decimal (pos n)) (32 ∷ rest) (signed_decimal-some (pos n) few) (signed_decimal-low (pos n) few)
    ∙ ap (words Spaces) (sym (append_assoc (signed_decimal (pos n)) (32 ∷ []) rest))

step-content : (step : LratStep) → Fits step → words_of (step_line step) ≡ step_words step
step-content (Add id lits hints) fits =
    numbered-content id (flat_map number_text lits ++ (codes "0 " ++ (flat_map number_text hints ++ codes "0"))) fits.0.0 ∙ step-words (Add id lits hints) fits
step-content (Delete n ids) fits =
    numbered-content n (codes "d " ++ (flat_map number_text (numbers ids) ++ codes "0")) fits.0.0 ∙ step-words (Delete n ids) fits

step-spelled : (step : LratStep) → Fits step → SpellsStep (step_words step) step
step-spelled (Add id lits hints) fits =
    let begun = signed_decimal (pos id) ∷ (texts lits ++ codes "0" ∷ texts hints) in (
      begun,
      codes "0",
      ap (λ ws. signed_decimal (pos id) ∷ ws) (sym (append_assoc (texts lits) (codes "0" ∷ texts hints) (codes "0" ∷ []))),
      refl,
      record {
        are = are-cons (signed_decimal (pos id)) (texts lits ++ codes "0" ∷ texts hints) (pos id) (lits ++ pos 0 ∷ hints) (integer_of-signed_decimal (pos id) (small-id id fits.0.0))
            (are-append (texts lits) (codes "0" ∷ texts hints) lits (pos 0 ∷ hints) (are-texts lits (small-literals lits fits.1))
            (are-cons (codes "0") (texts hints) (pos 0) hints refl (are-texts hints (small-hints hints fits.0.1))));
        of_id = fits.0.0;
        of_lits = fits.1;
        of_hints = fits.0.1;
      },
    )
step-spelled (Delete n ids) fits = (
  signed_decimal (pos n) ∷ codes "d" ∷ texts (numbers ids),
  codes "0",
  refl,
  refl,
  record {
    first = signed_decimal (pos n);
    rest = texts (numbers ids);
    parts = refl;
    number = integer_of-signed_decimal (pos n) (small-id n fits.0.0);
    of_number = fits.0.0;
    are = are-texts (numbers ids) (small-ids ids fits.0.1);
    of_ids = fits.0.1;
  },
)

-- ---- a proof

lines-proof : (proof : List LratStep) → AllByRecursion Fits proof → lines (proof_text proof) ≡ map step_line proof
lines-proof [] fits = refl
lines-proof (s ∷ ss) fits =
    ap lines (step-line s (proof_text ss))
    ∙ lines-written (step_line s) (proof_text ss) (step-in_line s fits.0)
    ∙ ap (λ ls. step_line s ∷ ls) (lines-proof ss fits.1)

some-words : (step : LratStep) → has_words (step_words step) ≡ true
some-words (Add id lits hints) = refl
some-words (Delete n ids) = refl

steps-spelled : (proof : List LratStep) → AllByRecursion Fits proof → AllZip SpellsStep (filter has_words (map words_of (map step_line proof))) proof
steps-spelled [] fits = tt
steps-spelled (s ∷ ss) fits =
    let rest = filter has_words (map words_of (map step_line ss)) in
    let P : List (List ℕ) → Type 0 = λ ws. AllZip SpellsStep (cond (has_words ws) (ws ∷ rest) rest) (s ∷ ss) in
    let Q : Bool → Type 0 = λ b. AllZip SpellsStep (cond b (step_words s ∷ rest) rest) (s ∷ ss) in
    subst P (sym (step-content s fits.0)) (subst Q (sym (some-words s)) (step-spelled s fits.0, steps-spelled ss fits.1))

fit : (proof : List LratStep) → IsWritable proof → HasProofLiterals proof → AllByRecursion Fits proof
fit [] ids lits = tt
fit (s ∷ ss) ids lits = ((ids.0, lits.0), fit ss ids.1 lits.1)

pub proof_text-spells : (proof : List LratStep) → IsWritable proof → HasProofLiterals proof → SpellsProof (proof_text proof) proof
proof_text-spells proof ids lits =
    let fits = fit proof ids lits in
    subst (λ (ls : List (List ℕ)). AllZip SpellsStep (filter has_words (map words_of ls)) proof) (sym (lines-proof proof fits)) (steps-spelled proof fits)

-- ---- and what a text spells can be written

step-fits : (words : List (List ℕ)) (step : LratStep) → SpellsStep words step → Fits step
step-fits words (Add id lits hints) h = ((h.4.of_id, h.4.of_hints), h.4.of_lits)
step-fits words (Delete n ids) h = ((h.4.of_number, h.4.of_ids), tt)

steps-fit : (lines : List (List (List ℕ))) (proof : List LratStep) → AllZip SpellsStep lines proof → AllByRecursion Fits proof
steps-fit [] [] h = tt
steps-fit [] (s ∷ ss) h = absurd h
steps-fit (ws ∷ lines) [] h = tt
steps-fit (ws ∷ lines) (s ∷ ss) h = (step-fits ws s h.0, steps-fit lines ss h.1)

unfit : (proof : List LratStep) → AllByRecursion Fits proof → IsWritable proof × HasProofLiterals proof
unfit [] fits = (tt, tt)
unfit (s ∷ ss) fits =
    let more = unfit ss fits.1 in
    ((fits.0.0, more.0), (fits.0.1, more.1))

pub spelled-writable : (text : List ℕ) (proof : List LratStep) → SpellsProof text proof → IsWritable proof × HasProofLiterals proof
spelled-writable text proof h = unfit proof (steps-fit (filter has_words (map words_of (lines text))) proof h)
