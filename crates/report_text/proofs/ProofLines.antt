-- A proof's lines tell the proof.
use Rattle.std.proofs.Common.{◌≡◌, ℕ, ◌+◌, ℤ, List, [], ◌∷◌, ◌++◌, map, refl, sym, ap, ◌∙◌, subst, append_assoc, arith}
use Rattle.std.specs.Prelude.{codes, decimal}
use Rattle.std.specs.List.{flat_map, AllByRecursion}
use Rattle.std.specs.Fmt.{signed_decimal}
use Rattle.lrat_text.specs.declared.proof.LratStep.{LratStep}
use Rattle.lrat_text.specs.declared.proof.LratStep.TheVariants.{Add, Delete}
use Rattle.lrat_text.specs.Lrat.{IsId, IsHint, IsLiteral, SpellsProof}
use Rattle.lrat_text.specs.Text.{number_text, id_text, step_text, proof_text, HasIdsAndHints, HasLiterals, IsWritable, HasProofLiterals}
use Rattle.lrat_text.proofs.Items.{fits-small}
use Rattle.lrat_text.proofs.Whole.{one-proof}
use Rattle.lrat_text.proofs.WrittenBack.{proof_text-spells}
use Rattle.report_text.specs.Form.{FitsProof, IsCounted}
use Rattle.report_text.specs.Text.{Word, line, text, numbered_lines, step_words, proof_lines}
use Rattle.report_text.proofs.Lines.{◌&◌, IsWord, IsLine, word-from_test}
use Rattle.report_text.proofs.Words.{decimal-is_word, signed-is_word}
use Rattle.report_text.proofs.Pieces.{IsSpelling, all-append, one_line, section-is_spelling}
use Rattle.report_text.proofs.Written.{line-middle}

-- the ids, hints and literals of the step are those of the format
pub record FitsStep (s : LratStep) : Type 0 where
  pub ids : HasIdsAndHints s
  pub literals : HasLiterals s

-- ---- the words of a step
pub literals-are_words : (zs : List ℤ) → AllByRecursion IsLiteral zs → AllByRecursion IsWord (map signed_decimal zs)
literals-are_words [] h = tt
literals-are_words (z ∷ zs) h = (signed-is_word z (fits-small z h.0.1), literals-are_words zs h.1)

hints-are_words : (zs : List ℤ) → AllByRecursion IsHint zs → AllByRecursion IsWord (map signed_decimal zs)
hints-are_words [] h = tt
hints-are_words (z ∷ zs) h = (signed-is_word z h.0.1, hints-are_words zs h.1)

id-is_word : (n : ℕ) → IsId n → IsWord (decimal n)
id-is_word n h = decimal-is_word n (omega (arith, h.1))

ids-are_words : (ns : List ℕ) → AllByRecursion IsId ns → AllByRecursion IsWord (map decimal ns)
ids-are_words [] h = tt
ids-are_words (n ∷ ns) h = (id-is_word n h.0, ids-are_words ns h.1)

pub step-is_line : (s : LratStep) → FitsStep s → IsLine (step_words s)
unfolding step_words
step-is_line (Add id lits hints) f =
    id-is_word id f.ids.0
    & all-append IsWord (map signed_decimal lits) (codes "0" ∷ (map signed_decimal hints ++ codes "0" ∷ [])) (literals-are_words lits f.literals)
    (word-from_test (codes "0") refl & all-append IsWord (map signed_decimal hints) (codes "0" ∷ []) (hints-are_words hints f.ids.1) (word-from_test (codes "0") refl & tt))
step-is_line (Delete at_id ids) f =
    id-is_word at_id f.ids.0 & word-from_test (codes "d") refl
    & all-append IsWord (map decimal ids) (codes "0" ∷ []) (ids-are_words ids f.ids.1) (word-from_test (codes "0") refl & tt)

-- ---- a step's line is the one that the format writes
-- a space before each word, and one after all of them; or one before all, and one after each
spaced : {A : Type 0} (f : A → Word) (xs : List A) (rest : List ℕ) → flat_map (λ x. 32 ∷ f x) xs ++ 32 ∷ rest ≡ 32 ∷ (flat_map (λ x. f x ++ 32 ∷ []) xs ++ rest)
spaced f [] rest = refl
spaced f (x ∷ xs) rest =
    let before = flat_map (λ y. 32 ∷ f y) xs in
    let after = flat_map (λ y. f y ++ 32 ∷ []) xs in
    ap (λ (w : List ℕ). 32 ∷ w)
    (append_assoc (f x) before (32 ∷ rest) ∙ (ap (λ (w : List ℕ). f x ++ w) (spaced f xs rest)
    ∙ sym (append_assoc (f x ++ 32 ∷ []) after rest ∙ append_assoc (f x) (32 ∷ []) (after ++ rest))))

-- words, 0, and what follows
counted_line : {A : Type 0} (f : A → Word) (w : Word) (xs : List A) (vs : List Word)
    → line (w ∷ (map f xs ++ codes "0" ∷ vs)) ≡ w ++ 32 ∷ (flat_map (λ x. f x ++ 32 ∷ []) xs ++ line (codes "0" ∷ vs))
counted_line f w xs vs = line-middle f w (codes "0") xs vs ∙ ap (λ (rest : List ℕ). w ++ rest) (spaced f xs (line (codes "0" ∷ vs)))

pub step-written : (s : LratStep) → line (step_words s) ≡ step_text s
unfolding step_words
step-written (Add id lits hints) =
    let first = flat_map number_text lits in
    let second = flat_map number_text hints in
    let back : decimal id ++ 32 ∷ (first ++ 48 ∷ 32 ∷ (second ++ 48 ∷ 10 ∷ [])) ≡ step_text (Add id lits hints) = simp append_assoc in
    counted_line signed_decimal (decimal id) lits (map signed_decimal hints ++ codes "0" ∷ [])
    ∙ (ap (λ (rest : List ℕ). decimal id ++ 32 ∷ (first ++ rest)) (counted_line signed_decimal (codes "0") hints []) ∙ back)
step-written (Delete at_id ids) =
    let first = flat_map id_text ids in
    let back : decimal at_id ++ 32 ∷ 100 ∷ 32 ∷ (first ++ 48 ∷ 10 ∷ []) ≡ step_text (Delete at_id ids) = simp append_assoc in
    ap (λ (rest : List ℕ). decimal at_id ++ 32 ∷ rest) (counted_line decimal (codes "d") ids []) ∙ back

pub steps-written : (n : ℕ) (steps : List LratStep) → text (numbered_lines (λ _ s. step_words s ∷ []) n steps) ≡ proof_text steps
steps-written n [] = refl
steps-written n (s ∷ steps) =
    ap (λ (front : List ℕ). front ++ text (numbered_lines (λ _ s. step_words s ∷ []) (n + 1) steps)) (step-written s)
    ∙ ap (λ (rest : List ℕ). step_text s ++ rest) (steps-written (n + 1) steps)

-- ---- a step's line tells the step
step-spelled : (s : LratStep) → FitsStep s → SpellsProof (proof_text (s ∷ [])) (s ∷ [])
step-spelled s f = proof_text-spells (s ∷ []) (f.ids, tt) (f.literals, tt)

step-tells : (s t : LratStep) → FitsStep s → FitsStep t → step_words s ≡ step_words t → s ≡ t
step-tells s t f g e =
    let texts : step_text s ≡ step_text t = sym (step-written s) ∙ (ap line e ∙ step-written t) in
    let whole : proof_text (s ∷ []) ≡ proof_text (t ∷ []) = ap (λ (w : List ℕ). w ++ []) texts in
    let both : s ∷ [] ≡ t ∷ [] = one-proof (proof_text (t ∷ [])) (s ∷ []) (t ∷ []) (subst (λ (w : List ℕ). SpellsProof w (s ∷ [])) whole (step-spelled s f)) (step-spelled t g) in
    cc

pub step-is_spelling : IsSpelling FitsStep (λ s. step_words s ∷ [])
step-is_spelling = one_line FitsStep step_words step-is_line step-tells

steps-fit : (p : List LratStep) → IsWritable p → HasProofLiterals p → AllByRecursion FitsStep p
steps-fit [] ids literals = tt
steps-fit (s ∷ p) ids literals = (record { ids = ids.0; literals = literals.0 }, steps-fit p ids.1 literals.1)

steps-counted : (p : List LratStep) → FitsProof p → IsCounted FitsStep p
steps-counted p f = record { count = f.count; items = steps-fit p f.ids f.literals }

steps-are_spelling : IsSpelling (IsCounted FitsStep) proof_lines
steps-are_spelling =
    section-is_spelling FitsStep (codes "proof") (λ _ s. step_words s ∷ []) (word-from_test (codes "proof") refl) (λ n h. step-is_spelling)

pub proof-is_spelling : IsSpelling FitsProof proof_lines
proof-is_spelling = record {
  plain = λ p f. steps-are_spelling.plain p (steps-counted p f);
  tells = λ p q x y f g e. steps-are_spelling.tells p q x y (steps-counted p f) (steps-counted q g) e;
}
