-- Proofs and clauses are read as their lines tell them.
use Rattle.std.proofs.Common.{lit<, ◌≡◌, ◌≢◌, ℕ, ◌<◌, ◌^◌, ℤ, pos, negsuc, nat_abs, Bool, true, false, cond, Option, Some, None, List, [], ◌∷◌, ◌++◌, map, get_or, refl, sym, ap, ◌∙◌, subst, append_assoc, arith}
use Rattle.std.specs.Prelude.{codes, bytes_eq, nat_eq, nat_lt, decimal}
use Rattle.std.specs.Fmt.{signed_decimal}
use Rattle.std.specs.List.{AllByRecursion}
use Rattle.std.proofs.lemmas.Bool.{ne_eqb, eqb-false}
use Rattle.std.proofs.lemmas.Bool.Decides.{nat_tests}
use Rattle.std.proofs.lemmas.Fmt.{decimal_digit, decimal_injective}
use Rattle.std.proofs.lemmas.List.{append-nil}
use Rattle.std.proofs.lemmas.Slice.Eq.{bytes_eq-Decides}
use Rattle.lrat_text.specs.declared.proof.LratStep.{LratStep}
use Rattle.lrat_text.specs.declared.proof.LratStep.TheVariants.{Add, Delete}
use Rattle.lrat_text.specs.Lrat.{IsId, IsHint, IsLiteral, fits_i32}
use Rattle.lrat_text.specs.Text.{IsWritable, HasProofLiterals}
use Rattle.lrat_text.proofs.Items.{fits-small}
use Rattle.report_text.specs.Form.{IsCounted, FitsProof, FitsClause}
use Rattle.report_text.specs.Text.{Word, Line, step_words, proof_lines, clause_words}
use Rattle.report_text.proofs.Lines.{word-from_test}
use Rattle.report_text.proofs.Words.{signed-injective, decimal-no_letter}
use Rattle.report_text.proofs.ProofLines.{FitsStep, step-is_line, step-is_spelling}
use Rattle.report_text.proofs.ClauseLines.{clause-is_line}
use Rattle.report_lines.specs.Words.{◌>>?◌, word, until, last}
use Rattle.report_lines.specs.Reading.{Place, line_read}
use Rattle.report_sections.specs.Pieces.{Speak, ReadsTo}
use Rattle.report_sections.specs.Proofs.{if_hint, hint_of, if_literal, literal_of, if_id, id_of, addition_of, deletion_of, after_id, step_of, proof_read, clause_of}
use Rattle.report_sections.proofs.Stops.{Same, stops_same}
use Rattle.report_sections.proofs.Sections.{AreItems}
use Rattle.report_sections.proofs.LineWords.{IsLineParse, line-reads}
use Rattle.report_sections.proofs.Numbers.{IsLong, HasSize, number_field, signed_field, count_parse}
use Rattle.report_sections.proofs.Parses.{IsField, some-some, bind-some, cond-some, field, last-tells, whole_parse}
use Rattle.report_sections.proofs.Until.{words-differ, until_parse, kept_field}
use Rattle.report_sections.proofs.Combine.{section-reads, lift-reads}

-- ---- numbers
other-some : {A : Type 0} (t : Bool) (a b : A) → cond t None (Some a) ≡ Some b → (t ≡ false) × (a ≡ b)
other-some true a b e = cc
other-some false a b e = (refl, some-some a b e)

no-size : (z : ℤ) → z ≢ pos 0 → nat_abs z ≡ 0 → ⊥
no-size (pos n) h e = h (ap (λ (k : ℕ). pos k) e)
no-size (negsuc n) h e = omega (arith, e)

hint_field : IsField IsHint signed_decimal hint_of
hint_field = kept_field HasSize IsHint signed_decimal _ if_hint signed_field
    (λ y z f e.
    let both = other-some (nat_eq (nat_abs y) 0) y z e in
    (both.1, ((λ is. eqb-false (nat_abs y) 0 both.0 (ap nat_abs is)), f)))
    (λ z g. (g.1, ap (λ (t : Bool). cond t None (Some z)) (ne_eqb (nat_abs z) 0 (no-size z g.0))))

pub literal_field : IsField IsLiteral signed_decimal literal_of
literal_field = kept_field IsHint IsLiteral signed_decimal hint_of if_literal hint_field
    (λ y z f e. let both = cond-some (fits_i32 y) y z e in (both.1, (f.0, both.0)))
    (λ z g. ((g.0, fits-small z g.1), ap (λ (t : Bool). cond t (Some z) None) g.1))

id-passes : (m n : ℕ) → IsLong m → if_id m ≡ Some n → (m ≡ n) × IsId m
id-passes m n f e =
    let step : (t u : Bool) → (t ≡ false → 0 < m) → (u ≡ true → m < 2 ^ 63) → cond t None (cond u (Some m) None) ≡ Some n → (m ≡ n) × IsId m = λ t u. elim t as (λ s. (s ≡ false → 0 < m) → (u ≡ true → m < 2 ^ 63) → cond s None (cond u (Some m) None) ≡ Some n → (m ≡ n) × IsId m) [
      | true ↦ λ h k g. cc
      | false ↦ λ h k g. let both = cond-some u m n g in (both.1, (h refl, k both.0))
    ] in
    step (nat_eq m 0) (nat_lt m (2 ^ 63)) (λ t. grind (arith, nat_tests)) (λ u. grind (arith, nat_tests)) e

id-back : (n : ℕ) → IsId n → IsLong n × (if_id n ≡ Some n)
id-back n g =
    let low : 0 < n = g.0 in
    let high : n < 2 ^ 63 = g.1 in
    let some : nat_eq n 0 ≡ false = grind (arith, nat_tests) in
    let below : nat_lt n (2 ^ 63) ≡ true = grind (arith, nat_tests) in
    (omega arith, ap (λ (t : Bool). cond t None (cond (nat_lt n (2 ^ 63)) (Some n) None)) some ∙ ap (λ (t : Bool). cond t (Some n) None) below)

id_field : IsField IsId decimal id_of
id_field = kept_field IsLong IsId decimal _ if_id number_field id-passes id-back

-- ---- lists up to a 0
no-zero : (z : ℤ) → z ≢ pos 0 → nat_abs z < 2 ^ 63 → signed_decimal z ≡ codes "0" → ⊥
no-zero z h size e =
    let zero : signed_decimal z ≡ signed_decimal (pos 0) = e ∙ sym (decimal_digit 0 (omega arith)) in
    h (signed-injective z (pos 0) size (omega arith) zero)

no-id : (n : ℕ) → IsId n → decimal n ≡ codes "0" → ⊥
no-id n h e =
    let low = h.0 in
    let zero : decimal n ≡ decimal 0 = e ∙ sym (decimal_digit 0 (omega arith)) in
    let same : n ≡ 0 = decimal_injective n 0 (omega (arith, h.1)) (omega arith) zero in
    omega arith

literal-apart : (z : ℤ) → IsLiteral z → signed_decimal z ≡ codes "0" → ⊥
literal-apart z f e = no-zero z f.0 (fits-small z f.1) e

hint-apart : (z : ℤ) → IsHint z → signed_decimal z ≡ codes "0" → ⊥
hint-apart z f e = no-zero z f.0 f.1 e

-- ---- a clause
first-fits : FitsClause []
first-fits = tt

pub clause_parse : IsLineParse FitsClause clause_words clause_of
unfolding clause_words
clause_parse = whole_parse FitsClause clause_words (until (codes "0") literal_of []) [] (until_parse IsLiteral signed_decimal literal_of (codes "0") literal_field literal-apart) clause-is_line first-fits

-- ---- a step
no-letter : (z : ℤ) → nat_abs z < 2 ^ 63 → signed_decimal z ≡ codes "d" → ⊥
no-letter (pos n) h e = decimal-no_letter n (codes "d") (omega arith) (omega arith) e
no-letter (negsuc n) h e = omega (arith, ap (λ (w : Word). get_or w 0 0) e)

addition-tells : (id : ℕ) (ws : Line) (s : LratStep) → IsId id → addition_of id ws ≡ Some s → FitsStep s × (step_words s ≡ decimal id ∷ ws)
unfolding step_words
addition-tells id ws s good e =
    let literals = until_parse IsLiteral signed_decimal literal_of (codes "0") literal_field literal-apart in
    let hints = until_parse IsHint signed_decimal hint_of (codes "0") hint_field hint-apart in
    let behind : (List ℤ × Line) → Option LratStep = λ l. until (codes "0") hint_of [] l.1 >>? λ h. last (Add id l.0 h.0) h.1 in
    let first = bind-some (until (codes "0") literal_of [] ws) behind s e in
    let second = bind-some (until (codes "0") hint_of [] first.0.1) (λ (h : List ℤ × Line). last (Add id first.0.0 h.0) h.1) s first.2 in
    let end = last-tells (Add id first.0.0 second.0.0) second.0.1 s second.2 in
    let l = literals.tells ws first.0.0 first.0.1 first.1 in
    let h = hints.tells first.0.1 second.0.0 second.0.1 second.1 in
    let tail : map signed_decimal second.0.0 ++ codes "0" ∷ [] ≡ first.0.1 = sym (append-nil (map signed_decimal second.0.0 ++ codes "0" ∷ [])) ∙ (ap (λ (r : Line). (map signed_decimal second.0.0 ++ codes "0" ∷ []) ++ r) (sym end.1) ∙ h.1) in
    let words : map signed_decimal first.0.0 ++ codes "0" ∷ (map signed_decimal second.0.0 ++ codes "0" ∷ []) ≡ ws =
    ap (λ (r : Line). map signed_decimal first.0.0 ++ codes "0" ∷ r) tail ∙ (sym (append_assoc (map signed_decimal first.0.0) (codes "0" ∷ []) first.0.1) ∙ l.1) in
    subst (λ (t : LratStep). FitsStep t × (step_words t ≡ decimal id ∷ ws)) end.0 (record { ids = (good, h.0); literals = l.0 }, ap (λ (r : Line). decimal id ∷ r) words)

deletion-tells : (id : ℕ) (ws : Line) (s : LratStep) → IsId id → deletion_of id ws ≡ Some s → FitsStep s × (step_words s ≡ decimal id ∷ codes "d" ∷ ws)
unfolding step_words
deletion-tells id ws s good e =
    let ids = until_parse IsId decimal id_of (codes "0") id_field no-id in
    let first = bind-some (until (codes "0") id_of [] ws) (λ (d : List ℕ × Line). last (Delete id d.0) d.1) s e in
    let end = last-tells (Delete id first.0.0) first.0.1 s first.2 in
    let l = ids.tells ws first.0.0 first.0.1 first.1 in
    let words : map decimal first.0.0 ++ codes "0" ∷ [] ≡ ws = sym (append-nil (map decimal first.0.0 ++ codes "0" ∷ [])) ∙ (ap (λ (r : Line). (map decimal first.0.0 ++ codes "0" ∷ []) ++ r) (sym end.1) ∙ l.1) in
    subst (λ (t : LratStep). FitsStep t × (step_words t ≡ decimal id ∷ codes "d" ∷ ws)) end.0 (record { ids = (good, l.0); literals = tt }, ap (λ (r : Line). decimal id ∷ codes "d" ∷ r) words)

after-tells : (id : ℕ) (ws : Line) (s : LratStep) → IsId id → after_id id ws ≡ Some s → FitsStep s × (step_words s ≡ decimal id ∷ ws)
after-tells id [] s good e = cc
after-tells id (w ∷ ws) s good e =
    let G : Type 0 = FitsStep s × (step_words s ≡ decimal id ∷ w ∷ ws) in
    let step : (t : Bool) → (t ≡ true → w ≡ codes "d") → cond t (deletion_of id ws) (addition_of id (w ∷ ws)) ≡ Some s → G = λ t. elim t as (λ v. (v ≡ true → w ≡ codes "d") → cond v (deletion_of id ws) (addition_of id (w ∷ ws)) ≡ Some s → G) [
      | true ↦ λ h g. let told = deletion-tells id ws s good g in (told.0, told.1 ∙ ap (λ (v : Word). decimal id ∷ v ∷ ws) (sym (h refl)))
      | false ↦ λ h g. addition-tells id (w ∷ ws) s good g
    ] in
    step (bytes_eq w (codes "d")) (bytes_eq-Decides w (codes "d")).0 e

step-tells : (ws : Line) (s : LratStep) → step_of ws ≡ Some s → FitsStep s × (step_words s ≡ ws)
step-tells ws s e =
    let first = bind-some (word id_of ws) (λ (i : ℕ × Line). after_id i.0 i.1) s e in
    let id = (field id_field).tells ws first.0.0 first.0.1 first.1 in
    let rest = after-tells first.0.0 first.0.1 s id.0 first.2 in
    (rest.0, rest.1 ∙ id.1)

-- the words of literals and hints are those of an addition
after-other : (id : ℕ) (w : Word) (ws : Line) → (w ≡ codes "d" → ⊥) → after_id id (w ∷ ws) ≡ addition_of id (w ∷ ws)
after-other id w ws h = ap (λ (t : Bool). cond t (deletion_of id ws) (addition_of id (w ∷ ws))) (words-differ w (codes "d") h)

after-addition : (id : ℕ) (lits : List ℤ) (r : Line) → AllByRecursion IsLiteral lits → after_id id (map signed_decimal lits ++ codes "0" ∷ r) ≡ addition_of id (map signed_decimal lits ++ codes "0" ∷ r)
after-addition id [] r f = after-other id (codes "0") r (λ e. omega (arith, ap (λ (w : Word). get_or w 0 0) e))
after-addition id (z ∷ zs) r f = after-other id (signed_decimal z) (map signed_decimal zs ++ codes "0" ∷ r) (no-letter z (fits-small z f.0.1))

addition-back : (id : ℕ) (lits hints : List ℤ) → AllByRecursion IsLiteral lits → AllByRecursion IsHint hints
    → addition_of id (map signed_decimal lits ++ codes "0" ∷ (map signed_decimal hints ++ codes "0" ∷ [])) ≡ Some (Add id lits hints)
addition-back id lits hints f g =
    let first = until_parse IsLiteral signed_decimal literal_of (codes "0") literal_field literal-apart in
    let second = until_parse IsHint signed_decimal hint_of (codes "0") hint_field hint-apart in
    let behind : (List ℤ × Line) → Option LratStep = λ l. until (codes "0") hint_of [] l.1 >>? λ h. last (Add id l.0 h.0) h.1 in
    let r = map signed_decimal hints ++ codes "0" ∷ [] in
    ap (λ (l : Line). until (codes "0") literal_of [] l >>? behind) (sym (append_assoc (map signed_decimal lits) (codes "0" ∷ []) r))
    ∙ (ap (λ (o : Option (List ℤ × Line)). o >>? behind) (first.back lits r f)
    ∙ (ap (λ (l : Line). until (codes "0") hint_of [] l >>? λ h. last (Add id lits h.0) h.1) (sym (append-nil r)) ∙ ap (λ (o : Option (List ℤ × Line)). o >>? λ h. last (Add id lits h.0) h.1) (second.back hints [] g)))

deletion-back : (id : ℕ) (ids : List ℕ) → AllByRecursion IsId ids → deletion_of id (map decimal ids ++ codes "0" ∷ []) ≡ Some (Delete id ids)
deletion-back id ids f =
    let all = until_parse IsId decimal id_of (codes "0") id_field no-id in
    let r = map decimal ids ++ codes "0" ∷ [] in
    ap (λ (l : Line). until (codes "0") id_of [] l >>? λ d. last (Delete id d.0) d.1) (sym (append-nil r)) ∙ ap (λ (o : Option (List ℕ × Line)). o >>? λ d. last (Delete id d.0) d.1) (all.back ids [] f)

step-back : (s : LratStep) → FitsStep s → step_of (step_words s) ≡ Some s
unfolding step_words
step-back (Add id lits hints) f =
    let r = map signed_decimal hints ++ codes "0" ∷ [] in
    ap (λ (o : Option (ℕ × Line)). o >>? λ i. after_id i.0 i.1) ((field id_field).back id (map signed_decimal lits ++ codes "0" ∷ r) f.ids.0)
    ∙ (after-addition id lits r f.literals ∙ addition-back id lits hints f.literals f.ids.1)
step-back (Delete id ids) f =
    ap (λ (o : Option (ℕ × Line)). o >>? λ i. after_id i.0 i.1) ((field id_field).back id (codes "d" ∷ (map decimal ids ++ codes "0" ∷ [])) f.ids.0) ∙ deletion-back id ids f.ids.1

abbrev first_step : LratStep
first_step = Delete 1 []

step-fits : FitsStep first_step
step-fits = record { ids = ((lit< tt, lit< tt), tt); literals = tt }

step_parse : IsLineParse FitsStep step_words step_of
step_parse = record { plain = step-is_line; tells = step-tells; back = step-back; some = first_step; some_fits = step-fits }

-- ---- a proof
steps : AreItems FitsStep (λ _ s. step_words s ∷ [])
steps = record { each = λ n h. step-is_spelling; some = first_step; some_fits = step-fits }

ids-fit : (p : List LratStep) → AllByRecursion FitsStep p → IsWritable p
ids-fit [] f = tt
ids-fit (s ∷ p) f = (f.0.ids, ids-fit p f.1)

literals-fit : (p : List LratStep) → AllByRecursion FitsStep p → HasProofLiterals p
literals-fit [] f = tt
literals-fit (s ∷ p) f = (f.0.literals, literals-fit p f.1)

steps-fit : (p : List LratStep) → IsWritable p → HasProofLiterals p → AllByRecursion FitsStep p
steps-fit [] ids literals = tt
steps-fit (s ∷ p) ids literals = (record { ids = ids.0; literals = literals.0 }, steps-fit p ids.1 literals.1)

counted-fits : (p : List LratStep) → IsCounted FitsStep p → FitsProof p
counted-fits p f = record { count = f.count; ids = ids-fit p f.items; literals = literals-fit p f.items }

fits-counted : (p : List LratStep) → FitsProof p → IsCounted FitsStep p
fits-counted p f = record { count = f.count; items = steps-fit p f.ids f.literals }

proofs-same : Same (Speak (IsCounted FitsStep) proof_lines) (Speak FitsProof proof_lines)
proofs-same = record {
  there = λ ls s. record { value = s.value; fits = counted-fits s.value s.fits; are = s.are };
  back = λ ls s. record { value = s.value; fits = fits-counted s.value s.fits; are = s.are };
}

pub proof-reads : (p : Place) → ReadsTo FitsProof proof_lines p (proof_read p)
proof-reads p =
    lift-reads (IsCounted FitsStep) proof_lines FitsProof proof_lines p p (proof_read p)
    (section-reads FitsStep (codes "proof") (λ _ s. step_words s ∷ []) (λ _. line_read step_of) p steps (word-from_test (codes "proof") refl)
    (count_parse (codes "proof") (word-from_test (codes "proof") refl)) (λ i s h. line-reads FitsStep step_words step_of s step_parse))
    (λ a s f pass. (counted-fits a f, pass)) (λ e st. stops_same (Speak (IsCounted FitsStep) proof_lines) (Speak FitsProof proof_lines) p e proofs-same st)
