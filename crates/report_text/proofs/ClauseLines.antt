-- The lines of clauses and certificates tell them.
use Rattle.std.proofs.Common.{◌≡◌, ℤ, pos, List, [], ◌∷◌, ◌++◌, map, length, refl, sym, ◌∙◌, append_assoc, arith}
use Rattle.std.specs.Prelude.{codes}
use Rattle.std.specs.List.{AllByRecursion}
use Rattle.std.specs.Fmt.{signed_decimal}
use Rattle.std.proofs.lemmas.Fmt.{decimal_digit}
use Rattle.lrat_text.specs.declared.proof.LratStep.{LratStep}
use Rattle.lrat_text.specs.Lrat.{IsLiteral}
use Rattle.lrat_text.proofs.Items.{fits-small}
use Rattle.report_text.specs.declared.report.Inv.{Inv}
use Rattle.report_text.specs.Form.{IsCounted, FitsProof, FitsClause, FitsInv}
use Rattle.report_text.specs.Text.{Line, number_words, proof_lines, clause_words, kept_lines, inv_lines, invs_lines}
use Rattle.report_text.proofs.Lines.{IsWord, IsLine, AreLines, word-from_test}
use Rattle.report_text.proofs.Words.{signed-is_word, signed-injective}
use Rattle.report_text.proofs.Pieces.{IsSpelling, all-append, number_words-is_line, number_words-tells, section-is_spelling}
use Rattle.report_text.proofs.ProofLines.{literals-are_words, proof-is_spelling}

-- ---- a clause
pub clause-is_line : (c : List ℤ) → FitsClause c → IsLine (clause_words c)
unfolding clause_words
clause-is_line [] f = (word-from_test (codes "0") refl, tt)
clause-is_line (z ∷ zs) f = (
  signed-is_word z (fits-small z f.0.1),
  all-append IsWord (map signed_decimal zs) (codes "0" ∷ []) (literals-are_words zs f.1) (word-from_test (codes "0") refl, tt),
)

no_literal : (z : ℤ) → IsLiteral z → codes "0" ≡ signed_decimal z → ⊥
no_literal z h e =
    let zero : signed_decimal (pos 0) ≡ signed_decimal z = decimal_digit 0 (omega arith) ∙ e in
    h.0 (sym (signed-injective (pos 0) z (omega arith) (fits-small z h.1) zero))

literals-tell : (a b : List ℤ) → FitsClause a → FitsClause b → map signed_decimal a ++ codes "0" ∷ [] ≡ map signed_decimal b ++ codes "0" ∷ [] → a ≡ b
literals-tell [] [] f g e = refl
literals-tell [] (z ∷ b) f g e = let heads : codes "0" ≡ signed_decimal z = cc in absurd (no_literal z g.0 heads)
literals-tell (y ∷ a) [] f g e = let heads : codes "0" ≡ signed_decimal y = cc in absurd (no_literal y f.0 heads)
literals-tell (y ∷ a) (z ∷ b) f g e =
    let heads : signed_decimal y ≡ signed_decimal z = cc in
    let tails : map signed_decimal a ++ codes "0" ∷ [] ≡ map signed_decimal b ++ codes "0" ∷ [] = cc in
    let head : y ≡ z = signed-injective y z (fits-small y f.0.1) (fits-small z g.0.1) heads in
    let tail : a ≡ b = literals-tell a b f.1 g.1 tails in
    cc

pub clause-tells : (a b : List ℤ) → FitsClause a → FitsClause b → clause_words a ≡ clause_words b → a ≡ b
unfolding clause_words
clause-tells a b f g e = literals-tell a b f g e

-- ---- clauses, each with its proof
kept-plain : (cs : List (List ℤ)) (ps : List (List LratStep)) → AllByRecursion FitsClause cs → AllByRecursion FitsProof ps → AreLines (kept_lines cs ps)
kept-plain [] ps f g = tt
kept-plain (c ∷ cs) [] f g = tt
kept-plain (c ∷ cs) (p ∷ ps) f g = (
  clause-is_line c f.0,
  all-append IsLine (proof_lines p) (kept_lines cs ps) (proof-is_spelling.plain p g.0) (kept-plain cs ps f.1 g.1),
)

kept-tell : (cs ds : List (List ℤ)) (ps qs : List (List LratStep)) (x y : List Line) → length cs ≡ length ds → length ps ≡ length cs → length qs ≡ length ds
    → AllByRecursion FitsClause cs → AllByRecursion FitsClause ds → AllByRecursion FitsProof ps → AllByRecursion FitsProof qs
    → kept_lines cs ps ++ x ≡ kept_lines ds qs ++ y → (cs ≡ ds) × (ps ≡ qs) × (x ≡ y)
kept-tell [] [] [] [] x y size m n f g h k e = (refl, refl, e)
kept-tell [] [] (p ∷ ps) qs x y size m n f g h k e = absurd (omega arith)
kept-tell [] [] [] (q ∷ qs) x y size m n f g h k e = absurd (omega arith)
kept-tell [] (d ∷ ds) ps qs x y size m n f g h k e = absurd (omega arith)
kept-tell (c ∷ cs) [] ps qs x y size m n f g h k e = absurd (omega arith)
kept-tell (c ∷ cs) (d ∷ ds) [] qs x y size m n f g h k e = absurd (omega arith)
kept-tell (c ∷ cs) (d ∷ ds) (p ∷ ps) [] x y size m n f g h k e = absurd (omega arith)
kept-tell (c ∷ cs) (d ∷ ds) (p ∷ ps) (q ∷ qs) x y size m n f g h k e =
    let heads : clause_words c ≡ clause_words d = cc in
    let joined : (proof_lines p ++ kept_lines cs ps) ++ x ≡ (proof_lines q ++ kept_lines ds qs) ++ y = cc in
    let tails = sym (append_assoc (proof_lines p) (kept_lines cs ps) x) ∙ (joined ∙ append_assoc (proof_lines q) (kept_lines ds qs) y) in
    let first = proof-is_spelling.tells p q (kept_lines cs ps ++ x) (kept_lines ds qs ++ y) h.0 k.0 tails in
    let rest = kept-tell cs ds ps qs x y (omega arith) (omega arith) (omega arith) f.1 g.1 h.1 k.1 first.1 in
    let clause : c ≡ d = clause-tells c d f.0 g.0 heads in
    let clauses : cs ≡ ds = rest.0 in
    let proof : p ≡ q = first.0 in
    let proofs : ps ≡ qs = rest.1 in
    (cc, cc, rest.2)

-- ---- certificates
inv-plain : (i : Inv) → FitsInv i → AreLines (inv_lines i)
unfolding inv_lines
inv-plain i f = (
  number_words-is_line (codes "inv") (length i.clauses ∷ []) (word-from_test (codes "inv") refl) (omega (arith, f.clauses.count), tt),
  kept-plain i.clauses i.kept f.clauses.each f.kept,
)

inv-tells : (i j : Inv) (x y : List Line) → FitsInv i → FitsInv j → inv_lines i ++ x ≡ inv_lines j ++ y → (i ≡ j) × (x ≡ y)
unfolding inv_lines
inv-tells i j x y f g e =
    let heads : number_words (codes "inv") (length i.clauses ∷ []) ≡ number_words (codes "inv") (length j.clauses ∷ []) = cc in
    let sizes : length i.clauses ∷ [] ≡ length j.clauses ∷ [] = number_words-tells (codes "inv") (length i.clauses ∷ []) (length j.clauses ∷ []) (omega (arith, f.clauses.count), tt) (omega (arith, g.clauses.count), tt) heads in
    let size : length i.clauses ≡ length j.clauses = cc in
    let tails : kept_lines i.clauses i.kept ++ x ≡ kept_lines j.clauses j.kept ++ y = cc in
    let all = kept-tell i.clauses j.clauses i.kept j.kept x y size f.size g.size f.clauses.each g.clauses.each f.kept g.kept tails in
    let same : i ≡ j = λ k. record { clauses = all.0 k; kept = all.1 k } in
    (same, all.2)

pub inv-is_spelling : IsSpelling FitsInv inv_lines
inv-is_spelling = record { plain = inv-plain; tells = inv-tells }

pub invs-is_spelling : IsSpelling (IsCounted FitsInv) invs_lines
invs-is_spelling =
    section-is_spelling FitsInv (codes "invs") (λ _ i. inv_lines i) (word-from_test (codes "invs") refl) (λ n h. inv-is_spelling)
