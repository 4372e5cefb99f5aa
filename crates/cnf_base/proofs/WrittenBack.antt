-- A formula's text spells the formula.
use Rattle.std.proofs.Common.{◌≡◌, ◌≢◌, ℕ, ◌<◌, ◌≤◌, ◌^◌, Some, ℤ, pos, nat_abs, List, [], ◌∷◌, ◌++◌, length, map, codes, refl, sym, ap, ◌∙◌, subst, append_assoc, arith}
use Rattle.std.specs.List.{flat_map, AllByRecursion}
use Rattle.std.specs.Fmt.{decimal, signed_decimal}
use Rattle.std.proofs.lemmas.List.{map-append, append-nil}
use Rattle.text_words.specs.Lines.{lines}
use Rattle.text_words.specs.Words.{words, content}
use Rattle.text_words.specs.Numbers.{integer_of}
use Rattle.text_words.specs.declared.words.Separators.TheVariants.{Blanks}
use Rattle.text_words.proofs.Written.{IsInLine, IsGraphic, IsDigit, each-append, each-weaker, graphic-in_line, lines-written, words-written, words-written-last, decimal-digits, decimal-some, signed_decimal-graphic, signed_decimal-some, signed_decimal-low, natural_of-decimal, integer_of-signed_decimal, content-number}
use Rattle.std.proofs.lemmas.List.Elements.{recursion_from_All}
use Rattle.cnf_base.specs.Meaning.{CnfFormula, IsWithin}
use Rattle.cnf_base.specs.Dimacs.{words_of, IsLiteral, IsHeader, BeginsWith, SpellsFormula, closed}
use Rattle.cnf_base.specs.Text.{literal_text, clause_text, formula_text}

-- ---- a clause

abbrev clause_line : List ℤ → List ℕ
clause_line c = flat_map literal_text c ++ codes "0"

clause_text-line : (c : List ℤ) (rest : List ℕ) → clause_text c ++ rest ≡ clause_line c ++ 10 ∷ rest
clause_text-line c rest =
    append_assoc (flat_map literal_text c) (48 ∷ 10 ∷ []) rest ∙ sym (append_assoc (flat_map literal_text c) (48 ∷ []) (10 ∷ rest))

abbrev Fit : ℕ → List ℤ → Type 0
Fit vars c = AllByRecursion (IsLiteral vars) c

small : (vars : ℕ) (l : ℤ) → vars ≤ 4000000 → IsLiteral vars l → nat_abs l < 2 ^ 64
small vars l few lit = omega (arith, lit.variable)

literal-in_line : (vars : ℕ) (l : ℤ) → vars ≤ 4000000 → IsLiteral vars l → AllByRecursion IsInLine (literal_text l)
literal-in_line vars l few lit =
    each-append IsInLine (signed_decimal l) (codes " ") (each-weaker IsGraphic IsInLine graphic-in_line (signed_decimal l) (signed_decimal-graphic l (small vars l few lit))) (((omega arith, omega arith), tt))

line-in_line : (vars : ℕ) (c : List ℤ) → vars ≤ 4000000 → Fit vars c → AllByRecursion IsInLine (clause_line c)
line-in_line vars [] few fit = ((omega arith, omega arith), tt)
line-in_line vars (l ∷ ls) few fit =
    subst (λ (bs : List ℕ). AllByRecursion IsInLine bs) (sym (append_assoc (literal_text l) (flat_map literal_text ls) (codes "0")))
    (each-append IsInLine (literal_text l) (clause_line ls) (literal-in_line vars l few fit.0) (line-in_line vars ls few fit.1))

lines-clauses : (vars : ℕ) (cs : List (List ℤ)) → vars ≤ 4000000 → AllByRecursion (Fit vars) cs → lines (flat_map clause_text cs) ≡ map clause_line cs
lines-clauses vars [] few fit = refl
lines-clauses vars (c ∷ cs) few fit =
    ap lines (clause_text-line c (flat_map clause_text cs))
    ∙ lines-written (clause_line c) (flat_map clause_text cs) (line-in_line vars c few fit.0)
    ∙ ap (λ ls. clause_line c ∷ ls) (lines-clauses vars cs few fit.1)

abbrev clause_words : List ℤ → List (List ℕ)
clause_words c = map signed_decimal c ++ codes "0" ∷ []

line-begins : (l : ℤ) (ls : List ℤ) → clause_line (l ∷ ls) ≡ signed_decimal l ++ 32 ∷ clause_line ls
line-begins l ls = append_assoc (literal_text l) (flat_map literal_text ls) (codes "0") ∙ append_assoc (signed_decimal l) (32 ∷ []) (clause_line ls)

words-line : (vars : ℕ) (c : List ℤ) → vars ≤ 4000000 → Fit vars c → words Blanks (clause_line c) ≡ clause_words c
words-line vars [] few fit = words-written-last Blanks (codes "0") (omega arith) (omega arith, tt)
words-line vars (l ∷ ls) few fit =
    let fits = small vars l few fit.0 in
    ap (words Blanks) (line-begins l ls)
    ∙ words-written Blanks (signed_decimal l) (clause_line ls) (signed_decimal-some l fits) (signed_decimal-graphic l fits)
    ∙ ap (λ ws. signed_decimal l ∷ ws) (words-line vars ls few fit.1)

words_of-line : (vars : ℕ) (c : List ℤ) → vars ≤ 4000000 → Fit vars c → words_of (clause_line c) ≡ clause_words c
words_of-line vars [] few fit = words-line vars [] few fit
words_of-line vars (l ∷ ls) few fit =
    let fits = small vars l few fit.0 in
    ap (content Blanks) (line-begins l ls)
    ∙ content-number Blanks (signed_decimal l) (32 ∷ clause_line ls) (signed_decimal-some l fits) (signed_decimal-low l fits)
    ∙ ap (words Blanks) (sym (line-begins l ls))
    ∙ words-line vars (l ∷ ls) few fit

numbers-line : (vars : ℕ) (c : List ℤ) → vars ≤ 4000000 → Fit vars c → map integer_of (clause_words c) ≡ map (λ z. Some z) (closed c)
numbers-line vars [] few fit = refl
numbers-line vars (l ∷ ls) few fit =
    ap (λ o. o ∷ map integer_of (clause_words ls)) (integer_of-signed_decimal l (small vars l few fit.0))
    ∙ ap (λ os. Some l ∷ os) (numbers-line vars ls few fit.1)

numbers-body : (vars : ℕ) (cs : List (List ℤ)) → vars ≤ 4000000 → AllByRecursion (Fit vars) cs
    → map integer_of (flat_map words_of (map clause_line cs)) ≡ map (λ z. Some z) (flat_map closed cs)
numbers-body vars [] few fit = refl
numbers-body vars (c ∷ cs) few fit =
    let more = flat_map words_of (map clause_line cs) in
    ap (λ ws. map integer_of (ws ++ more)) (words_of-line vars c few fit.0)
    ∙ map-append integer_of (clause_words c) more
    ∙ ap (λ os. os ++ map integer_of more) (numbers-line vars c few fit.0)
    ∙ ap (λ os. map (λ z. Some z) (closed c) ++ os) (numbers-body vars cs few fit.1)
    ∙ sym (map-append (λ (z : ℤ). Some z) (closed c) (flat_map closed cs))

-- ---- the header

abbrev header_line : ℕ → ℕ → List ℕ
header_line v n = codes "p cnf " ++ decimal v ++ codes " " ++ decimal n

header_words : ℕ → ℕ → List (List ℕ)
header_words v n = codes "p" ∷ codes "cnf" ∷ decimal v ∷ decimal n ∷ []

digits-in_line : (n : ℕ) → n < 2 ^ 64 → AllByRecursion IsInLine (decimal n)
digits-in_line n few = each-weaker IsDigit IsInLine (λ b h. (omega arith, omega arith)) (decimal n) (decimal-digits n few)

digits-graphic : (n : ℕ) → n < 2 ^ 64 → AllByRecursion IsGraphic (decimal n)
digits-graphic n few = each-weaker IsDigit IsGraphic (λ b h. omega arith) (decimal n) (decimal-digits n few)

in_line-codes : (bs : List ℕ) → AllByRecursion IsGraphic bs → AllByRecursion IsInLine bs
in_line-codes bs each = each-weaker IsGraphic IsInLine graphic-in_line bs each

header-in_line : (v n : ℕ) → v < 2 ^ 64 → n < 2 ^ 64 → AllByRecursion IsInLine (header_line v n)
header-in_line v n few_v few_n =
    each-append IsInLine (codes "p cnf " ++ decimal v ++ codes " ") (decimal n)
    (each-append IsInLine (codes "p cnf " ++ decimal v) (codes " ")
    (each-append IsInLine (codes "p cnf ") (decimal v) (((omega arith, omega arith), ((omega arith, omega arith), ((omega arith, omega arith), ((omega arith, omega arith), ((omega arith, omega arith), ((omega arith, omega arith), tt))))))) (digits-in_line v few_v))
    ((omega arith, omega arith), tt))
    (digits-in_line n few_n)

words_of-header : (v n : ℕ) → v < 2 ^ 64 → n < 2 ^ 64 → words_of (header_line v n) ≡ codes "p" ∷ codes "cnf" ∷ decimal v ∷ decimal n ∷ []
words_of-header v n few_v few_n =
    let last = words-written-last Blanks (decimal n) (decimal-some n few_n) (digits-graphic n few_n) in
    let third = words-written Blanks (decimal v) (decimal n) (decimal-some v few_v) (digits-graphic v few_v) in
    let second = words-written Blanks (codes "cnf") (decimal v ++ 32 ∷ decimal n) (omega arith) (omega arith, (omega arith, (omega arith, tt))) in
    let first = words-written Blanks (codes "p") (codes "cnf" ++ 32 ∷ (decimal v ++ 32 ∷ decimal n)) (omega arith) (omega arith, tt) in
    let regrouped : header_line v n ≡ codes "p" ++ 32 ∷ (codes "cnf" ++ 32 ∷ (decimal v ++ 32 ∷ decimal n)) =
    ap (λ bs. 112 ∷ 32 ∷ 99 ∷ 110 ∷ 102 ∷ 32 ∷ bs) (append_assoc (decimal v) (32 ∷ []) (decimal n)) in
    ap (words Blanks) regrouped
    ∙ first
    ∙ ap (λ ws. codes "p" ∷ ws) second
    ∙ ap (λ ws. codes "p" ∷ codes "cnf" ∷ ws) third
    ∙ ap (λ ws. codes "p" ∷ codes "cnf" ∷ decimal v ∷ ws) last

lines-formula : (f : CnfFormula) → f.vars ≤ 4000000 → length f.clauses ≤ 20000000 → AllByRecursion (Fit f.vars) f.clauses
    → lines (formula_text f) ≡ header_line f.vars (length f.clauses) ∷ map clause_line f.clauses
lines-formula f few_vars few_clauses fit =
    let v = f.vars in
    let n = length f.clauses in
    ap lines (append_assoc (header_line v n) (10 ∷ []) (flat_map clause_text f.clauses))
    ∙ lines-written (header_line v n) (flat_map clause_text f.clauses) (header-in_line v n (omega arith) (omega arith))
    ∙ ap (λ ls. header_line v n ∷ ls) (lines-clauses v f.clauses few_vars fit)

-- ---- the whole text

pub formula_text-spells : (f : CnfFormula) → f.vars ≤ 4000000 → length f.clauses ≤ 20000000 → AllByRecursion (Fit f.vars) f.clauses → SpellsFormula (formula_text f) f
formula_text-spells f few_vars few_clauses fit =
    let v = f.vars in
    let n = length f.clauses in
    let body = map clause_line f.clauses in
    let ws = codes "p" ∷ codes "cnf" ∷ decimal v ∷ decimal n ∷ [] in
    let header : IsHeader ws v n = record { third = decimal v; fourth = decimal n; form = refl; variables = natural_of-decimal v (omega arith); count = natural_of-decimal n (omega arith) } in
    let begins : BeginsWith (formula_text f) ws 1 body = record {
      before = [];
      first = header_line v n;
      parts = lines-formula f few_vars few_clauses fit;
      blank = tt;
      some = λ e. cc;
      spelled = words_of-header v n (omega arith) (omega arith);
      place = omega arith;
    } in
    record {
      header_line = 1;
      body = body;
      headed = record { words = ws; begins = begins; header = header; few_vars = few_vars; few_clauses = few_clauses };
      spelled = record {
        numbers = numbers-body v f.clauses few_vars fit ∙ ap (map (λ z. Some z)) (sym (append-nil (flat_map closed f.clauses)));
        literals = fit;
        last = tt;
      };
      room = omega arith;
    }

-- ---- literals that are in range and not 0

fit-clause : (vars : ℕ) (c : List ℤ) → AllByRecursion (λ l. l ≢ pos 0) c → AllByRecursion (λ l. nat_abs l ≤ vars) c → Fit vars c
fit-clause vars [] some few = tt
fit-clause vars (l ∷ ls) some few = (record { not_zero = some.0; variable = few.0 }, fit-clause vars ls some.1 few.1)

pub fit-clauses : (vars : ℕ) (cs : List (List ℤ)) → AllByRecursion (AllByRecursion (λ l. l ≢ pos 0)) cs → AllByRecursion (IsWithin vars) cs → AllByRecursion (Fit vars) cs
fit-clauses vars [] some few = tt
fit-clauses vars (c ∷ cs) some few = (fit-clause vars c some.0 (recursion_from_All (λ l. nat_abs l ≤ vars) c few.0), fit-clauses vars cs some.1 few.1)
