-- Certificates are read as their lines tell them.
use Rattle.std.proofs.Common.{lit<, ◌≡◌, ℕ, zero, suc, ◌+◌, ◌-◌, ◌<◌, ◌≤◌, ◌^◌, ℤ, List, [], ◌∷◌, ◌++◌, map, length, replicate, refl, sym, ap, ◌∙◌, subst, arith, Ok, Err}
use Rattle.std.specs.Prelude.{codes}
use Rattle.std.specs.List.{AllByRecursion}
use Rattle.std.proofs.lemmas.List.{length-replicate, map-append, length-map}
use Rattle.lrat_text.specs.declared.proof.LratStep.{LratStep}
use Rattle.report_text.specs.declared.report.Inv.{Inv}
use Rattle.report_text.specs.Form.{IsCounted, FitsProof, FitsClause, FitsInv}
use Rattle.report_text.specs.Text.{Line, number_words, numbered_lines, proof_lines, clause_words, kept_lines, inv_lines, invs_lines}
use Rattle.report_text.proofs.Lines.{word-from_test}
use Rattle.report_text.proofs.Pieces.{IsSpelling, one_line}
use Rattle.report_text.proofs.ClauseLines.{clause-is_line, clause-tells, inv-is_spelling}
use Rattle.report_text.proofs.ProofLines.{proof-is_spelling}
use Rattle.report_lines.specs.Words.{count_in}
use Rattle.report_lines.specs.Reading.{Place, Read, ◌>>=◌, line_read, items_read}
use Rattle.report_sections.specs.Items.{HasItems}
use Rattle.report_sections.specs.Pieces.{Speak, Passes, ReadsTo, one}
use Rattle.report_sections.specs.Proofs.{clause_of, proof_read}
use Rattle.report_sections.specs.Certs.{kept_from, inv_read, invs_read}
use Rattle.report_sections.proofs.Stops.{Same, stops_same}
use Rattle.report_sections.proofs.Sections.{AreItems, IsSmall, count_lines, count-is_spelling, passes_none}
use Rattle.report_sections.proofs.LineWords.{line-reads}
use Rattle.report_sections.proofs.Numbers.{count_parse}
use Rattle.report_sections.proofs.ProofRead.{clause_parse, proof-reads}
use Rattle.report_sections.proofs.Combine.{bind-reads, items-reads, section-reads, Leads, leads-reads}

-- ---- one clause more, and the last one
pub kept_more : (i n : ℕ) (cs : List (List ℤ)) (ps : List (List LratStep)) (p : Place) → i < n
    → kept_from (n - i) cs ps p ≡ (line_read clause_of p >>= λ c. proof_read c.1 >>= λ q. kept_from (n - (i + 1)) (cs ++ c.0 ∷ []) (ps ++ q.0 ∷ []) q.1)
kept_more i n cs ps p h = let size : n - i ≡ suc (n - (i + 1)) = omega arith in ap (λ (m : ℕ). kept_from m cs ps p) size

pub kept_done : (i n : ℕ) (cs : List (List ℤ)) (ps : List (List LratStep)) (p : Place) → n ≤ i → kept_from (n - i) cs ps p ≡ Ok (record { clauses = cs; kept = ps }, p)
kept_done i n cs ps p h = let size : n - i ≡ 0 = omega arith in ap (λ (m : ℕ). kept_from m cs ps p) size

pub ruleset kept_steps = (kept_more, kept_done)

-- ---- a clause with its proof
abbrev Kept : Type 0
Kept = List ℤ × List LratStep

abbrev FitsKept : Kept → Type 0
FitsKept t = FitsClause t.0 × FitsProof t.1

abbrev pair_lines : Kept → List Line
pair_lines t = clause_words t.0 ∷ proof_lines t.1

abbrev pair_rest : List ℤ × Place → Read Kept
pair_rest c = proof_read c.1 >>= λ q. Ok ((c.0, q.0), q.1)

abbrev pair_read : Place → Read Kept
pair_read p = line_read clause_of p >>= pair_rest

pub no-proof : FitsProof []
no-proof = record { count = lit< tt; ids = tt; literals = tt }

pair-leads : Leads FitsClause (one clause_words) FitsKept pair_lines (λ (t : Kept). t.0) (λ (t : Kept). proof_lines t.1)
pair-leads = record {
  fits = λ t f. f.0;
  are = λ t f. refl;
  plain = λ t f. proof-is_spelling.plain t.1 f.1;
  some = λ c f. (c, []);
  some_fits = λ c f. (f, no-proof);
  some_head = λ c f. refl;
}

rest-same : (c : List ℤ) → FitsClause c → Same (Speak FitsProof proof_lines) (Speak (λ (t : Kept). FitsKept t × (t.0 ≡ c)) (λ (t : Kept). proof_lines t.1))
rest-same c f = record {
  there = λ ls s. record { value = (c, s.value); fits = ((f, s.fits), refl); are = s.are };
  back = λ ls s. record { value = s.value.1; fits = s.fits.0.1; are = s.are };
}

pair-rest-reads : (c : List ℤ) (p : Place) → FitsClause c → ReadsTo (λ (t : Kept). FitsKept t × (t.0 ≡ c)) (λ (t : Kept). proof_lines t.1) p (pair_rest (c, p))
pair-rest-reads c p f =
    bind-reads FitsProof proof_lines (λ (t : Kept). FitsKept t × (t.0 ≡ c)) (λ (t : Kept). proof_lines t.1) p p (proof_read p) (λ q. Ok ((c, q.0), q.1)) (proof-reads p)
    (λ q s g pass. (((f, g), refl), pass)) (λ e st. stops_same (Speak FitsProof proof_lines) (Speak (λ (t : Kept). FitsKept t × (t.0 ≡ c)) (λ (t : Kept). proof_lines t.1)) p e (rest-same c f) st)

pub clause-is_spelling : IsSpelling FitsClause (one clause_words)
clause-is_spelling = one_line FitsClause clause_words clause-is_line clause-tells

pair-reads : (p : Place) → ReadsTo FitsKept pair_lines p (pair_read p)
pair-reads p =
    leads-reads FitsClause (one clause_words) FitsKept pair_lines (λ (t : Kept). t.0) (λ (t : Kept). proof_lines t.1) p (line_read clause_of p) pair_rest clause-is_spelling pair-leads
    (line-reads FitsClause clause_words clause_of p clause_parse) (λ c s f _. pair-rest-reads c s f)

pair-tells : (t u : Kept) (x y : List Line) → FitsKept t → FitsKept u → pair_lines t ++ x ≡ pair_lines u ++ y → (t ≡ u) × (x ≡ y)
pair-tells t u x y f g e =
    let first = clause-is_spelling.tells t.0 u.0 (proof_lines t.1 ++ x) (proof_lines u.1 ++ y) f.0 g.0 e in
    let rest = proof-is_spelling.tells t.1 u.1 x y f.1 g.1 first.1 in
    let same : t ≡ u = λ i. (first.0 i, rest.0 i) in
    (same, rest.1)

pair-is_spelling : IsSpelling FitsKept pair_lines
pair-is_spelling = record { plain = λ t f. (clause-is_line t.0 f.0, proof-is_spelling.plain t.1 f.1); tells = pair-tells }

pairs : AreItems FitsKept (λ _ t. pair_lines t)
pairs = record { each = λ n h. pair-is_spelling; some = ([], []); some_fits = (tt, no-proof) }

-- ---- clauses with their proofs, as two lists
abbrev clauses_in : List Kept → List (List ℤ)
clauses_in ts = map (λ (t : Kept). t.0) ts

abbrev proofs_in : List Kept → List (List LratStep)
proofs_in ts = map (λ (t : Kept). t.1) ts

abbrev to_inv : List Kept → Inv
to_inv ts = record { clauses = clauses_in ts; kept = proofs_in ts }

abbrev joined : List (List ℤ) → List (List LratStep) → List Kept
joined [] ps = []
joined (c ∷ cs) [] = []
joined (c ∷ cs) (p ∷ ps) = (c, p) ∷ joined cs ps

abbrev inv_end : List Kept × Place → Read Inv
inv_end r = Ok (to_inv r.0, r.1)

kept-is : (n k : ℕ) (ts : List Kept) (p : Place) → kept_from n (clauses_in ts) (proofs_in ts) p ≡ (items_read (λ _. pair_read) k n ts p >>= inv_end)
kept-is zero k ts p = refl
kept-is (suc n) k ts p =
    let next : Kept × Place → Read (List Kept) = λ a. items_read (λ _. pair_read) (k + 1) n (ts ++ a.0 ∷ []) a.1 in
    let left : List ℤ → List LratStep × Place → Read Inv = λ c q. kept_from n (clauses_in ts ++ c ∷ []) (proofs_in ts ++ q.0 ∷ []) q.1 in
    let one_more : (c : List ℤ) (q : List LratStep × Place) → left c q ≡ (next ((c, q.0), q.1) >>= inv_end) = λ c q.
    ap (λ (cs : List (List ℤ)). kept_from n cs (proofs_in ts ++ q.0 ∷ []) q.1) (sym (map-append (λ (t : Kept). t.0) ts ((c, q.0) ∷ [])))
    ∙ (ap (λ (ps : List (List LratStep)). kept_from n (clauses_in (ts ++ (c, q.0) ∷ [])) ps q.1) (sym (map-append (λ (t : Kept). t.1) ts ((c, q.0) ∷ [])))
    ∙ kept-is n (k + 1) (ts ++ (c, q.0) ∷ []) q.1) in
    let proofs : (c : List ℤ) (r : Read (List LratStep)) → (r >>= left c) ≡ (((r >>= λ q. Ok ((c, q.0), q.1)) >>= next) >>= inv_end) = λ c r. elim r as (λ s. (s >>= left c) ≡ (((s >>= λ q. Ok ((c, q.0), q.1)) >>= next) >>= inv_end)) [
      | Ok q ↦ one_more c q
      | Err e ↦ refl
    ] in
    let lines : (r : Read (List ℤ)) → (r >>= λ c. proof_read c.1 >>= left c.0) ≡ (((r >>= pair_rest) >>= next) >>= inv_end) = λ r. elim r as (λ s. (s >>= λ c. proof_read c.1 >>= left c.0) ≡ (((s >>= pair_rest) >>= next) >>= inv_end)) [
      | Ok c ↦ proofs c.0 (proof_read c.1)
      | Err e ↦ refl
    ] in
    lines (line_read clause_of p)

numbered-is : (k : ℕ) (ts : List Kept) → numbered_lines (λ _ t. pair_lines t) k ts ≡ kept_lines (clauses_in ts) (proofs_in ts)
numbered-is k [] = refl
numbered-is k (t ∷ ts) = ap (λ (ls : List Line). pair_lines t ++ ls) (numbered-is (k + 1) ts)

clauses-joined : (cs : List (List ℤ)) (ps : List (List LratStep)) → length ps ≡ length cs → clauses_in (joined cs ps) ≡ cs
clauses-joined [] ps h = refl
clauses-joined (c ∷ cs) [] h = absurd (omega arith)
clauses-joined (c ∷ cs) (p ∷ ps) h = ap (λ (ds : List (List ℤ)). c ∷ ds) (clauses-joined cs ps (omega arith))

proofs-joined : (cs : List (List ℤ)) (ps : List (List LratStep)) → length ps ≡ length cs → proofs_in (joined cs ps) ≡ ps
proofs-joined [] [] h = refl
proofs-joined [] (p ∷ ps) h = absurd (omega arith)
proofs-joined (c ∷ cs) [] h = absurd (omega arith)
proofs-joined (c ∷ cs) (p ∷ ps) h = ap (λ (qs : List (List LratStep)). p ∷ qs) (proofs-joined cs ps (omega arith))

joined-fit : (cs : List (List ℤ)) (ps : List (List LratStep)) → AllByRecursion FitsClause cs → AllByRecursion FitsProof ps → AllByRecursion FitsKept (joined cs ps)
joined-fit [] ps f g = tt
joined-fit (c ∷ cs) [] f g = tt
joined-fit (c ∷ cs) (p ∷ ps) f g = ((f.0, g.0), joined-fit cs ps f.1 g.1)

clauses-fit : (ts : List Kept) → AllByRecursion FitsKept ts → AllByRecursion FitsClause (clauses_in ts)
clauses-fit [] f = tt
clauses-fit (t ∷ ts) f = (f.0.0, clauses-fit ts f.1)

proofs-fit : (ts : List Kept) → AllByRecursion FitsKept ts → AllByRecursion FitsProof (proofs_in ts)
proofs-fit [] f = tt
proofs-fit (t ∷ ts) f = (f.0.1, proofs-fit ts f.1)

-- a certificate with so many clauses
abbrev HasClauses : ℕ → Inv → Type 0
HasClauses n v = FitsInv v × (length v.clauses ≡ n)

abbrev inv_body : Inv → List Line
inv_body v = kept_lines v.clauses v.kept

inv-of : (n : ℕ) (ts : List Kept) → n < 2 ^ 32 → HasItems FitsKept n ts → HasClauses n (to_inv ts)
inv-of n ts h has = (
  record {
    clauses = record { count = omega (arith, length-map ts (λ (t : Kept). t.0), has.size); each = clauses-fit ts has.each };
    size = length-map ts (λ (t : Kept). t.1) ∙ sym (length-map ts (λ (t : Kept). t.0));
    kept = proofs-fit ts has.each;
  },
  length-map ts (λ (t : Kept). t.0) ∙ has.size,
)

joined-has : (n : ℕ) (v : Inv) → HasClauses n v → HasItems FitsKept n (joined v.clauses v.kept)
joined-has n v f = record {
  size = sym (length-map (joined v.clauses v.kept) (λ (t : Kept). t.0)) ∙ (ap length (clauses-joined v.clauses v.kept f.0.size) ∙ f.1);
  each = joined-fit v.clauses v.kept f.0.clauses.each f.0.kept;
}

joined-lines : (v : Inv) → FitsInv v → numbered_lines (λ _ t. pair_lines t) 0 (joined v.clauses v.kept) ≡ inv_body v
joined-lines v f =
    numbered-is 0 (joined v.clauses v.kept) ∙ (ap (λ (cs : List (List ℤ)). kept_lines cs (proofs_in (joined v.clauses v.kept))) (clauses-joined v.clauses v.kept f.size) ∙ ap (λ (ps : List (List LratStep)). kept_lines v.clauses ps) (proofs-joined v.clauses v.kept f.size))

body-same : (n : ℕ) → n < 2 ^ 32 → Same (Speak (HasItems FitsKept n) (numbered_lines (λ _ t. pair_lines t) 0)) (Speak (HasClauses n) inv_body)
body-same n h = record {
  there = λ ls s. record { value = to_inv s.value; fits = inv-of n s.value h s.fits; are = sym (numbered-is 0 s.value) ∙ s.are };
  back = λ ls s. record { value = joined s.value.clauses s.value.kept; fits = joined-has n s.value s.fits; are = joined-lines s.value s.fits.0 ∙ s.are };
}

body-reads : (n : ℕ) (p : Place) → n < 2 ^ 32 → ReadsTo (HasClauses n) inv_body p (kept_from n [] [] p)
body-reads n p h =
    subst (λ (r : Read Inv). ReadsTo (HasClauses n) inv_body p r) (sym (kept-is n 0 [] p))
    (bind-reads (HasItems FitsKept n) (numbered_lines (λ _ t. pair_lines t) 0) (HasClauses n) inv_body p p (items_read (λ _. pair_read) 0 n [] p) inv_end
    (items-reads FitsKept (λ _ t. pair_lines t) (λ _. pair_read) n 0 n [] p p pairs (λ i s small. pair-reads s) (omega arith) h (record { size = refl; each = tt; pass = passes_none p }))
    (λ ts s has pass. (inv-of n ts h has, subst (λ (ls : List Line). Passes ls p s) (numbered-is 0 ts) pass))
    (λ e st. stops_same (Speak (HasItems FitsKept n) (numbered_lines (λ _ t. pair_lines t) 0)) (Speak (HasClauses n) inv_body) p e (body-same n h) st))

-- ---- a certificate
pub all-same : {A : Type 0} (Fits : A → Type 0) (n : ℕ) (a : A) → Fits a → AllByRecursion Fits (replicate n a)
all-same Fits zero a f = tt
all-same Fits (suc n) a f = (f, all-same Fits n a f)

abbrev empty_inv : ℕ → Inv
empty_inv n = record { clauses = replicate n []; kept = replicate n [] }

pub no_literals : FitsClause []
no_literals = tt

empty-fits : (n : ℕ) → n < 2 ^ 32 → FitsInv (empty_inv n)
empty-fits n h =
    let clauses : length (replicate n (let c : List ℤ = [] in c)) ≡ n = length-replicate n (let c : List ℤ = [] in c) in
    let proofs : length (replicate n (let q : List LratStep = [] in q)) ≡ n = length-replicate n (let q : List LratStep = [] in q) in
    record {
      clauses = record { count = omega arith; each = all-same FitsClause n [] no_literals };
      size = proofs ∙ sym clauses;
      kept = all-same FitsProof n [] no-proof;
    }

inv-leads : Leads IsSmall (count_lines (codes "inv")) FitsInv inv_lines (λ v. length v.clauses) inv_body
unfolding inv_lines
inv-leads = record {
  fits = λ v f. f.clauses.count;
  are = λ v f. refl;
  plain = λ v f. (inv-is_spelling.plain v f).1;
  some = λ n h. empty_inv n;
  some_fits = λ n h. empty-fits n h;
  some_head = λ n h. length-replicate n (let c : List ℤ = [] in c);
}

inv-reads : (p : Place) → ReadsTo FitsInv inv_lines p (inv_read p)
inv-reads p =
    leads-reads IsSmall (count_lines (codes "inv")) FitsInv inv_lines (λ v. length v.clauses) inv_body p (line_read (count_in (codes "inv")) p) (λ n. kept_from n.0 [] [] n.1)
    (count-is_spelling (codes "inv") (word-from_test (codes "inv") refl)) inv-leads
    (line-reads IsSmall (λ n. number_words (codes "inv") (n ∷ [])) (count_in (codes "inv")) p (count_parse (codes "inv") (word-from_test (codes "inv") refl))) (λ n s h _. body-reads n s h)

certificates : AreItems FitsInv (λ _ v. inv_lines v)
certificates = record { each = λ n h. inv-is_spelling; some = empty_inv 0; some_fits = empty-fits 0 (lit< tt) }

pub invs-reads : (p : Place) → ReadsTo (IsCounted FitsInv) invs_lines p (invs_read p)
invs-reads p =
    section-reads FitsInv (codes "invs") (λ _ v. inv_lines v) (λ _. inv_read) p certificates (word-from_test (codes "invs") refl) (count_parse (codes "invs") (word-from_test (codes "invs") refl))
    (λ i s h. inv-reads s)
