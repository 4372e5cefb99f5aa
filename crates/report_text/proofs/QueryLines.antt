-- The lines of queries tell them.
use Rattle.std.proofs.Common.{◌≡◌, ℕ, ◌<◌, ◌^◌, ℤ, List, [], ◌∷◌, ◌++◌, length, get_or, refl, sym, ap, ◌∙◌, append_assoc, arith}
use Rattle.std.specs.Prelude.{codes}
use Rattle.std.specs.List.{AllByRecursion}
use Rattle.report_text.specs.declared.report.BlockName.{BlockName}
use Rattle.report_text.specs.declared.report.BlockName.TheVariants as names
use Rattle.report_text.specs.declared.report.Block.{Block}
use Rattle.report_text.specs.Form.{IsCounted, FitsClause, FitsClauses, FitsBlocked, FitsSearch, FitsQuery, FitsSpent, FitsRefute}
use Rattle.report_text.specs.Text.{Word, Line, proof_lines, clauses_lines, clause_words, name_words, blocked_words, part_lines, query_lines, spents_lines, refutes_lines}
use Rattle.report_text.proofs.Lines.{◌&◌, IsWord, IsLine, AreLines, word-from_test}
use Rattle.report_text.proofs.Words.{AreNumbers}
use Rattle.report_text.proofs.Pieces.{IsSpelling, all-append, lines-plain, lines-tell, number_words-is_line, number_words-tells, section-is_spelling}
use Rattle.report_text.proofs.ClauseLines.{clause-is_line, clause-tells}
use Rattle.report_text.proofs.ProofLines.{proof-is_spelling}

-- ---- the goals that a search leaves out
goals-are_numbers : (goals : List ℕ) → AllByRecursion (λ goal. goal < 2 ^ 32) goals → AreNumbers goals
goals-are_numbers [] h = tt
goals-are_numbers (g ∷ goals) h = (let small = h.0 in omega arith, goals-are_numbers goals h.1)

blocked-are_numbers : (goals : List ℕ) → FitsBlocked goals → AreNumbers (length goals ∷ goals)
blocked-are_numbers goals f = (omega (arith, f.count), goals-are_numbers goals f.each)

blocked-is_line : (goals : List ℕ) → FitsBlocked goals → IsLine (blocked_words goals)
unfolding blocked_words
blocked-is_line goals f = number_words-is_line (codes "blocked") (length goals ∷ goals) (word-from_test (codes "blocked") refl) (blocked-are_numbers goals f)

blocked-tells : (goals more : List ℕ) → FitsBlocked goals → FitsBlocked more → blocked_words goals ≡ blocked_words more → goals ≡ more
unfolding blocked_words
blocked-tells goals more f g e =
    let both : length goals ∷ goals ≡ length more ∷ more = number_words-tells (codes "blocked") (length goals ∷ goals) (length more ∷ more) (blocked-are_numbers goals f) (blocked-are_numbers more g) e in
    cc

-- ---- clauses, of which the line before tells how many they are
clauses-plain : (cs : List (List ℤ)) → FitsClauses cs → AreLines (clauses_lines cs)
clauses-plain cs f = lines-plain FitsClause clause_words clause-is_line cs f.each

clauses-tell : (cs ds : List (List ℤ)) (x y : List Line) → length cs ≡ length ds → FitsClauses cs → FitsClauses ds → clauses_lines cs ++ x ≡ clauses_lines ds ++ y → (cs ≡ ds) × (x ≡ y)
clauses-tell cs ds x y size f g e = lines-tell FitsClause clause_words clause-tells cs ds x y size f.each g.each e

-- ---- a name with what belongs to it
query-is_line : (w : Word) (n : BlockName) (goals : List ℕ) → IsWord w → FitsQuery n goals → IsLine (w ∷ name_words n)
unfolding name_words
query-is_line w (names.Sweep t) goals p f = (p, number_words-is_line (codes "sweep") (t ∷ []) (word-from_test (codes "sweep") refl) (let a = f.0 in (omega arith) & tt))
query-is_line w (names.Hop b t) goals p f = (p, number_words-is_line (codes "hop") (b ∷ t ∷ []) (word-from_test (codes "hop") refl) (let a = f.0 in let c = f.1 in (omega arith) & (omega arith) & tt))
query-is_line w (names.Kept i cs) goals p f = (p, number_words-is_line (codes "kept") (i ∷ length cs ∷ []) (word-from_test (codes "kept") refl) (let a = f.0 in (omega arith) & (omega (arith, f.1.count)) & tt))
query-is_line w (names.Excludes g cs) goals p f = (p, number_words-is_line (codes "excludes") (g ∷ length cs ∷ []) (word-from_test (codes "excludes") refl) (let a = f.0 in (omega arith) & (omega (arith, f.1.count)) & tt))

part-plain : (n : BlockName) (goals : List ℕ) → FitsQuery n goals → AreLines (part_lines n goals)
unfolding part_lines
part-plain (names.Sweep t) goals f = (blocked-is_line goals f.1, tt)
part-plain (names.Hop b t) goals f = (blocked-is_line goals f.2, tt)
part-plain (names.Kept i cs) goals f = clauses-plain cs f.1
part-plain (names.Excludes g cs) goals f = clauses-plain cs f.1

-- the names' first bytes differ
name_byte : Line → ℕ
name_byte l = get_or (get_or l 0 []) 0 0

-- the names and what belongs to them agree, and so does what follows
record AreSameParts (m n : BlockName) (goals more : List ℕ) (x y : List Line) : Type 0 where
  name : m ≡ n
  blocked : goals ≡ more
  rest : x ≡ y

sweep-tells : (s t : ℕ) (goals more : List ℕ) (x y : List Line) → FitsQuery (names.Sweep s) goals → FitsQuery (names.Sweep t) more
    → name_words (names.Sweep s) ≡ name_words (names.Sweep t) → part_lines (names.Sweep s) goals ++ x ≡ part_lines (names.Sweep t) more ++ y
    → AreSameParts (names.Sweep s) (names.Sweep t) goals more x y
unfolding name_words part_lines
sweep-tells s t goals more x y f g e parts =
    let a = f.0 in let b = g.0 in
    let numbers : s ∷ [] ≡ t ∷ [] = number_words-tells (codes "sweep") (s ∷ []) (t ∷ []) (omega arith, tt) (omega arith, tt) e in
    let step : s ≡ t = cc in
    let lines : blocked_words goals ≡ blocked_words more = cc in
    record { name = ap (λ (i : ℕ). names.Sweep i) step; blocked = blocked-tells goals more f.1 g.1 lines; rest = cc }

hop-tells : (b s c t : ℕ) (goals more : List ℕ) (x y : List Line) → FitsQuery (names.Hop b s) goals → FitsQuery (names.Hop c t) more
    → name_words (names.Hop b s) ≡ name_words (names.Hop c t) → part_lines (names.Hop b s) goals ++ x ≡ part_lines (names.Hop c t) more ++ y
    → AreSameParts (names.Hop b s) (names.Hop c t) goals more x y
unfolding name_words part_lines
hop-tells b s c t goals more x y f g e parts =
    let h = f.0 in let i = f.1 in let j = g.0 in let k = g.1 in
    let numbers : b ∷ s ∷ [] ≡ c ∷ t ∷ [] = number_words-tells (codes "hop") (b ∷ s ∷ []) (c ∷ t ∷ []) ((omega arith) & (omega arith) & tt) ((omega arith) & (omega arith) & tt) e in
    let batch : b ≡ c = cc in
    let step : s ≡ t = cc in
    let lines : blocked_words goals ≡ blocked_words more = cc in
    record { name = λ p. names.Hop (batch p) (step p); blocked = blocked-tells goals more f.2 g.2 lines; rest = cc }

kept-tells : (i j : ℕ) (cs ds : List (List ℤ)) (goals more : List ℕ) (x y : List Line) → FitsQuery (names.Kept i cs) goals → FitsQuery (names.Kept j ds) more
    → name_words (names.Kept i cs) ≡ name_words (names.Kept j ds) → part_lines (names.Kept i cs) goals ++ x ≡ part_lines (names.Kept j ds) more ++ y
    → AreSameParts (names.Kept i cs) (names.Kept j ds) goals more x y
unfolding name_words part_lines
kept-tells i j cs ds goals more x y f g e parts =
    let h = f.0 in let k = g.0 in
    let numbers : i ∷ length cs ∷ [] ≡ j ∷ length ds ∷ [] = number_words-tells (codes "kept") (i ∷ length cs ∷ []) (j ∷ length ds ∷ [])
    ((omega arith) & (omega (arith, f.1.count)) & tt) ((omega arith) & (omega (arith, g.1.count)) & tt) e in
    let place : i ≡ j = cc in
    let size : length cs ≡ length ds = cc in
    let both = clauses-tell cs ds x y size f.1 g.1 parts in
    record { name = λ p. names.Kept (place p) (both.0 p); blocked = f.2 ∙ sym g.2; rest = both.1 }

excludes-tells : (i j : ℕ) (cs ds : List (List ℤ)) (goals more : List ℕ) (x y : List Line) → FitsQuery (names.Excludes i cs) goals → FitsQuery (names.Excludes j ds) more
    → name_words (names.Excludes i cs) ≡ name_words (names.Excludes j ds) → part_lines (names.Excludes i cs) goals ++ x ≡ part_lines (names.Excludes j ds) more ++ y
    → AreSameParts (names.Excludes i cs) (names.Excludes j ds) goals more x y
unfolding name_words part_lines
excludes-tells i j cs ds goals more x y f g e parts =
    let h = f.0 in let k = g.0 in
    let numbers : i ∷ length cs ∷ [] ≡ j ∷ length ds ∷ [] = number_words-tells (codes "excludes") (i ∷ length cs ∷ []) (j ∷ length ds ∷ [])
    ((omega arith) & (omega (arith, f.1.count)) & tt) ((omega arith) & (omega (arith, g.1.count)) & tt) e in
    let place : i ≡ j = cc in
    let size : length cs ≡ length ds = cc in
    let both = clauses-tell cs ds x y size f.1 g.1 parts in
    record { name = λ p. names.Excludes (place p) (both.0 p); blocked = f.2 ∙ sym g.2; rest = both.1 }

parts-tell : (m n : BlockName) (goals more : List ℕ) (x y : List Line) → FitsQuery m goals → FitsQuery n more → name_words m ≡ name_words n → part_lines m goals ++ x ≡ part_lines n more ++ y
    → AreSameParts m n goals more x y
unfolding name_words name_byte
parts-tell (names.Sweep s) (names.Sweep t) goals more x y f g e parts = sweep-tells s t goals more x y f g e parts
parts-tell (names.Sweep s) (names.Hop c t) goals more x y f g e parts = absurd (omega (arith, ap name_byte e))
parts-tell (names.Sweep s) (names.Kept j ds) goals more x y f g e parts = absurd (omega (arith, ap name_byte e))
parts-tell (names.Sweep s) (names.Excludes j ds) goals more x y f g e parts = absurd (omega (arith, ap name_byte e))
parts-tell (names.Hop b s) (names.Sweep t) goals more x y f g e parts = absurd (omega (arith, ap name_byte e))
parts-tell (names.Hop b s) (names.Hop c t) goals more x y f g e parts = hop-tells b s c t goals more x y f g e parts
parts-tell (names.Hop b s) (names.Kept j ds) goals more x y f g e parts = absurd (omega (arith, ap name_byte e))
parts-tell (names.Hop b s) (names.Excludes j ds) goals more x y f g e parts = absurd (omega (arith, ap name_byte e))
parts-tell (names.Kept i cs) (names.Sweep t) goals more x y f g e parts = absurd (omega (arith, ap name_byte e))
parts-tell (names.Kept i cs) (names.Hop c t) goals more x y f g e parts = absurd (omega (arith, ap name_byte e))
parts-tell (names.Kept i cs) (names.Kept j ds) goals more x y f g e parts = kept-tells i j cs ds goals more x y f g e parts
parts-tell (names.Kept i cs) (names.Excludes j ds) goals more x y f g e parts = absurd (omega (arith, ap name_byte e))
parts-tell (names.Excludes i cs) (names.Sweep t) goals more x y f g e parts = absurd (omega (arith, ap name_byte e))
parts-tell (names.Excludes i cs) (names.Hop c t) goals more x y f g e parts = absurd (omega (arith, ap name_byte e))
parts-tell (names.Excludes i cs) (names.Kept j ds) goals more x y f g e parts = absurd (omega (arith, ap name_byte e))
parts-tell (names.Excludes i cs) (names.Excludes j ds) goals more x y f g e parts = excludes-tells i j cs ds goals more x y f g e parts

-- ---- a query
query-plain : (w : Word) (b : Block) → IsWord w → FitsSpent b → AreLines (query_lines w b)
unfolding query_lines
query-plain w b p f = (
  query-is_line w b.name b.blocked p f.query,
  all-append IsLine (part_lines b.name b.blocked) (proof_lines b.proof) (part-plain b.name b.blocked f.query) (proof-is_spelling.plain b.proof f.proof),
)

query-tells : (w : Word) (a b : Block) (x y : List Line) → FitsSpent a → FitsSpent b → query_lines w a ++ x ≡ query_lines w b ++ y → (a ≡ b) × (x ≡ y)
unfolding query_lines
query-tells w a b x y f g e =
    let heads : name_words a.name ≡ name_words b.name = cc in
    let joined : (part_lines a.name a.blocked ++ proof_lines a.proof) ++ x ≡ (part_lines b.name b.blocked ++ proof_lines b.proof) ++ y = cc in
    let tails = sym (append_assoc (part_lines a.name a.blocked) (proof_lines a.proof) x) ∙ (joined ∙ append_assoc (part_lines b.name b.blocked) (proof_lines b.proof) y) in
    let parts = parts-tell a.name b.name a.blocked b.blocked (proof_lines a.proof ++ x) (proof_lines b.proof ++ y) f.query g.query heads tails in
    let rest = proof-is_spelling.tells a.proof b.proof x y f.proof g.proof parts.rest in
    let same : a ≡ b = λ i. record { name = parts.name i; blocked = parts.blocked i; proof = rest.0 i } in
    (same, rest.1)

pub spent-is_spelling : IsSpelling FitsSpent (query_lines (codes "spent"))
spent-is_spelling = record { plain = λ b f. query-plain (codes "spent") b (word-from_test (codes "spent") refl) f; tells = query-tells (codes "spent") }

pub spents-is_spelling : IsSpelling (IsCounted FitsSpent) spents_lines
spents-is_spelling =
    section-is_spelling FitsSpent (codes "spents") (λ _ b. query_lines (codes "spent") b) (word-from_test (codes "spents") refl) (λ n h. spent-is_spelling)

search-is_query : (n : BlockName) (goals : List ℕ) → FitsSearch n goals → FitsQuery n goals
search-is_query (names.Sweep t) goals f = f
search-is_query (names.Hop b t) goals f = f
search-is_query (names.Kept i cs) goals f = absurd f
search-is_query (names.Excludes g cs) goals f = absurd f

refute-is_spent : (b : Block) → FitsRefute b → FitsSpent b
refute-is_spent b f = record { query = search-is_query b.name b.blocked f.query; proof = f.proof }

pub refute-is_spelling : IsSpelling FitsRefute (query_lines (codes "refute"))
refute-is_spelling = record {
  plain = λ b f. query-plain (codes "refute") b (word-from_test (codes "refute") refl) (refute-is_spent b f);
  tells = λ a b x y f g e. query-tells (codes "refute") a b x y (refute-is_spent a f) (refute-is_spent b g) e;
}

pub refutes-is_spelling : IsSpelling (IsCounted FitsRefute) refutes_lines
refutes-is_spelling =
    section-is_spelling FitsRefute (codes "refutes") (λ _ b. query_lines (codes "refute") b) (word-from_test (codes "refutes") refl) (λ n h. refute-is_spelling)
