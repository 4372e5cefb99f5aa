-- What the steps of a writer add up to.
use Rattle.std.proofs.Common.{◌≡◌, ℕ, zero, suc, ◌+◌, ◌<◌, ◌≤◌, ℤ, List, [], ◌∷◌, ◌++◌, map, take, length, get_or, refl, sym, ap, ◌∙◌, append_assoc, arith, length-take}
use Rattle.std.specs.Prelude.{codes, decimal, min, Option, Some}
use Rattle.std.specs.Fmt.{signed_decimal}
use Rattle.std.specs.List.{flat_map}
use Rattle.std.proofs.lemmas.List.{append-nil, get_or_default, take_more, map-append}
use Rattle.std.proofs.lemmas.List.Concat.{flat_map-append}
use Rattle.lrat_text.specs.declared.proof.LratStep.{LratStep}
use Rattle.report_text.specs.declared.report.HopBound.{HopBound}
use Rattle.report_text.specs.declared.report.SeedLine.{SeedLine}
use Rattle.report_text.specs.declared.report.BlockName.{BlockName}
use Rattle.report_text.specs.declared.report.BlockName.TheVariants as names
use Rattle.report_text.specs.declared.report.Block.{Block}
use Rattle.report_text.specs.declared.report.Report.{Report}
use Rattle.report_text.specs.Text.{Word, Line, line, text, number_words, numbered_lines, size_words, options_words, head_lines, history_lines, bits_words, proof_lines, clause_words, kept_lines, seed_lines, seeds_lines, invs_lines, bound_text, hop_text, open_words, goals_lines, name_words, blocked_words, part_lines, query_lines, spents_lines, refutes_lines, end_words, report_lines, report_text}

-- a line whose words after the first are those of a list
pub line-items : {A : Type 0} (f : A → Word) (w : Word) (xs : List A) → line (w ∷ map f xs) ≡ w ++ (flat_map (λ x. 32 ∷ f x) xs ++ 10 ∷ [])
line-items f w [] = refl
line-items f w (x ∷ xs) = ap (λ rest. w ++ 32 ∷ rest) (line-items f (f x) xs ∙ sym (append_assoc (f x) _ _))

-- a line with such words in its middle
pub line-middle : {A : Type 0} (f : A → Word) (w v : Word) (xs : List A) (vs : List Word) → line (w ∷ (map f xs ++ v ∷ vs)) ≡ w ++ (flat_map (λ x. 32 ∷ f x) xs ++ 32 ∷ line (v ∷ vs))
line-middle f w v [] vs = refl
line-middle f w v (x ∷ xs) vs = ap (λ rest. w ++ 32 ∷ rest) (line-middle f (f x) v xs vs ∙ sym (append_assoc (f x) _ _))

numbered_lines-push : {A : Type 0} (lines : ℕ → A → List Line) (n : ℕ) (xs : List A) (x : A) → numbered_lines lines n (xs ++ x ∷ []) ≡ numbered_lines lines n xs ++ lines (n + length xs) x
numbered_lines-push lines n [] x = append-nil _ ∙ ap (λ k. lines k x) (let e : n ≡ n + 0 = omega arith in e)
numbered_lines-push lines n (y ∷ ys) x =
    let place : n + 1 + length ys ≡ n + suc (length ys) = omega arith in
    ap (λ rest. lines n y ++ rest) (numbered_lines-push lines (n + 1) ys x ∙ ap (λ k. numbered_lines lines (n + 1) ys ++ lines k x) place) ∙ sym (append_assoc (lines n y) _ _)

-- ---- pieces that are written one after another
abbrev appended : List ℕ → List (List ℕ) → List ℕ
appended old [] = old
appended old (p ∷ ps) = appended (old ++ p) ps

pub appended-is : (old : List ℕ) (pieces : List (List ℕ)) → appended old pieces ≡ old ++ flat_map (λ p. p) pieces
appended-is old [] = sym (append-nil old)
appended-is old (p ∷ ps) = appended-is (old ++ p) ps ∙ append_assoc old p _

-- ---- sections
-- one item more
pub section-more : {A : Type 0} (old : List ℕ) (head : Line) (lines : ℕ → A → List Line) (xs : List A) (i : ℕ) (x : A) → i < length xs → x ≡ get_or xs i x
    → (old ++ text (head ∷ numbered_lines lines 0 (take i xs))) ++ text (lines i x) ≡ old ++ text (head ∷ numbered_lines lines 0 (take (i + 1) xs))
section-more old head lines xs i x l e =
    let front = numbered_lines lines 0 (take i xs) in
    let size : 0 + length (take i xs) ≡ i = omega (arith, length-take i xs) in
    let more : take (i + 1) xs ≡ take i xs ++ x ∷ [] = take_more xs i x l ∙ ap (λ y. take i xs ++ y ∷ []) (sym e) in
    let items : numbered_lines lines 0 (take (i + 1) xs) ≡ front ++ lines i x = ap (numbered_lines lines 0) more ∙ (numbered_lines-push lines 0 (take i xs) x ∙ ap (λ n. front ++ lines n x) size) in
    let texts : text (numbered_lines lines 0 (take (i + 1) xs)) ≡ text front ++ text (lines i x) = ap text items ∙ flat_map-append line front (lines i x) in
    append_assoc old (text (head ∷ front)) _ ∙ ap (λ rest. old ++ rest) (append_assoc (line head) (text front) _ ∙ ap (λ rest. line head ++ rest) (sym texts))

-- one item more, where each has one line
pub section-more_line : {A : Type 0} (old : List ℕ) (head : Line) (words : A → Line) (xs : List A) (i : ℕ) (d : A) → i < length xs
    → (old ++ text (head ∷ numbered_lines (λ _ x. words x ∷ []) 0 (take i xs))) ++ line (words (get_or xs i d)) ≡ old ++ text (head ∷ numbered_lines (λ _ x. words x ∷ []) 0 (take (i + 1) xs))
section-more_line {A} old head words xs i d l =
    let before = old ++ text (head ∷ numbered_lines (λ (_ : ℕ) (x : A). words x ∷ []) 0 (take i xs)) in
    ap (λ rest. before ++ rest) (sym (append-nil (line (words (get_or xs i d))))) ∙ section-more old head (λ _ x. words x ∷ []) xs i (get_or xs i d) l (get_or_default xs i d (get_or xs i d) l)

-- ---- the line of an open goal
pub open-written : (old : List ℕ) (goal : ℕ) (depth : Option ℕ) (hops : List HopBound) (strength : Option ℕ)
    → ((((((((old ++ codes "goal") ++ 32 ∷ decimal goal) ++ codes " open depth") ++ 32 ∷ bound_text depth) ++ codes " hops") ++ flat_map (λ h. 32 ∷ hop_text h) hops) ++ codes " strength") ++ 32 ∷ bound_text strength) ++ 10 ∷ []
    ≡ old ++ line (open_words goal depth hops strength)
unfolding open_words
open-written old goal depth hops strength =
    rw (line-middle hop_text (codes "hops") (codes "strength") hops (bound_text strength ∷ []))
    (appended-is old (codes "goal" ∷ (32 ∷ decimal goal) ∷ codes " open depth" ∷ (32 ∷ bound_text depth) ∷ codes " hops" ∷ flat_map (λ h. 32 ∷ hop_text h) hops ∷ codes " strength" ∷ (32 ∷ bound_text strength) ∷ (10 ∷ []) ∷ []))

-- ---- the line of the goals that a query leaves out
pub blocked-written : (old : List ℕ) (goals : List ℕ) → (old ++ (codes "blocked" ++ (32 ∷ decimal (length goals) ++ flat_map (λ n. 32 ∷ decimal n) goals))) ++ 10 ∷ [] ≡ old ++ line (blocked_words goals)
unfolding blocked_words
blocked-written old goals =
    let items = 32 ∷ decimal (length goals) ++ flat_map (λ n. 32 ∷ decimal n) goals in
    append_assoc old (codes "blocked" ++ items) (10 ∷ [])
    ∙ ap (λ (rest : List ℕ). old ++ rest) (append_assoc (codes "blocked") items (10 ∷ []) ∙ sym (line-items decimal (codes "blocked") (length goals ∷ goals)))

-- ---- lines of a list
pub lines-more : {A : Type 0} (old : List ℕ) (words : A → Line) (xs : List A) (i : ℕ) (x : A) → i < length xs → x ≡ get_or xs i x
    → (old ++ text (map words (take i xs))) ++ line (words x) ≡ old ++ text (map words (take (i + 1) xs))
lines-more old words xs i x l e =
    let more : take (i + 1) xs ≡ take i xs ++ x ∷ [] = take_more xs i x l ∙ ap (λ y. take i xs ++ y ∷ []) (sym e) in
    let lines : map words (take (i + 1) xs) ≡ map words (take i xs) ++ words x ∷ [] = ap (map words) more ∙ map-append words (take i xs) (x ∷ []) in
    let texts : text (map words (take (i + 1) xs)) ≡ text (map words (take i xs)) ++ (line (words x) ++ []) = ap text lines ∙ flat_map-append line (map words (take i xs)) (words x ∷ []) in
    append_assoc old (text (map words (take i xs))) (line (words x))
    ∙ ap (λ (rest : List ℕ). old ++ rest) (ap (λ (last : List ℕ). text (map words (take i xs)) ++ last) (sym (append-nil (line (words x)))) ∙ sym texts)

-- ---- a clause
pub clause-written : (c : List ℤ) → flat_map (λ z. signed_decimal z ++ 32 ∷ []) c ++ codes "0\n" ≡ line (clause_words c)
unfolding clause_words
clause-written [] = refl
clause-written (z ∷ []) = append_assoc (signed_decimal z ++ 32 ∷ []) [] (codes "0\n") ∙ append_assoc (signed_decimal z) (32 ∷ []) (codes "0\n")
clause-written (z ∷ y ∷ zs) =
    let rest = flat_map (λ z. signed_decimal z ++ 32 ∷ []) (y ∷ zs) in
    append_assoc (signed_decimal z ++ 32 ∷ []) rest (codes "0\n") ∙ (append_assoc (signed_decimal z) (32 ∷ []) (rest ++ codes "0\n") ∙ ap (λ (more : List ℕ). signed_decimal z ++ 32 ∷ more) (clause-written (y ∷ zs)))

pub clause-ended : (old : List ℕ) (c : List ℤ) → ((old ++ flat_map (λ z. signed_decimal z ++ 32 ∷ []) c) ++ codes "0") ++ 10 ∷ [] ≡ old ++ line (clause_words c)
clause-ended old c =
    let literals = flat_map (λ z. signed_decimal z ++ 32 ∷ []) c in
    append_assoc (old ++ literals) (codes "0") (10 ∷ []) ∙ (append_assoc old literals (codes "0\n") ∙ ap (λ (rest : List ℕ). old ++ rest) (clause-written c))

-- ---- a certificate
kept-push : (cs : List (List ℤ)) (ps : List (List LratStep)) (c : List ℤ) (p : List LratStep) → length cs ≡ length ps
    → kept_lines (cs ++ c ∷ []) (ps ++ p ∷ []) ≡ kept_lines cs ps ++ (clause_words c ∷ proof_lines p)
kept-push [] [] c p e = ap (λ (ls : List Line). clause_words c ∷ ls) (append-nil (proof_lines p))
kept-push [] (q ∷ ps) c p e = absurd (omega arith)
kept-push (d ∷ cs) [] c p e = absurd (omega arith)
kept-push (d ∷ cs) (q ∷ ps) c p e =
    ap (λ (ls : List Line). clause_words d ∷ ls)
    (ap (λ (ls : List Line). proof_lines q ++ ls) (kept-push cs ps c p (omega arith)) ∙ sym (append_assoc (proof_lines q) (kept_lines cs ps) (clause_words c ∷ proof_lines p)))

pub kept-more : (old : List ℕ) (head : Line) (cs : List (List ℤ)) (ps : List (List LratStep)) (i : ℕ) (c : List ℤ) (p : List LratStep) → i < length cs → i < length ps
    → c ≡ get_or cs i c → p ≡ get_or ps i p
    → (old ++ text (head ∷ kept_lines (take i cs) (take i ps))) ++ text (clause_words c ∷ proof_lines p) ≡ old ++ text (head ∷ kept_lines (take (i + 1) cs) (take (i + 1) ps))
kept-more old head cs ps i c p l m e f =
    let front = kept_lines (take i cs) (take i ps) in
    let both = clause_words c ∷ proof_lines p in
    let clauses : take (i + 1) cs ≡ take i cs ++ c ∷ [] = take_more cs i c l ∙ ap (λ (x : List ℤ). take i cs ++ x ∷ []) (sym e) in
    let proofs : take (i + 1) ps ≡ take i ps ++ p ∷ [] = take_more ps i p m ∙ ap (λ (x : List LratStep). take i ps ++ x ∷ []) (sym f) in
    let size : length (take i cs) ≡ length (take i ps) = omega (arith, length-take i cs, length-take i ps) in
    let lines : kept_lines (take (i + 1) cs) (take (i + 1) ps) ≡ front ++ both = rw (clauses, proofs) (kept-push (take i cs) (take i ps) c p size) in
    let texts : text (kept_lines (take (i + 1) cs) (take (i + 1) ps)) ≡ text front ++ text both = ap text lines ∙ flat_map-append line front both in
    append_assoc old (text (head ∷ front)) (text both)
    ∙ ap (λ (rest : List ℕ). old ++ rest) (append_assoc (line head) (text front) (text both) ∙ ap (λ (rest : List ℕ). line head ++ rest) (sym texts))

-- what stands past the shorter of the two lists has no lines
pub kept-least : (m : ℕ) (cs : List (List ℤ)) (ps : List (List LratStep)) → min (length cs) (length ps) ≤ m → kept_lines (take m cs) (take m ps) ≡ kept_lines cs ps
kept-least zero [] ps h = refl
kept-least zero (c ∷ cs) [] h = refl
kept-least zero (c ∷ cs) (p ∷ ps) h = absurd (omega arith)
kept-least (suc m) [] ps h = refl
kept-least (suc m) (c ∷ cs) [] h = refl
kept-least (suc m) (c ∷ cs) (p ∷ ps) h = ap (λ (ls : List Line). clause_words c ∷ (proof_lines p ++ ls)) (kept-least m cs ps (omega arith))

-- ---- a seed
pub seed-written : (old : List ℕ) (batch : ℕ) (s : SeedLine)
    → (((old ++ line (number_words (codes "seed") (batch ∷ length s.rows.rows ∷ []))) ++ line (bits_words s.start)) ++ text (map bits_words s.rows.rows)) ++ line (bits_words s.state)
    ≡ old ++ text (seed_lines batch (Some s))
unfolding seed_lines
seed-written old batch s =
    rw (flat_map-append line (map bits_words s.rows.rows) (bits_words s.state ∷ []))
    (appended-is old (line (number_words (codes "seed") (batch ∷ length s.rows.rows ∷ [])) ∷ line (bits_words s.start) ∷ text (map bits_words s.rows.rows) ∷ line (bits_words s.state) ∷ []))

-- ---- a query
pub name-written : (w : Word) (n : BlockName) → w ++ 32 ∷ line (name_words n) ≡ line (w ∷ name_words n)
unfolding name_words
name-written w (names.Sweep t) = refl
name-written w (names.Hop b t) = refl
name-written w (names.Kept i cs) = refl
name-written w (names.Excludes g cs) = refl

pub query-written : (old : List ℕ) (w : Word) (b : Block)
    → ((((old ++ w) ++ codes " ") ++ line (name_words b.name)) ++ text (part_lines b.name b.blocked)) ++ text (proof_lines b.proof) ≡ old ++ text (query_lines w b)
unfolding query_lines
query-written old w b =
    let name = name_words b.name in
    let part = part_lines b.name b.blocked in
    let proof = proof_lines b.proof in
    let tail : text part ++ (text proof ++ []) ≡ text (part ++ proof) = ap (λ (t : List ℕ). text part ++ t) (append-nil (text proof)) ∙ sym (flat_map-append line part proof) in
    let all : w ++ 32 ∷ (line name ++ (text part ++ (text proof ++ []))) ≡ line (w ∷ name) ++ text (part ++ proof) =
    ap (λ (t : List ℕ). w ++ 32 ∷ (line name ++ t)) tail
    ∙ (sym (append_assoc w (32 ∷ line name) (text (part ++ proof))) ∙ ap (λ (t : List ℕ). t ++ text (part ++ proof)) (name-written w b.name)) in
    appended-is old (w ∷ codes " " ∷ line name ∷ text part ∷ text proof ∷ []) ∙ ap (λ (t : List ℕ). old ++ t) all

-- ---- the whole
pub report-written : (r : Report)
    → ((((((((([] ++ codes "ketch 1\n") ++ line (size_words r)) ++ line (options_words r.options)) ++ text (history_lines r.history)) ++ text (seeds_lines r.seeds)) ++ text (invs_lines r.invs))
    ++ text (goals_lines r.goals)) ++ text (spents_lines r.spents)) ++ text (refutes_lines r.refutes)) ++ line (end_words r) ≡ report_text r
unfolding report_text report_lines head_lines
report-written r =
    let refutes = refutes_lines r.refutes ++ end_words r ∷ [] in
    let spents = spents_lines r.spents ++ refutes in
    let goals = goals_lines r.goals ++ spents in
    let invs = invs_lines r.invs ++ goals in
    let seeds = seeds_lines r.seeds ++ invs in
    rw (
      flat_map-append line (history_lines r.history) seeds,
      flat_map-append line (seeds_lines r.seeds) invs,
      flat_map-append line (invs_lines r.invs) goals,
      flat_map-append line (goals_lines r.goals) spents,
      flat_map-append line (spents_lines r.spents) refutes,
      flat_map-append line (refutes_lines r.refutes) (end_words r ∷ []),
    )
    (appended-is [] (codes "ketch 1\n" ∷ line (size_words r) ∷ line (options_words r.options) ∷ text (history_lines r.history) ∷ text (seeds_lines r.seeds) ∷ text (invs_lines r.invs)
    ∷ text (goals_lines r.goals) ∷ text (spents_lines r.spents) ∷ text (refutes_lines r.refutes) ∷ line (end_words r) ∷ []))
