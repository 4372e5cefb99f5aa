-- Queries are read as their lines tell them.
use Rattle.std.proofs.Common.{lit<, ◌≡◌, ◌⊎◌, inl, inr, ℕ, ◌+◌, ◌-◌, ◌<◌, ◌≤◌, ◌^◌, ℤ, Bool, true, false, cond, Option, Some, None, List, [], ◌∷◌, ◌++◌, map, length, replicate, refl, sym, ap, ◌∙◌, subst, append_assoc, arith, length-append}
use Rattle.std.specs.Prelude.{codes, nat_eq, nat_lt, ◌||◌, slice_index, bytes_eq, decimal}
use Rattle.std.specs.Option.{option_map}
use Rattle.std.specs.List.{AllByRecursion}
use Rattle.std.specs.List.Sorted.{IsStrictlyIncreasing}
use Rattle.std.proofs.Math.ListN.{get_or-append}
use Rattle.std.proofs.Math.Seq.{get_or-append_seam}
use Rattle.std.proofs.lemmas.Bool.{eqb-true, eq-eqb}
use Rattle.std.proofs.lemmas.Bool.Decides.{nat_tests}
use Rattle.std.proofs.lemmas.List.{append-nil, length-replicate}
use Rattle.lrat_text.specs.declared.proof.LratStep.{LratStep}
use Rattle.report_text.specs.declared.report.BlockName.{BlockName}
use Rattle.report_text.specs.declared.report.BlockName.TheVariants as names
use Rattle.report_text.specs.declared.report.Block.{Block}
use Rattle.report_text.specs.Form.{IsCounted, FitsProof, FitsClause, FitsClauses, FitsBlocked, FitsSearch, FitsQuery, FitsSpent, FitsRefute}
use Rattle.report_text.specs.Text.{Word, Line, numbered_lines, proof_lines, clause_words, clauses_lines, name_words, blocked_words, part_lines, query_lines, spents_lines, refutes_lines}
use Rattle.report_text.proofs.Lines.{◌&◌, IsWord, IsLine, AreLines, word-from_test}
use Rattle.report_text.proofs.Words.{AreNumbers, decimal-is_word}
use Rattle.report_text.proofs.Pieces.{IsSpelling, lines-plain, lines-tell, number_words-is_line}
use Rattle.report_text.proofs.ClauseLines.{clause-is_line, clause-tells}
use Rattle.report_text.proofs.ProofLines.{proof-is_spelling}
use Rattle.report_text.proofs.QueryLines.{spent-is_spelling, refute-is_spelling}
use Rattle.report_lines.specs.Words.{◌>>?◌, word, both, behind_name, last, small_of}
use Rattle.report_lines.specs.Reading.{Place, line_read}
use Rattle.report_sections.specs.Items.{HasItems}
use Rattle.report_sections.specs.Pieces.{ReadsTo, one, and_read}
use Rattle.report_sections.specs.Proofs.{clause_of, proof_read}
use Rattle.report_sections.specs.Certs.{clauses_read}
use Rattle.report_sections.proofs.Sections.{AreItems, IsSmall, passes_none}
use Rattle.report_sections.proofs.LineWords.{IsLineParse, line-reads, line-is_spelling}
use Rattle.report_sections.proofs.Numbers.{small_field, count_parse}
use Rattle.report_sections.proofs.Parses.{IsParse, some-some, bind-some, cond-told, cond-some, name-tells, name-back, field, and_parse}
use Rattle.report_sections.proofs.Combine.{items-reads, section-reads, Leads, leads-reads}
use Rattle.report_sections.proofs.Pairs.{pair-reads, mapped-reads, same-reads}
use Rattle.report_sections.proofs.ProofRead.{clause_parse, proof-reads}
use Rattle.report_sections.proofs.CertsRead.{no-proof, no_literals, clause-is_spelling, all-same}
use Rattle.report_blocks.specs.declared.queries.QueryLine.{QueryLine}
use Rattle.report_blocks.specs.declared.queries.QueryLine.TheVariants as firsts
use Rattle.report_blocks.specs.Queries.{one_of, two_of, search_of, query_of, spent_of, refute_of, is_above, goals_from, if_so_many, blocked_of, search_rest, clauses_rest, query_rest, spent_read, refute_read, spents_read, refutes_read}
use Rattle.report_blocks.proofs.Named.{cond-or, Told, named-tells, named-back}

-- ---- lines of one number and of two
abbrev one_words : ℕ → Line
one_words n = decimal n ∷ []

one_parse : IsParse IsSmall one_words (word small_of)
one_parse = field small_field

abbrev AreSmall : ℕ × ℕ → Type 0
AreSmall t = IsSmall t.0 × IsSmall t.1

abbrev two_words : ℕ × ℕ → Line
two_words t = decimal t.0 ∷ decimal t.1 ∷ []

two_parse : IsParse AreSmall two_words (both (word small_of) (word small_of))
two_parse = and_parse (field small_field) (field small_field)

-- ---- the first line
abbrev FitsLine : QueryLine → Type 0
FitsLine (firsts.Sweep step) = IsSmall step
FitsLine (firsts.Hop batch step) = IsSmall batch × IsSmall step
FitsLine (firsts.Kept place count) = IsSmall place × IsSmall count
FitsLine (firsts.Excludes goal count) = IsSmall goal × IsSmall count

abbrev IsSearch : QueryLine → Type 0
IsSearch (firsts.Sweep step) = IsSmall step
IsSearch (firsts.Hop batch step) = IsSmall batch × IsSmall step
IsSearch (firsts.Kept place count) = ⊥
IsSearch (firsts.Excludes goal count) = ⊥

search-fits : (l : QueryLine) → IsSearch l → FitsLine l
search-fits (firsts.Sweep step) f = f
search-fits (firsts.Hop batch step) f = f
search-fits (firsts.Kept place count) f = absurd f
search-fits (firsts.Excludes goal count) f = absurd f

abbrev line_words : QueryLine → Line
line_words (firsts.Sweep step) = codes "sweep" ∷ one_words step
line_words (firsts.Hop batch step) = codes "hop" ∷ two_words (batch, step)
line_words (firsts.Kept place count) = codes "kept" ∷ two_words (place, count)
line_words (firsts.Excludes goal count) = codes "excludes" ∷ two_words (goal, count)

search-tells : (ws : Line) (l : QueryLine) → search_of ws ≡ Some l → Told IsSearch line_words l ws
search-tells [] l e = cc
search-tells (w ∷ ws) l e =
    let G : Type 0 = Told IsSearch line_words l (w ∷ ws) in
    let hop = cond (bytes_eq w (codes "hop")) (option_map (λ t. firsts.Hop t.0 t.1) (two_of ws)) None in
    elim (cond-or w (codes "sweep") (option_map (λ t. firsts.Sweep t) (one_of ws)) hop l e) as (λ _. G) [
      | inl g ↦ named-tells IsSearch line_words w (codes "sweep") one_parse (λ t. firsts.Sweep t) (λ n f. (f, refl)) ws l g
      | inr h ↦ elim (cond-or w (codes "hop") (option_map (λ t. firsts.Hop t.0 t.1) (two_of ws)) None l h) as (λ _. G) [
        | inl g ↦ named-tells IsSearch line_words w (codes "hop") two_parse (λ t. firsts.Hop t.0 t.1) (λ t f. ((f.0, f.1), refl)) ws l g
        | inr k ↦ cc
      ]
    ]

query-tells : (ws : Line) (l : QueryLine) → query_of ws ≡ Some l → Told FitsLine line_words l ws
query-tells [] l e = cc
query-tells (w ∷ ws) l e =
    let G : Type 0 = Told FitsLine line_words l (w ∷ ws) in
    let kept = option_map (λ t. firsts.Kept t.0 t.1) (two_of ws) in
    let excludes = option_map (λ t. firsts.Excludes t.0 t.1) (two_of ws) in
    elim (cond-or w (codes "kept") kept (cond (bytes_eq w (codes "excludes")) excludes (search_of (w ∷ ws))) l e) as (λ _. G) [
      | inl g ↦ named-tells FitsLine line_words w (codes "kept") two_parse (λ t. firsts.Kept t.0 t.1) (λ t f. ((f.0, f.1), refl)) ws l g
      | inr h ↦ elim (cond-or w (codes "excludes") excludes (search_of (w ∷ ws)) l h) as (λ _. G) [
        | inl g ↦ named-tells FitsLine line_words w (codes "excludes") two_parse (λ t. firsts.Excludes t.0 t.1) (λ t f. ((f.0, f.1), refl)) ws l g
        | inr k ↦ let told = search-tells (w ∷ ws) l k in (search-fits l told.0, told.1)
      ]
    ]

search-back : (l : QueryLine) → IsSearch l → search_of (line_words l) ≡ Some l
search-back (firsts.Sweep step) f = named-back one_parse (λ t. firsts.Sweep t) step f
search-back (firsts.Hop batch step) f = named-back two_parse (λ t. firsts.Hop t.0 t.1) (batch, step) (f.0, f.1)
search-back (firsts.Kept place count) f = absurd f
search-back (firsts.Excludes goal count) f = absurd f

query-back : (l : QueryLine) → FitsLine l → query_of (line_words l) ≡ Some l
query-back (firsts.Sweep step) f = search-back (firsts.Sweep step) f
query-back (firsts.Hop batch step) f = search-back (firsts.Hop batch step) f
query-back (firsts.Kept place count) f = named-back two_parse (λ t. firsts.Kept t.0 t.1) (place, count) (f.0, f.1)
query-back (firsts.Excludes goal count) f = named-back two_parse (λ t. firsts.Excludes t.0 t.1) (goal, count) (f.0, f.1)

small-is_word : (n : ℕ) → IsSmall n → IsWord (decimal n)
small-is_word n h = decimal-is_word n (let small : n < 2 ^ 32 = h in omega arith)

line-are_words : (l : QueryLine) → FitsLine l → AllByRecursion IsWord (line_words l)
line-are_words (firsts.Sweep step) f = word-from_test (codes "sweep") refl & small-is_word step f & tt
line-are_words (firsts.Hop batch step) f = word-from_test (codes "hop") refl & small-is_word batch f.0 & small-is_word step f.1 & tt
line-are_words (firsts.Kept place count) f = word-from_test (codes "kept") refl & small-is_word place f.0 & small-is_word count f.1 & tt
line-are_words (firsts.Excludes goal count) f = word-from_test (codes "excludes") refl & small-is_word goal f.0 & small-is_word count f.1 & tt

abbrev spent_words : QueryLine → Line
spent_words l = codes "spent" ∷ line_words l

abbrev refute_words : QueryLine → Line
refute_words l = codes "refute" ∷ line_words l

spent_parse : IsLineParse FitsLine spent_words spent_of
spent_parse = record {
  plain = λ l f. (word-from_test (codes "spent") refl, line-are_words l f);
  tells = λ ws l e.
      let first = bind-some (behind_name (codes "spent") ws) query_of l e in
      let told = query-tells first.0 l first.2 in
      (told.0, ap (λ (r : Line). codes "spent" ∷ r) told.1 ∙ name-tells (codes "spent") ws first.0 first.1);
  back = λ l f. ap (λ (o : Option Line). o >>? query_of) (name-back (codes "spent") (line_words l)) ∙ query-back l f;
  some = firsts.Sweep 0;
  some_fits = lit< tt;
}

refute_parse : IsLineParse IsSearch refute_words refute_of
refute_parse = record {
  plain = λ l f. (word-from_test (codes "refute") refl, line-are_words l (search-fits l f));
  tells = λ ws l e.
      let first = bind-some (behind_name (codes "refute") ws) search_of l e in
      let told = search-tells first.0 l first.2 in
      (told.0, ap (λ (r : Line). codes "refute" ∷ r) told.1 ∙ name-tells (codes "refute") ws first.0 first.1);
  back = λ l f. ap (λ (o : Option Line). o >>? search_of) (name-back (codes "refute") (line_words l)) ∙ search-back l f;
  some = firsts.Sweep 0;
  some_fits = lit< tt;
}

-- ---- the goals that a search leaves out
above-test : (goals : List ℕ) (goal : ℕ) → is_above goals goal ≡ true → (k : ℕ) → k + 1 ≡ length goals → slice_index goals k < goal
above-test goals goal e k last =
    let place : length goals - 1 ≡ k = omega arith in
    let test : (nat_eq (length goals) 0 || nat_lt (slice_index goals k) goal) ≡ true = ap (λ (i : ℕ). nat_eq (length goals) 0 || nat_lt (slice_index goals i) goal) (sym place) ∙ e in
    grind (arith, nat_tests)

rising-more : (goals : List ℕ) (goal : ℕ) → IsStrictlyIncreasing goals → is_above goals goal ≡ true → IsStrictlyIncreasing (goals ++ goal ∷ [])
rising-more goals goal rising e k within =
    let size : length (goals ++ goal ∷ []) ≡ length goals + 1 = length-append goals (goal ∷ []) in
    let first : slice_index (goals ++ goal ∷ []) k ≡ slice_index goals k = get_or-append goals (goal ∷ []) 0 k (omega arith) in
    elim (split (k + 1) (length goals) (omega arith)) as (λ _. slice_index (goals ++ goal ∷ []) k < slice_index (goals ++ goal ∷ []) (k + 1)) [
      | inl inside ↦
          (let second : slice_index (goals ++ goal ∷ []) (k + 1) ≡ slice_index goals (k + 1) = get_or-append goals (goal ∷ []) 0 (k + 1) inside in
          let below = rising k inside in
          omega arith)
      | inr end ↦
          (let seam : slice_index (goals ++ goal ∷ []) (length goals) ≡ goal = get_or-append_seam goals goal [] 0 in
          let second : slice_index (goals ++ goal ∷ []) (k + 1) ≡ goal = ap (λ (i : ℕ). slice_index (goals ++ goal ∷ []) i) end ∙ seam in
          let below = above-test goals goal e k end in
          omega arith)
    ]
  where
    split : (i n : ℕ) → i ≤ n → (i < n) ⊎ (i ≡ n)
    split i n h = grind arith

rising-above : (goals : List ℕ) (goal : ℕ) (more : List ℕ) → IsStrictlyIncreasing (goals ++ goal ∷ more) → is_above goals goal ≡ true
rising-above [] goal more rising = refl
rising-above (g ∷ gs) goal more rising =
    let goals = g ∷ gs in
    let n = length gs in
    let size : length (goals ++ goal ∷ more) ≡ length goals + length (goal ∷ more) = length-append goals (goal ∷ more) in
    let first : slice_index (goals ++ goal ∷ more) n ≡ slice_index goals n = get_or-append goals (goal ∷ more) 0 n (omega arith) in
    let seam : slice_index (goals ++ goal ∷ more) (length goals) ≡ goal = get_or-append_seam goals goal more 0 in
    let number : n + 1 ≡ length goals = omega arith in
    let second : slice_index (goals ++ goal ∷ more) (n + 1) ≡ goal = ap (λ (i : ℕ). slice_index (goals ++ goal ∷ more) i) number ∙ seam in
    let below = rising n (omega arith) in
    let less : slice_index goals n < goal = omega arith in
    let place : length goals - 1 ≡ n = omega arith in
    let test : nat_lt (slice_index goals n) goal ≡ true = grind (arith, nat_tests) in
    let some : nat_eq (length goals) 0 ≡ false = grind (arith, nat_tests) in
    ap (λ (t : Bool). t || nat_lt (slice_index goals (length goals - 1)) goal) some ∙ (ap (λ (i : ℕ). nat_lt (slice_index goals i) goal) place ∙ test)

-- the goals that are read behind these
record AreGoals (before all : List ℕ) (ws : Line) : Type 0 where
  more : List ℕ
  joined : all ≡ before ++ more
  each : AllByRecursion IsSmall more
  words : map decimal more ≡ ws
  rising : IsStrictlyIncreasing all

goals-tell : (ws : Line) (before all : List ℕ) → IsStrictlyIncreasing before → goals_from before ws ≡ Some all → AreGoals before all ws
goals-tell [] before all rising e =
    let same = some-some before all e in
    record { more = []; joined = sym same ∙ sym (append-nil before); each = tt; words = refl; rising = subst IsStrictlyIncreasing same rising }
goals-tell (w ∷ ws) before all rising e =
    let after : ℕ → Option (List ℕ) = λ goal. cond (is_above before goal) (goals_from (before ++ goal ∷ []) ws) None in
    let first = bind-some (small_of w) after all e in
    let told = small_field.tells w first.0 first.1 in
    let test = cond-told (is_above before first.0) (goals_from (before ++ first.0 ∷ []) ws) all first.2 in
    let rest = goals-tell ws (before ++ first.0 ∷ []) all (rising-more before first.0 rising test.0) test.1 in
    let head : decimal first.0 ≡ w = told.1 in
    let tail : map decimal rest.more ≡ ws = rest.words in
    record { more = first.0 ∷ rest.more; joined = rest.joined ∙ append_assoc before (first.0 ∷ []) rest.more; each = (told.0, rest.each); words = cc; rising = rest.rising }

goals-back : (more before : List ℕ) → AllByRecursion IsSmall more → IsStrictlyIncreasing (before ++ more) → goals_from before (map decimal more) ≡ Some (before ++ more)
goals-back [] before f rising = ap (λ (l : List ℕ). Some l) (sym (append-nil before))
goals-back (g ∷ gs) before f rising =
    let ws = map decimal gs in
    let after : ℕ → Option (List ℕ) = λ goal. cond (is_above before goal) (goals_from (before ++ goal ∷ []) ws) None in
    let joined = append_assoc before (g ∷ []) gs in
    ap (λ (o : Option ℕ). o >>? after) (small_field.back g f.0)
    ∙ (ap (λ (t : Bool). cond t (goals_from (before ++ g ∷ []) ws) None) (rising-above before g gs rising)
    ∙ (goals-back gs (before ++ g ∷ []) f.1 (subst IsStrictlyIncreasing (sym joined) rising) ∙ ap (λ (l : List ℕ). Some l) joined))

no-goals : IsStrictlyIncreasing []
no-goals k within = absurd (omega arith)

blocked-tells : (ws : Line) (goals : List ℕ) → blocked_of ws ≡ Some goals → FitsBlocked goals × (blocked_words goals ≡ ws)
unfolding blocked_words
blocked-tells ws goals e =
    let behind : Line → Option (List ℕ) = λ l. word small_of l >>? λ n. goals_from [] n.1 >>? if_so_many n.0 in
    let counted : ℕ × Line → Option (List ℕ) = λ n. goals_from [] n.1 >>? if_so_many n.0 in
    let first = bind-some (behind_name (codes "blocked") ws) behind goals e in
    let second = bind-some (word small_of first.0) counted goals first.2 in
    let third = bind-some (goals_from [] second.0.1) (if_so_many second.0.0) goals second.2 in
    let both = cond-some (nat_eq (length third.0) second.0.0) third.0 goals third.2 in
    let count = (field small_field).tells first.0 second.0.0 second.0.1 second.1 in
    let told = goals-tell second.0.1 [] third.0 no-goals third.1 in
    let size : length third.0 ≡ second.0.0 = eqb-true (length third.0) second.0.0 both.0 in
    let words : map decimal third.0 ≡ second.0.1 = ap (map decimal) told.joined ∙ told.words in
    let line : codes "blocked" ∷ decimal (length third.0) ∷ map decimal third.0 ≡ ws =
    ap (λ (n : ℕ). codes "blocked" ∷ decimal n ∷ map decimal third.0) size
    ∙ (ap (λ (r : Line). codes "blocked" ∷ decimal second.0.0 ∷ r) words ∙ (ap (λ (r : Line). codes "blocked" ∷ r) count.1 ∙ name-tells (codes "blocked") ws first.0 first.1)) in
    let small : second.0.0 < 2 ^ 32 = count.0 in
    subst (λ (gs : List ℕ). FitsBlocked gs × (codes "blocked" ∷ decimal (length gs) ∷ map decimal gs ≡ ws)) both.1
    (record { count = omega arith; each = subst (λ (gs : List ℕ). AllByRecursion IsSmall gs) (sym told.joined) told.each; rising = told.rising }, line)

blocked-back : (goals : List ℕ) → FitsBlocked goals → blocked_of (blocked_words goals) ≡ Some goals
unfolding blocked_words
blocked-back goals f =
    let behind : Line → Option (List ℕ) = λ l. word small_of l >>? λ n. goals_from [] n.1 >>? if_so_many n.0 in
    let counted : ℕ × Line → Option (List ℕ) = λ n. goals_from [] n.1 >>? if_so_many n.0 in
    ap (λ (o : Option Line). o >>? behind) (name-back (codes "blocked") (decimal (length goals) ∷ map decimal goals))
    ∙ (ap (λ (o : Option (ℕ × Line)). o >>? counted) ((field small_field).back (length goals) (map decimal goals) f.count)
    ∙ (ap (λ (o : Option (List ℕ)). o >>? if_so_many (length goals)) (goals-back goals [] f.each f.rising) ∙ ap (λ (t : Bool). cond t (Some goals) None) (eq-eqb (length goals) (length goals) refl)))

goals-are_numbers : (goals : List ℕ) → AllByRecursion (λ goal. goal < 2 ^ 32) goals → AreNumbers goals
goals-are_numbers [] h = tt
goals-are_numbers (g ∷ goals) h = (let small = h.0 in omega arith, goals-are_numbers goals h.1)

blocked-is_line : (goals : List ℕ) → FitsBlocked goals → IsLine (blocked_words goals)
unfolding blocked_words
blocked-is_line goals f = number_words-is_line (codes "blocked") (length goals ∷ goals) (word-from_test (codes "blocked") refl) (omega (arith, f.count), goals-are_numbers goals f.each)

none-blocked : FitsBlocked []
none-blocked = record { count = lit< tt; each = tt; rising = no-goals }

blocked_parse : IsLineParse FitsBlocked blocked_words blocked_of
blocked_parse = record { plain = blocked-is_line; tells = blocked-tells; back = blocked-back; some = []; some_fits = none-blocked }

-- ---- clauses, of which the first line tells how many they are
abbrev clause_items : List (List ℤ) → List Line
clause_items cs = numbered_lines (λ _ c. clause_words c ∷ []) 0 cs

numbered-clauses : (k : ℕ) (cs : List (List ℤ)) → numbered_lines (λ _ c. clause_words c ∷ []) k cs ≡ clauses_lines cs
numbered-clauses k [] = refl
numbered-clauses k (c ∷ cs) = ap (λ (ls : List Line). clause_words c ∷ ls) (numbered-clauses (k + 1) cs)

clauses-plain : (n : ℕ) (cs : List (List ℤ)) → HasItems FitsClause n cs → AreLines (clause_items cs)
clauses-plain n cs f = subst AreLines (sym (numbered-clauses 0 cs)) (lines-plain FitsClause clause_words clause-is_line cs f.each)

clauses-told : (n : ℕ) (cs ds : List (List ℤ)) (x y : List Line) → HasItems FitsClause n cs → HasItems FitsClause n ds → clause_items cs ++ x ≡ clause_items ds ++ y → (cs ≡ ds) × (x ≡ y)
clauses-told n cs ds x y f g e =
    lines-tell FitsClause clause_words clause-tells cs ds x y (f.size ∙ sym g.size) f.each g.each
    (ap (λ (ls : List Line). ls ++ x) (sym (numbered-clauses 0 cs)) ∙ (e ∙ ap (λ (ls : List Line). ls ++ y) (numbered-clauses 0 ds)))

clauses-are_spelling : (n : ℕ) → IsSpelling (HasItems FitsClause n) clause_items
clauses-are_spelling n = record { plain = clauses-plain n; tells = clauses-told n }

clause_list : AreItems FitsClause (λ _ c. clause_words c ∷ [])
clause_list = record { each = λ n h. clause-is_spelling; some = []; some_fits = no_literals }

clauses-reads : (n : ℕ) (p : Place) → n < 2 ^ 32 → ReadsTo (HasItems FitsClause n) clause_items p (clauses_read n p)
clauses-reads n p h =
    items-reads FitsClause (λ _ c. clause_words c ∷ []) (λ _. line_read clause_of) n 0 n [] p p clause_list (λ i s small. line-reads FitsClause clause_words clause_of s clause_parse) (omega arith) h
    (record { size = refl; each = tt; pass = passes_none p })

-- ---- what follows the first line
abbrev first_of : BlockName → QueryLine
first_of (names.Sweep step) = firsts.Sweep step
first_of (names.Hop batch step) = firsts.Hop batch step
first_of (names.Kept place clauses) = firsts.Kept place (length clauses)
first_of (names.Excludes goal clauses) = firsts.Excludes goal (length clauses)

abbrev later_of : Block → List Line
later_of b = part_lines b.name b.blocked ++ proof_lines b.proof

abbrev HasFirst : QueryLine → Block → Type 0
HasFirst l b = FitsSpent b × (first_of b.name ≡ l)

abbrev SearchParts : Type 0
SearchParts = List ℕ × List LratStep

abbrev FitsSearchParts : SearchParts → Type 0
FitsSearchParts t = FitsBlocked t.0 × FitsProof t.1

abbrev search_lines : SearchParts → List Line
search_lines t = one blocked_words t.0 ++ proof_lines t.1

search-parts-reads : (p : Place) → ReadsTo FitsSearchParts search_lines p (and_read (line_read blocked_of p) proof_read)
search-parts-reads p =
    pair-reads FitsBlocked (one blocked_words) FitsProof proof_lines p (line_read blocked_of p) proof_read [] (line-is_spelling FitsBlocked blocked_words blocked_of blocked_parse) (λ q f. proof-is_spelling.plain q f) no-proof
    (line-reads FitsBlocked blocked_words blocked_of p blocked_parse) proof-reads

abbrev ClauseParts : Type 0
ClauseParts = List (List ℤ) × List LratStep

abbrev FitsClauseParts : ℕ → ClauseParts → Type 0
FitsClauseParts n t = HasItems FitsClause n t.0 × FitsProof t.1

abbrev clause_part_lines : ClauseParts → List Line
clause_part_lines t = clause_items t.0 ++ proof_lines t.1

clause-parts-reads : (n : ℕ) (p : Place) → n < 2 ^ 32 → ReadsTo (FitsClauseParts n) clause_part_lines p (and_read (clauses_read n p) proof_read)
clause-parts-reads n p h =
    pair-reads (HasItems FitsClause n) clause_items FitsProof proof_lines p (clauses_read n p) proof_read [] (clauses-are_spelling n) (λ q f. proof-is_spelling.plain q f) no-proof (clauses-reads n p h) proof-reads

abbrev search_block : BlockName → SearchParts → Block
search_block name t = record { name = name; blocked = t.0; proof = t.1 }

abbrev clauses_block : (List (List ℤ) → BlockName) → ClauseParts → Block
clauses_block name t = record { name = name t.0; blocked = []; proof = t.1 }

abbrev search_parts : Block → SearchParts
search_parts b = (b.blocked, b.proof)

abbrev clauses_in : BlockName → List (List ℤ)
clauses_in (names.Sweep step) = []
clauses_in (names.Hop batch step) = []
clauses_in (names.Kept place clauses) = clauses
clauses_in (names.Excludes goal clauses) = clauses

abbrev clause_parts : Block → ClauseParts
clause_parts b = (clauses_in b.name, b.proof)

clauses-fit : (n : ℕ) (cs : List (List ℤ)) → n < 2 ^ 32 → HasItems FitsClause n cs → FitsClauses cs
clauses-fit n cs h f = record { count = omega (arith, f.size); each = f.each }

-- what is known of a block whose first line is this one
sweep-name : (step : ℕ) (name : BlockName) (goals : List ℕ) → FitsQuery name goals → first_of name ≡ firsts.Sweep step → FitsBlocked goals × (one blocked_words goals ≡ part_lines name goals)
unfolding part_lines
sweep-name step (names.Sweep t) goals f e = (f.1, refl)
sweep-name step (names.Hop b t) goals f e = cc
sweep-name step (names.Kept i cs) goals f e = cc
sweep-name step (names.Excludes g cs) goals f e = cc

hop-name : (batch step : ℕ) (name : BlockName) (goals : List ℕ) → FitsQuery name goals → first_of name ≡ firsts.Hop batch step → FitsBlocked goals × (one blocked_words goals ≡ part_lines name goals)
unfolding part_lines
hop-name batch step (names.Sweep t) goals f e = cc
hop-name batch step (names.Hop b t) goals f e = (f.2, refl)
hop-name batch step (names.Kept i cs) goals f e = cc
hop-name batch step (names.Excludes g cs) goals f e = cc

kept-name : (place count : ℕ) (name : BlockName) (goals : List ℕ) → FitsQuery name goals → first_of name ≡ firsts.Kept place count
    → HasItems FitsClause count (clauses_in name) × (clause_items (clauses_in name) ≡ part_lines name goals)
unfolding part_lines
kept-name place count (names.Sweep t) goals f e = cc
kept-name place count (names.Hop b t) goals f e = cc
kept-name place count (names.Kept i cs) goals f e = let size : length cs ≡ count = cc in (record { size = size; each = f.1.each }, numbered-clauses 0 cs)
kept-name place count (names.Excludes g cs) goals f e = cc

excludes-name : (goal count : ℕ) (name : BlockName) (goals : List ℕ) → FitsQuery name goals → first_of name ≡ firsts.Excludes goal count
    → HasItems FitsClause count (clauses_in name) × (clause_items (clauses_in name) ≡ part_lines name goals)
unfolding part_lines
excludes-name goal count (names.Sweep t) goals f e = cc
excludes-name goal count (names.Hop b t) goals f e = cc
excludes-name goal count (names.Kept i cs) goals f e = cc
excludes-name goal count (names.Excludes g cs) goals f e = let size : length cs ≡ count = cc in (record { size = size; each = f.1.each }, numbered-clauses 0 cs)

search-rest-reads : (name : BlockName) (l : QueryLine) (p : Place) → ((t : SearchParts) → FitsSearchParts t → HasFirst l (search_block name t) × (later_of (search_block name t) ≡ search_lines t))
    → ((b : Block) → HasFirst l b → FitsSearchParts (search_parts b) × (search_lines (search_parts b) ≡ later_of b)) → ReadsTo (HasFirst l) later_of p (search_rest name p)
search-rest-reads name l p there back =
    mapped-reads FitsSearchParts search_lines (HasFirst l) later_of (search_block name) search_parts p (and_read (line_read blocked_of p) proof_read) (record { there = there; back = back }) (search-parts-reads p)

clauses-rest-reads : (name : List (List ℤ) → BlockName) (n : ℕ) (l : QueryLine) (p : Place) → n < 2 ^ 32
    → ((t : ClauseParts) → FitsClauseParts n t → HasFirst l (clauses_block name t) × (later_of (clauses_block name t) ≡ clause_part_lines t))
    → ((b : Block) → HasFirst l b → FitsClauseParts n (clause_parts b) × (clause_part_lines (clause_parts b) ≡ later_of b)) → ReadsTo (HasFirst l) later_of p (clauses_rest name n p)
clauses-rest-reads name n l p h there back =
    mapped-reads (FitsClauseParts n) clause_part_lines (HasFirst l) later_of (clauses_block name) clause_parts p (and_read (clauses_read n p) proof_read) (record { there = there; back = back }) (clause-parts-reads n p h)

rest-reads : (l : QueryLine) (p : Place) → FitsLine l → ReadsTo (HasFirst l) later_of p (query_rest l p)
unfolding part_lines
rest-reads (firsts.Sweep step) p f =
    search-rest-reads (names.Sweep step) (firsts.Sweep step) p (λ t g. ((record { query = (f, g.0); proof = g.1 }, refl), refl))
    (λ b h. let told = sweep-name step b.name b.blocked h.0.query h.1 in ((told.0, h.0.proof), ap (λ (ls : List Line). ls ++ proof_lines b.proof) told.1))
rest-reads (firsts.Hop batch step) p f =
    search-rest-reads (names.Hop batch step) (firsts.Hop batch step) p (λ t g. ((record { query = (f.0, f.1, g.0); proof = g.1 }, refl), refl))
    (λ b h. let told = hop-name batch step b.name b.blocked h.0.query h.1 in ((told.0, h.0.proof), ap (λ (ls : List Line). ls ++ proof_lines b.proof) told.1))
rest-reads (firsts.Kept place count) p f =
    clauses-rest-reads (λ cs. names.Kept place cs) count (firsts.Kept place count) p f.1
    (λ t g. (
      (record { query = (f.0, clauses-fit count t.0 f.1 g.0, refl); proof = g.1 }, ap (λ (n : ℕ). firsts.Kept place n) g.0.size),
      ap (λ (ls : List Line). ls ++ proof_lines t.1) (sym (numbered-clauses 0 t.0)),
    ))
    (λ b h. let told = kept-name place count b.name b.blocked h.0.query h.1 in ((told.0, h.0.proof), ap (λ (ls : List Line). ls ++ proof_lines b.proof) told.1))
rest-reads (firsts.Excludes goal count) p f =
    clauses-rest-reads (λ cs. names.Excludes goal cs) count (firsts.Excludes goal count) p f.1
    (λ t g. (
      (record { query = (f.0, clauses-fit count t.0 f.1 g.0, refl); proof = g.1 }, ap (λ (n : ℕ). firsts.Excludes goal n) g.0.size),
      ap (λ (ls : List Line). ls ++ proof_lines t.1) (sym (numbered-clauses 0 t.0)),
    ))
    (λ b h. let told = excludes-name goal count b.name b.blocked h.0.query h.1 in ((told.0, h.0.proof), ap (λ (ls : List Line). ls ++ proof_lines b.proof) told.1))

-- ---- a query
name-are : (name : BlockName) → line_words (first_of name) ≡ name_words name
unfolding name_words
name-are (names.Sweep step) = refl
name-are (names.Hop batch step) = refl
name-are (names.Kept place clauses) = refl
name-are (names.Excludes goal clauses) = refl

query-are : (w : Word) (b : Block) → query_lines w b ≡ one (λ l. w ∷ line_words l) (first_of b.name) ++ later_of b
unfolding query_lines
query-are w b = ap (λ (l : Line). (w ∷ l) ∷ later_of b) (sym (name-are b.name))

name-fits : (name : BlockName) (goals : List ℕ) → FitsQuery name goals → FitsLine (first_of name)
name-fits (names.Sweep step) goals f = f.0
name-fits (names.Hop batch step) goals f = (f.0, f.1)
name-fits (names.Kept place clauses) goals f = (f.0, f.1.count)
name-fits (names.Excludes goal clauses) goals f = (f.0, f.1.count)

-- a block with such a first line
abbrev no_clauses : ℕ → List (List ℤ)
no_clauses n = replicate n []

abbrev name_with : QueryLine → BlockName
name_with (firsts.Sweep step) = names.Sweep step
name_with (firsts.Hop batch step) = names.Hop batch step
name_with (firsts.Kept place count) = names.Kept place (no_clauses count)
name_with (firsts.Excludes goal count) = names.Excludes goal (no_clauses count)

abbrev block_with : QueryLine → Block
block_with l = record { name = name_with l; blocked = []; proof = [] }

count-no_clauses : (n : ℕ) → length (no_clauses n) ≡ n
count-no_clauses n = length-replicate n (let c : List ℤ = [] in c)

no_clauses-fit : (n : ℕ) → n < 2 ^ 32 → FitsClauses (no_clauses n)
no_clauses-fit n h = record { count = (let size = count-no_clauses n in omega arith); each = all-same FitsClause n [] no_literals }

with-query : (l : QueryLine) → FitsLine l → FitsQuery (name_with l) []
with-query (firsts.Sweep step) f = (f, none-blocked)
with-query (firsts.Hop batch step) f = (f.0, f.1, none-blocked)
with-query (firsts.Kept place count) f = (f.0, no_clauses-fit count f.1, refl)
with-query (firsts.Excludes goal count) f = (f.0, no_clauses-fit count f.1, refl)

with-first : (l : QueryLine) → first_of (name_with l) ≡ l
with-first (firsts.Sweep step) = refl
with-first (firsts.Hop batch step) = refl
with-first (firsts.Kept place count) = ap (λ (n : ℕ). firsts.Kept place n) (count-no_clauses count)
with-first (firsts.Excludes goal count) = ap (λ (n : ℕ). firsts.Excludes goal n) (count-no_clauses count)

spent-leads : Leads FitsLine (one spent_words) FitsSpent (query_lines (codes "spent")) (λ (b : Block). first_of b.name) later_of
unfolding query_lines
spent-leads = record {
  fits = λ b f. name-fits b.name b.blocked f.query;
  are = λ b f. query-are (codes "spent") b;
  plain = λ b f. (spent-is_spelling.plain b f).1;
  some = λ l f. block_with l;
  some_fits = λ l f. record { query = with-query l f; proof = no-proof };
  some_head = λ l f. with-first l;
}

spent-reads : (p : Place) → ReadsTo FitsSpent (query_lines (codes "spent")) p (spent_read p)
spent-reads p =
    leads-reads FitsLine (one spent_words) FitsSpent (query_lines (codes "spent")) (λ (b : Block). first_of b.name) later_of p (line_read spent_of p) (λ l. query_rest l.0 l.1)
    (line-is_spelling FitsLine spent_words spent_of spent_parse) spent-leads (line-reads FitsLine spent_words spent_of p spent_parse) (λ l s f _. rest-reads l s f)

-- ---- only searches are refuted
search-query : (name : BlockName) (goals : List ℕ) → FitsSearch name goals → FitsQuery name goals × IsSearch (first_of name)
search-query (names.Sweep t) goals f = (f, f.0)
search-query (names.Hop b t) goals f = (f, (f.0, f.1))
search-query (names.Kept i cs) goals f = absurd f
search-query (names.Excludes g cs) goals f = absurd f

query-search : (l : QueryLine) (name : BlockName) (goals : List ℕ) → IsSearch l → first_of name ≡ l → FitsQuery name goals → FitsSearch name goals
query-search l (names.Sweep t) goals s e f = f
query-search l (names.Hop b t) goals s e f = f
query-search l (names.Kept i cs) goals s e f = absurd (subst IsSearch (sym e) s)
query-search l (names.Excludes g cs) goals s e f = absurd (subst IsSearch (sym e) s)

refute-fits : (l : QueryLine) (b : Block) → IsSearch l → HasFirst l b → FitsRefute b
refute-fits l b s f = record { query = query-search l b.name b.blocked s f.1 f.0.query; proof = f.0.proof }

fits-refute : (b : Block) → FitsRefute b → FitsSpent b
fits-refute b f = record { query = (search-query b.name b.blocked f.query).0; proof = f.proof }

refute-leads : Leads IsSearch (one refute_words) FitsRefute (query_lines (codes "refute")) (λ (b : Block). first_of b.name) later_of
unfolding query_lines
refute-leads = record {
  fits = λ b f. (search-query b.name b.blocked f.query).1;
  are = λ b f. query-are (codes "refute") b;
  plain = λ b f. (refute-is_spelling.plain b f).1;
  some = λ l f. block_with l;
  some_fits = λ l f. refute-fits l (block_with l) f (record { query = with-query l (search-fits l f); proof = no-proof }, with-first l);
  some_head = λ l f. with-first l;
}

refute-rest-reads : (l : QueryLine) (p : Place) → IsSearch l → ReadsTo (λ b. FitsRefute b × (first_of b.name ≡ l)) later_of p (query_rest l p)
refute-rest-reads l p s =
    same-reads (HasFirst l) (λ b. FitsRefute b × (first_of b.name ≡ l)) later_of p (query_rest l p)
    (λ b f. (refute-fits l b s f, f.1)) (λ b f. (fits-refute b f.0, f.1)) (rest-reads l p (search-fits l s))

refute-reads : (p : Place) → ReadsTo FitsRefute (query_lines (codes "refute")) p (refute_read p)
refute-reads p =
    leads-reads IsSearch (one refute_words) FitsRefute (query_lines (codes "refute")) (λ (b : Block). first_of b.name) later_of p (line_read refute_of p) (λ l. query_rest l.0 l.1)
    (line-is_spelling IsSearch refute_words refute_of refute_parse) refute-leads (line-reads IsSearch refute_words refute_of p refute_parse) (λ l s f _. refute-rest-reads l s f)

-- ---- the sections
abbrev no_block : Block
no_block = block_with (firsts.Sweep 0)

no_block-fits : FitsSpent no_block
no_block-fits = record { query = (lit< tt, none-blocked); proof = no-proof }

spent_items : AreItems FitsSpent (λ _ b. query_lines (codes "spent") b)
spent_items = record { each = λ n h. spent-is_spelling; some = no_block; some_fits = no_block-fits }

refute_items : AreItems FitsRefute (λ _ b. query_lines (codes "refute") b)
refute_items = record { each = λ n h. refute-is_spelling; some = no_block; some_fits = record { query = (lit< tt, none-blocked); proof = no-proof } }

pub spents-reads : (p : Place) → ReadsTo (IsCounted FitsSpent) spents_lines p (spents_read p)
spents-reads p =
    section-reads FitsSpent (codes "spents") (λ _ b. query_lines (codes "spent") b) (λ _. spent_read) p spent_items (word-from_test (codes "spents") refl) (count_parse (codes "spents") (word-from_test (codes "spents") refl))
    (λ i s h. spent-reads s)

pub refutes-reads : (p : Place) → ReadsTo (IsCounted FitsRefute) refutes_lines p (refutes_read p)
refutes-reads p =
    section-reads FitsRefute (codes "refutes") (λ _ b. query_lines (codes "refute") b) (λ _. refute_read) p refute_items (word-from_test (codes "refutes") refl) (count_parse (codes "refutes") (word-from_test (codes "refutes") refl))
    (λ i s h. refute-reads s)
