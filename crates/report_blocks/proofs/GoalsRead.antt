-- The blocks of goals are read as their lines tell them.
use Rattle.std.proofs.Common.{lit<, ◌≡◌, inl, inr, ℕ, ◌<◌, ◌^◌, Bool, false, cond, Option, Some, None, List, [], ◌∷◌, ◌++◌, map, get_or, refl, sym, ap, ◌∙◌, subst, append_assoc, arith}
use Rattle.std.specs.Prelude.{codes, nat_eq, bytes_eq, decimal}
use Rattle.std.specs.Option.{option_map}
use Rattle.std.specs.List.{AllByRecursion}
use Rattle.std.proofs.lemmas.Bool.{eqb-true, eq-eqb}
use Rattle.text_words.specs.Numbers.{decimal_number_of}
use Rattle.aig_model.specs.declared.trace.Trace.{Trace}
use Rattle.lrat_text.specs.declared.proof.LratStep.{LratStep}
use Rattle.report_text.specs.declared.report.HopBound.{HopBound}
use Rattle.report_text.specs.declared.report.HopBound.TheVariants as hop_bounds
use Rattle.report_text.specs.declared.report.GoalBlock.{GoalBlock}
use Rattle.report_text.specs.declared.report.GoalBlock.TheVariants as blocks
use Rattle.report_text.specs.Form.{IsCounted, FitsHop, FitsOpen, FitsProof, FitsTrace, FitsBlock}
use Rattle.report_text.specs.Text.{Word, Line, bound_text, hop_text, open_words, witness_lines, proof_lines, block_lines, goals_lines}
use Rattle.report_text.proofs.Lines.{◌&◌, IsWord, AreLines, word-from_test}
use Rattle.report_text.proofs.Words.{decimal-is_word, decimal-no_letter}
use Rattle.report_text.proofs.Pieces.{all-append}
use Rattle.report_text.proofs.GoalLines.{block-is_spelling}
use Rattle.report_text.proofs.ProofLines.{proof-is_spelling}
use Rattle.report_text.proofs.WitnessLines.{witness-is_spelling}
use Rattle.report_lines.specs.Words.{◌>>?◌, word, both, mapped, behind_name, named, until, whole_line, small_of}
use Rattle.report_lines.specs.Reading.{Place, line_read}
use Rattle.report_sections.specs.Pieces.{ReadsTo, one}
use Rattle.report_sections.specs.Proofs.{proof_read}
use Rattle.report_sections.specs.Seeds.{bound_of}
use Rattle.report_sections.proofs.Sections.{AreItems, IsSmall, passes_none}
use Rattle.report_sections.proofs.LineWords.{IsLineParse, line-reads, line-is_spelling}
use Rattle.report_sections.proofs.Numbers.{IsLong, number_field, small_field, count_parse}
use Rattle.report_sections.proofs.Parses.{IsField, IsParse, some-some, bind-some, cond-some, name-or, made-tells, name-tells, name-back, whole-mapped, field, and_parse, name_parse}
use Rattle.report_sections.proofs.Until.{words-differ, until_parse}
use Rattle.report_sections.proofs.Combine.{section-reads, Leads, leads-reads}
use Rattle.report_sections.proofs.Pairs.{mapped-reads}
use Rattle.report_sections.proofs.ProofRead.{proof-reads}
use Rattle.report_sections.proofs.CertsRead.{no-proof}
use Rattle.report_sections.proofs.SeedsRead.{FitsBound, bound_field, bound-is_word}
use Rattle.report_blocks.specs.declared.goals.GoalLine.{GoalLine}
use Rattle.report_blocks.specs.declared.goals.GoalLine.TheVariants as firsts
use Rattle.report_blocks.specs.Witness.{trace_read}
use Rattle.report_blocks.specs.Goals.{followed, hop_of, reached_of, unreachable_of, depth_of, OpenFields, to_open, open_of, verdict_of, behind_goal, goal_line_of, block_rest, block_read, goals_read}
use Rattle.report_blocks.proofs.Named.{cond-or, Told, named-tells, named-back}
use Rattle.report_blocks.proofs.WitnessRead.{trace-reads, some_trace, some_trace-fits}

-- a name that follows
followed_parse : {A : Type 0} {F : A → Type 0} {v : A → Line} {p : Line → Option (A × Line)} (name : Word) → IsParse F v p → IsParse F (λ a. v a ++ name ∷ []) (followed name p)
followed_parse {A} {F} {v} {p} name good = record {
  tells = λ ws a r e.
      let after : A × Line → Option (A × Line) = λ b. behind_name name b.1 >>? λ l. Some (b.0, l) in
      let first = bind-some (p ws) after (a, r) e in
      let second = bind-some (behind_name name first.0.1) (λ (l : Line). Some (first.0.0, l)) (a, r) first.2 in
      let same = some-some (first.0.0, second.0) (a, r) second.2 in
      let told = good.tells ws first.0.0 first.0.1 first.1 in
      let behind : name ∷ second.0 ≡ first.0.1 = name-tells name first.0.1 second.0 second.1 in
      let joined : (v first.0.0 ++ name ∷ []) ++ second.0 ≡ ws = append_assoc (v first.0.0) (name ∷ []) second.0 ∙ (ap (λ (l : Line). v first.0.0 ++ l) behind ∙ told.1) in
      subst (λ (t : A × Line). F t.0 × ((v t.0 ++ name ∷ []) ++ t.1 ≡ ws)) same (told.0, joined);
  back = λ a r f.
      let after : A × Line → Option (A × Line) = λ b. behind_name name b.1 >>? λ l. Some (b.0, l) in
      ap (λ (l : Line). p l >>? after) (append_assoc (v a) (name ∷ []) r)
      ∙ (ap (λ (o : Option (A × Line)). o >>? after) (good.back a (name ∷ r) f) ∙ ap (λ (o : Option Line). o >>? λ l. Some (a, l)) (name-back name r));
}

-- ---- the bounds of hops
hop-tells : (w : Word) (h : HopBound) → hop_of w ≡ Some h → FitsHop h × (hop_text h ≡ w)
unfolding hop_text
hop-tells w h e =
    let G : Type 0 = FitsHop h × (hop_text h ≡ w) in
    let number = option_map (λ n. hop_bounds.To n) (small_of w) in
    elim (name-or FitsHop hop_text w (codes "none") hop_bounds.Nothing h (cond (bytes_eq w (codes "noseed")) (Some hop_bounds.NoSeed) number) tt refl e) as (λ _. G) [
      | inl g ↦ g
      | inr k ↦ elim (name-or FitsHop hop_text w (codes "noseed") hop_bounds.NoSeed h number tt refl k) as (λ _. G) [ inl g ↦ g | inr m ↦ made-tells FitsHop hop_text small_field (λ n. hop_bounds.To n) (λ n f. (f, refl)) w h m ]
    ]

no-letters : (n : ℕ) (name : Word) → n < 2 ^ 32 → 57 < get_or name 0 0 → bytes_eq (decimal n) name ≡ false
no-letters n name h first = words-differ (decimal n) name (decimal-no_letter n name (omega arith) first)

hop-back : (h : HopBound) → FitsHop h → hop_of (hop_text h) ≡ Some h
unfolding hop_text
hop-back (hop_bounds.To n) f =
    let number = option_map (λ k. hop_bounds.To k) (small_of (decimal n)) in
    ap (λ (t : Bool). cond t (Some hop_bounds.Nothing) (cond (bytes_eq (decimal n) (codes "noseed")) (Some hop_bounds.NoSeed) number)) (no-letters n (codes "none") f (omega arith))
    ∙ (ap (λ (t : Bool). cond t (Some hop_bounds.NoSeed) number) (no-letters n (codes "noseed") f (omega arith)) ∙ ap (option_map (λ k. hop_bounds.To k)) (small_field.back n f))
hop-back hop_bounds.Nothing f = refl
hop-back hop_bounds.NoSeed f = refl

hop_field : IsField FitsHop hop_text hop_of
hop_field = record { tells = hop-tells; back = hop-back }

no-hop : (h : HopBound) → FitsHop h → hop_text h ≡ codes "strength" → ⊥
unfolding hop_text
no-hop (hop_bounds.To n) f e = decimal-no_letter n (codes "strength") (let small : n < 2 ^ 32 = f in omega arith) (omega arith) e
no-hop hop_bounds.Nothing f e = omega (arith, ap (λ (w : Word). get_or w 0 0) e)
no-hop hop_bounds.NoSeed f e = omega (arith, ap (λ (w : Word). get_or w 0 0) e)

-- ---- the first line of a block
abbrev FitsLine : GoalLine → Type 0
FitsLine (firsts.Reached n) = n < 2 ^ 64
FitsLine (firsts.Unreachable n inv) = (n < 2 ^ 64) × (inv < 2 ^ 32)
FitsLine (firsts.Open depth hops strength) = FitsOpen depth hops strength

-- the words behind the goal's number
abbrev verdict_words : GoalLine → Line
verdict_words (firsts.Reached n) = codes "reached" ∷ decimal n ∷ []
verdict_words (firsts.Unreachable n inv) = codes "unreachable" ∷ decimal n ∷ codes "inv" ∷ decimal inv ∷ []
verdict_words (firsts.Open depth hops strength) =
    codes "open" ∷ codes "depth" ∷ bound_text depth ∷ codes "hops" ∷ (map hop_text hops ++ codes "strength" ∷ bound_text strength ∷ [])

abbrev line_words : ℕ → GoalLine → Line
line_words goal l = codes "goal" ∷ decimal goal ∷ verdict_words l

-- the words behind the name of a verdict
verdict-named : {A : Type 0} {F : A → Type 0} {v : A → Line} {p : Line → Option (A × Line)} (w name : Word) → IsParse F v p → (make : A → GoalLine) → ((a : A) → F a → Told FitsLine verdict_words (make a) (name ∷ v a))
    → (ws : Line) (l : GoalLine) → (w ≡ name) × (whole_line (mapped make p) ws ≡ Some l) → Told FitsLine verdict_words l (w ∷ ws)
verdict-named {A} {F} {v} {p} w name good make fits ws l e = named-tells FitsLine verdict_words w name good make fits ws l (e.0, sym (whole-mapped make p ws) ∙ e.1)

named-verdict : {A : Type 0} {F : A → Type 0} {v : A → Line} {p : Line → Option (A × Line)} → IsParse F v p → (make : A → GoalLine) (a : A) → F a → whole_line (mapped make p) (v a) ≡ Some (make a)
named-verdict {A} {F} {v} {p} good make a f = whole-mapped make p (v a) ∙ named-back good make a f

abbrev Numbers : ℕ × ℕ → Type 0
Numbers t = IsLong t.0 × IsSmall t.1

abbrev number_inv : ℕ × ℕ → Line
number_inv t = decimal t.0 ∷ codes "inv" ∷ decimal t.1 ∷ []

inv_parse : IsParse Numbers number_inv (both (word decimal_number_of) (named (codes "inv") (word small_of)))
inv_parse = and_parse (field number_field) (name_parse (codes "inv") (field small_field))

abbrev Bounds : OpenFields → Type 0
Bounds t = FitsBound t.0 × (AllByRecursion FitsHop t.1.0 × FitsBound t.1.1)

abbrev bounds_words : OpenFields → Line
bounds_words t = (codes "depth" ∷ bound_text t.0 ∷ codes "hops" ∷ []) ++ ((map hop_text t.1.0 ++ codes "strength" ∷ []) ++ bound_text t.1.1 ∷ [])

abbrev open_parts : Line → Option (OpenFields × Line)
open_parts ws = both depth_of (both (until (codes "strength") hop_of []) (word bound_of)) ws

open_parse : IsParse Bounds bounds_words open_parts
open_parse = and_parse (name_parse (codes "depth") (followed_parse (codes "hops") (field bound_field))) (and_parse (until_parse FitsHop hop_text hop_of (codes "strength") hop_field no-hop) (field bound_field))

bounds-open : (t : OpenFields) → bounds_words t ≡ codes "depth" ∷ bound_text t.0 ∷ codes "hops" ∷ (map hop_text t.1.0 ++ codes "strength" ∷ bound_text t.1.1 ∷ [])
bounds-open t = ap (λ (r : Line). codes "depth" ∷ bound_text t.0 ∷ codes "hops" ∷ r) (append_assoc (map hop_text t.1.0) (codes "strength" ∷ []) (bound_text t.1.1 ∷ []))

open-fits : (t : OpenFields) → Bounds t → Told FitsLine verdict_words (to_open t) (codes "open" ∷ bounds_words t)
open-fits t f = (record { depth_fits = f.0; hops_fit = f.1.0; strength_fits = f.1.1 }, ap (λ (r : Line). codes "open" ∷ r) (sym (bounds-open t)))

verdict-tells : (ws : Line) (l : GoalLine) → verdict_of ws ≡ Some l → Told FitsLine verdict_words l ws
verdict-tells [] l e = cc
verdict-tells (w ∷ ws) l e =
    let G : Type 0 = Told FitsLine verdict_words l (w ∷ ws) in
    let open_or = cond (bytes_eq w (codes "open")) (open_of ws) None in
    elim (cond-or w (codes "reached") (reached_of ws) (cond (bytes_eq w (codes "unreachable")) (unreachable_of ws) open_or) l e) as (λ _. G) [
      | inl g ↦ verdict-named w (codes "reached") (field number_field) (λ n. firsts.Reached n) (λ n f. (f, refl)) ws l g
      | inr h ↦ elim (cond-or w (codes "unreachable") (unreachable_of ws) open_or l h) as (λ _. G) [
        | inl g ↦ verdict-named w (codes "unreachable") inv_parse (λ t. firsts.Unreachable t.0 t.1) (λ t f. ((f.0, f.1), refl)) ws l g
        | inr k ↦ elim (cond-or w (codes "open") (open_of ws) None l k) as (λ _. G) [ inl g ↦ verdict-named w (codes "open") open_parse to_open open-fits ws l g | inr m ↦ cc ]
      ]
    ]

verdict-back : (l : GoalLine) → FitsLine l → verdict_of (verdict_words l) ≡ Some l
verdict-back (firsts.Reached n) f = named-verdict (field number_field) (λ k. firsts.Reached k) n f
verdict-back (firsts.Unreachable n inv) f = named-verdict inv_parse (λ t. firsts.Unreachable t.0 t.1) (n, inv) (f.0, f.1)
verdict-back (firsts.Open depth hops strength) f =
    ap open_of (sym (bounds-open (depth, (hops, strength)))) ∙ named-verdict open_parse to_open (depth, (hops, strength)) (f.depth_fits, (f.hops_fit, f.strength_fits))

-- the goal's number, before them
goal-tells : (goal : ℕ) (ws r : Line) → behind_goal goal ws ≡ Some r → codes "goal" ∷ decimal goal ∷ r ≡ ws
goal-tells goal ws r e =
    let after : ℕ × Line → Option Line = λ n. cond (nat_eq n.0 goal) (Some n.1) None in
    let first = bind-some (behind_name (codes "goal") ws) (λ (l : Line). word small_of l >>? after) r e in
    let second = bind-some (word small_of first.0) after r first.2 in
    let both = cond-some (nat_eq second.0.0 goal) second.0.1 r second.2 in
    let told = (field small_field).tells first.0 second.0.0 second.0.1 second.1 in
    let number : second.0.0 ≡ goal = eqb-true second.0.0 goal both.0 in
    let rest : decimal goal ∷ r ≡ first.0 = ap (λ (l : Line). decimal goal ∷ l) (sym both.1) ∙ (ap (λ (n : ℕ). decimal n ∷ second.0.1) (sym number) ∙ told.1) in
    ap (λ (l : Line). codes "goal" ∷ l) rest ∙ name-tells (codes "goal") ws first.0 first.1

goal-back : (goal : ℕ) (r : Line) → goal < 2 ^ 32 → behind_goal goal (codes "goal" ∷ decimal goal ∷ r) ≡ Some r
goal-back goal r h =
    let after : ℕ × Line → Option Line = λ n. cond (nat_eq n.0 goal) (Some n.1) None in
    ap (λ (o : Option Line). o >>? λ l. word small_of l >>? after) (name-back (codes "goal") (decimal goal ∷ r))
    ∙ (ap (λ (o : Option (ℕ × Line)). o >>? after) ((field small_field).back goal r h) ∙ ap (λ (t : Bool). cond t (Some r) None) (eq-eqb goal goal refl))

hops-are_words : (hs : List HopBound) → AllByRecursion FitsHop hs → AllByRecursion IsWord (map hop_text hs)
unfolding hop_text
hops-are_words [] f = tt
hops-are_words (hop_bounds.To n ∷ hs) f = (decimal-is_word n (let small : n < 2 ^ 32 = f.0 in omega arith), hops-are_words hs f.1)
hops-are_words (hop_bounds.Nothing ∷ hs) f = (word-from_test (codes "none") refl, hops-are_words hs f.1)
hops-are_words (hop_bounds.NoSeed ∷ hs) f = (word-from_test (codes "noseed") refl, hops-are_words hs f.1)

verdict-is_line : (l : GoalLine) → FitsLine l → AllByRecursion IsWord (verdict_words l)
verdict-is_line (firsts.Reached n) f = word-from_test (codes "reached") refl & decimal-is_word n f & tt
verdict-is_line (firsts.Unreachable n inv) f =
    word-from_test (codes "unreachable") refl & decimal-is_word n f.0 & word-from_test (codes "inv") refl & decimal-is_word inv (let small : inv < 2 ^ 32 = f.1 in omega arith) & tt
verdict-is_line (firsts.Open depth hops strength) f =
    word-from_test (codes "open") refl & word-from_test (codes "depth") refl & bound-is_word depth f.depth_fits & word-from_test (codes "hops") refl
    & all-append IsWord (map hop_text hops) (codes "strength" ∷ bound_text strength ∷ []) (hops-are_words hops f.hops_fit) (word-from_test (codes "strength") refl & bound-is_word strength f.strength_fits & tt)

goal_parse : (goal : ℕ) → goal < 2 ^ 32 → IsLineParse FitsLine (line_words goal) (goal_line_of goal)
goal_parse goal h = record {
  plain = λ l f. word-from_test (codes "goal") refl & decimal-is_word goal (omega arith) & verdict-is_line l f;
  tells = λ ws l e.
      let first = bind-some (behind_goal goal ws) verdict_of l e in
      let told = verdict-tells first.0 l first.2 in
      (told.0, ap (λ (r : Line). codes "goal" ∷ decimal goal ∷ r) told.1 ∙ goal-tells goal ws first.0 first.1);
  back = λ l f. ap (λ (o : Option Line). o >>? verdict_of) (goal-back goal (verdict_words l) h) ∙ verdict-back l f;
  some = firsts.Reached 0;
  some_fits = lit< tt;
}

-- ---- a block
abbrev first_of : GoalBlock → GoalLine
first_of (blocks.Reached n witness) = firsts.Reached n
first_of (blocks.Unreachable n inv proof) = firsts.Unreachable n inv
first_of (blocks.Open depth hops strength) = firsts.Open depth hops strength

abbrev later_of : ℕ → GoalBlock → List Line
later_of goal (blocks.Reached n witness) = witness_lines goal witness
later_of goal (blocks.Unreachable n inv proof) = proof_lines proof
later_of goal (blocks.Open depth hops strength) = []

first-fits : (inputs latches : ℕ) (b : GoalBlock) → FitsBlock inputs latches b → FitsLine (first_of b)
first-fits inputs latches (blocks.Reached n witness) f = f.0
first-fits inputs latches (blocks.Unreachable n inv proof) f = (f.number_fits, f.inv_fits)
first-fits inputs latches (blocks.Open depth hops strength) f = f

block-are : (goal : ℕ) (b : GoalBlock) → block_lines goal b ≡ one (line_words goal) (first_of b) ++ later_of goal b
unfolding block_lines open_words
block-are goal (blocks.Reached n witness) = refl
block-are goal (blocks.Unreachable n inv proof) = refl
block-are goal (blocks.Open depth hops strength) = refl

later-plain : (inputs latches goal : ℕ) (b : GoalBlock) → goal < 2 ^ 32 → FitsBlock inputs latches b → AreLines (later_of goal b)
later-plain inputs latches goal (blocks.Reached n witness) h f = (witness-is_spelling inputs latches goal (omega arith)).plain witness f.1
later-plain inputs latches goal (blocks.Unreachable n inv proof) h f = proof-is_spelling.plain proof f.proof
later-plain inputs latches goal (blocks.Open depth hops strength) h f = tt

abbrev block_with : ℕ → ℕ → GoalLine → GoalBlock
block_with inputs latches (firsts.Reached n) = blocks.Reached n (some_trace inputs latches)
block_with inputs latches (firsts.Unreachable n inv) = blocks.Unreachable n inv []
block_with inputs latches (firsts.Open depth hops strength) = blocks.Open depth hops strength

with-fits : (inputs latches : ℕ) (l : GoalLine) → FitsLine l → FitsBlock inputs latches (block_with inputs latches l)
with-fits inputs latches (firsts.Reached n) f = (f, some_trace-fits inputs latches)
with-fits inputs latches (firsts.Unreachable n inv) f = record { number_fits = f.0; inv_fits = f.1; proof = no-proof }
with-fits inputs latches (firsts.Open depth hops strength) f = f

with-first : (inputs latches : ℕ) (l : GoalLine) → first_of (block_with inputs latches l) ≡ l
with-first inputs latches (firsts.Reached n) = refl
with-first inputs latches (firsts.Unreachable n inv) = refl
with-first inputs latches (firsts.Open depth hops strength) = refl

block-leads : (inputs latches goal : ℕ) → goal < 2 ^ 32 → Leads FitsLine (one (line_words goal)) (FitsBlock inputs latches) (block_lines goal) first_of (later_of goal)
block-leads inputs latches goal h = record {
  fits = first-fits inputs latches;
  are = λ b f. block-are goal b;
  plain = λ b f. later-plain inputs latches goal b h f;
  some = λ l f. block_with inputs latches l;
  some_fits = with-fits inputs latches;
  some_head = λ l f. with-first inputs latches l;
}

-- a block whose first line is this one
abbrev HasFirst : ℕ → ℕ → GoalLine → GoalBlock → Type 0
HasFirst inputs latches l b = FitsBlock inputs latches b × (first_of b ≡ l)

abbrev witness_of : ℕ → ℕ → GoalBlock → Trace
witness_of inputs latches (blocks.Reached n witness) = witness
witness_of inputs latches (blocks.Unreachable n inv proof) = some_trace inputs latches
witness_of inputs latches (blocks.Open depth hops strength) = some_trace inputs latches

abbrev proof_of : GoalBlock → List LratStep
proof_of (blocks.Reached n witness) = []
proof_of (blocks.Unreachable n inv proof) = proof
proof_of (blocks.Open depth hops strength) = []

reached-back : (inputs latches goal n : ℕ) (b : GoalBlock) → HasFirst inputs latches (firsts.Reached n) b
    → FitsTrace inputs latches (witness_of inputs latches b) × (witness_lines goal (witness_of inputs latches b) ≡ later_of goal b)
reached-back inputs latches goal n (blocks.Reached m witness) f = (f.0.1, refl)
reached-back inputs latches goal n (blocks.Unreachable m inv proof) f = let none : firsts.Unreachable m inv ≡ firsts.Reached n = f.1 in cc
reached-back inputs latches goal n (blocks.Open depth hops strength) f = let none : firsts.Open depth hops strength ≡ firsts.Reached n = f.1 in cc

unreachable-back : (inputs latches goal n inv : ℕ) (b : GoalBlock) → HasFirst inputs latches (firsts.Unreachable n inv) b → FitsProof (proof_of b) × (proof_lines (proof_of b) ≡ later_of goal b)
unreachable-back inputs latches goal n inv (blocks.Reached m witness) f = let none : firsts.Reached m ≡ firsts.Unreachable n inv = f.1 in cc
unreachable-back inputs latches goal n inv (blocks.Unreachable m i proof) f = (f.0.proof, refl)
unreachable-back inputs latches goal n inv (blocks.Open depth hops strength) f = let none : firsts.Open depth hops strength ≡ firsts.Unreachable n inv = f.1 in cc

rest-reads : (inputs latches goal : ℕ) (l : GoalLine) (p : Place) → goal < 2 ^ 32 → FitsLine l → ReadsTo (HasFirst inputs latches l) (later_of goal) p (block_rest inputs latches goal l p)
rest-reads inputs latches goal (firsts.Reached n) p h f =
    mapped-reads (FitsTrace inputs latches) (witness_lines goal) (HasFirst inputs latches (firsts.Reached n)) (later_of goal) (λ t. blocks.Reached n t) (witness_of inputs latches) p (trace_read inputs latches goal p)
    (record { there = λ t g. (((f, g), refl), refl); back = reached-back inputs latches goal n }) (trace-reads inputs latches goal p h)
rest-reads inputs latches goal (firsts.Unreachable n inv) p h f =
    mapped-reads FitsProof proof_lines (HasFirst inputs latches (firsts.Unreachable n inv)) (later_of goal) (λ q. blocks.Unreachable n inv q) proof_of p (proof_read p)
    (record { there = λ q g. ((record { number_fits = f.0; inv_fits = f.1; proof = g }, refl), refl); back = unreachable-back inputs latches goal n inv }) (proof-reads p)
rest-reads inputs latches goal (firsts.Open depth hops strength) p h f = ((f, refl), passes_none p)

block-reads : (inputs latches goal : ℕ) (p : Place) → goal < 2 ^ 32 → ReadsTo (FitsBlock inputs latches) (block_lines goal) p (block_read inputs latches goal p)
block-reads inputs latches goal p h =
    let parse = goal_parse goal h in
    leads-reads FitsLine (one (line_words goal)) (FitsBlock inputs latches) (block_lines goal) first_of (later_of goal) p (line_read (goal_line_of goal) p) (λ l. block_rest inputs latches goal l.0 l.1)
    (line-is_spelling FitsLine (line_words goal) (goal_line_of goal) parse) (block-leads inputs latches goal h) (line-reads FitsLine (line_words goal) (goal_line_of goal) p parse)
    (λ l s f _. rest-reads inputs latches goal l s h f)

-- ---- the section
abbrev no_block : GoalBlock
no_block = blocks.Open None [] None

no_block-fits : (inputs latches : ℕ) → FitsBlock inputs latches no_block
no_block-fits inputs latches = record { depth_fits = tt; hops_fit = tt; strength_fits = tt }

block_items : (inputs latches : ℕ) → AreItems (FitsBlock inputs latches) block_lines
block_items inputs latches = record { each = block-is_spelling inputs latches; some = no_block; some_fits = no_block-fits inputs latches }

pub goals-reads : (inputs latches : ℕ) (p : Place) → ReadsTo (IsCounted (FitsBlock inputs latches)) goals_lines p (goals_read inputs latches p)
goals-reads inputs latches p =
    section-reads (FitsBlock inputs latches) (codes "goals") block_lines (block_read inputs latches) p (block_items inputs latches) (word-from_test (codes "goals") refl)
    (count_parse (codes "goals") (word-from_test (codes "goals") refl)) (λ i s h. block-reads inputs latches i s h)
