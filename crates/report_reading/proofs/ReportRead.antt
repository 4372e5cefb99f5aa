-- A report is read as its lines tell it.
use Rattle.std.proofs.Common.{lit<, ◌≡◌, ℕ, ◌<◌, false, Option, List, [], ◌∷◌, ◌++◌, refl, sym, ap, ◌∙◌, subst, append_assoc, Ok}
use Rattle.std.specs.Prelude.{codes}
use Rattle.std.proofs.lemmas.Fmt.{decimal_digit}
use Rattle.sim_walk.specs.declared.options.Options.{Options}
use Rattle.report_text.specs.declared.report.Report.{Report}
use Rattle.report_text.specs.declared.report.SeedLine.{SeedLine}
use Rattle.report_text.specs.declared.report.Inv.{Inv}
use Rattle.report_text.specs.declared.report.Block.{Block}
use Rattle.report_text.specs.Form.{IsCounted, FitsOptions, FitsEntry, FitsSeed, FitsInv, FitsBlock, FitsSpent, FitsRefute, HasForm}
use Rattle.report_text.specs.Text.{Word, Line, options_words, head_lines, history_lines, seeds_lines, invs_lines, goals_lines, spents_lines, refutes_lines, report_lines}
use Rattle.report_text.specs.Text as texts
use Rattle.report_text.proofs.Lines.{IsLine, AreLines}
use Rattle.report_text.proofs.Pieces.{IsSpelling, all-append}
use Rattle.report_text.proofs.HistoryLines.{history-is_spelling}
use Rattle.report_text.proofs.SeedLines.{seeds-is_spelling}
use Rattle.report_text.proofs.ClauseLines.{invs-is_spelling}
use Rattle.report_text.proofs.GoalLines.{goals-is_spelling}
use Rattle.report_text.proofs.QueryLines.{spents-is_spelling, refutes-is_spelling}
use Rattle.report_lines.specs.Reading.{Place, ◌>>=◌, line_read}
use Rattle.report_sections.specs.declared.head.Size.{Size}
use Rattle.report_sections.specs.declared.head.Counts.{Counts}
use Rattle.report_sections.specs.Pieces.{ReadsTo, one, and_read}
use Rattle.report_sections.specs.Head.{title_of, size_of, options_of, end_of}
use Rattle.report_sections.specs.HeadLines.{IsVersion, title_words, FitsSize, size_words, FitsCounts, end_words}
use Rattle.report_sections.specs.History.{history_read}
use Rattle.report_sections.specs.Seeds.{seeds_read}
use Rattle.report_sections.specs.Certs.{invs_read}
use Rattle.report_sections.proofs.LineWords.{line-is_spelling}
use Rattle.report_sections.proofs.Combine.{Leads, leads-reads}
use Rattle.report_sections.proofs.Pairs.{pair-reads, mapped-reads}
use Rattle.report_sections.proofs.HeadRead.{title_parse, size_parse, options_parse, end_parse, title-reads, size-reads, options-reads, end-reads}
use Rattle.report_sections.proofs.HistoryRead.{history-reads}
use Rattle.report_sections.proofs.SeedsRead.{seeds-reads}
use Rattle.report_sections.proofs.CertsRead.{invs-reads}
use Rattle.report_blocks.specs.Goals.{goals_read}
use Rattle.report_blocks.specs.Queries.{spents_read, refutes_read}
use Rattle.report_blocks.proofs.GoalsRead.{goals-reads}
use Rattle.report_blocks.proofs.QueriesRead.{spents-reads, refutes-reads}
use Rattle.report_reading.specs.declared.sections.Head.{Head}
use Rattle.report_reading.specs.declared.sections.Findings.{Findings}
use Rattle.report_reading.specs.declared.sections.Verdicts.{Verdicts}
use Rattle.report_reading.specs.Sections.{to_head, head_read, FindingsFields, to_findings, findings_read, VerdictsFields, to_verdicts, verdicts_read, Rest, rest_read, to_report, report_read}

-- ---- two pieces, one behind the other
and-is_spelling : {A B : Type 0} (F : A → Type 0) (l : A → List Line) (G : B → Type 0) (m : B → List Line) → IsSpelling F l → IsSpelling G m → IsSpelling (λ (t : A × B). F t.0 × G t.1) (λ t. l t.0 ++ m t.1)
and-is_spelling {A} {B} F l G m first second = record {
  plain = λ t f. all-append IsLine (l t.0) (m t.1) (first.plain t.0 f.0) (second.plain t.1 f.1);
  tells = λ s t x y f g e.
      let whole = sym (append_assoc (l s.0) (m s.1) x) ∙ (e ∙ append_assoc (l t.0) (m t.1) y) in
      let one = first.tells s.0 t.0 (m s.1 ++ x) (m t.1 ++ y) f.0 g.0 whole in
      let two = second.tells s.1 t.1 x y f.1 g.1 one.1 in
      ((λ i. (one.0 i, two.0 i)), two.1);
}

no-items : {A : Type 0} (Fits : A → Type 0) → IsCounted Fits []
no-items Fits = record { count = lit< tt; items = tt }

-- ---- the head
abbrev HeadFields : Type 0
HeadFields = ℕ × (Size × Options)

abbrev FitsHeadFields : HeadFields → Type 0
FitsHeadFields t = IsVersion t.0 × (FitsSize t.1.0 × FitsOptions t.1.1)

abbrev head_field_lines : HeadFields → List Line
head_field_lines t = one title_words t.0 ++ (one size_words t.1.0 ++ one options_words t.1.1)

abbrev head_fields : Head → HeadFields
head_fields h = (1, (h.size, h.options))

abbrev FitsHead : Head → Type 0
FitsHead h = FitsSize h.size × FitsOptions h.options

abbrev first_lines : Head → List Line
first_lines h = head_field_lines (head_fields h)

title-spelling : IsSpelling IsVersion (one title_words)
title-spelling = line-is_spelling IsVersion title_words title_of title_parse

size-spelling : IsSpelling FitsSize (one size_words)
size-spelling = line-is_spelling FitsSize size_words size_of size_parse

options-spelling : IsSpelling FitsOptions (one options_words)
options-spelling = line-is_spelling FitsOptions options_words options_of options_parse

end-spelling : IsSpelling FitsCounts (one end_words)
end-spelling = line-is_spelling FitsCounts end_words end_of end_parse

sizes-spelling : IsSpelling (λ (t : Size × Options). FitsSize t.0 × FitsOptions t.1) (λ t. one size_words t.0 ++ one options_words t.1)
sizes-spelling = and-is_spelling FitsSize (one size_words) FitsOptions (one options_words) size-spelling options-spelling

fields-spelling : IsSpelling FitsHeadFields head_field_lines
fields-spelling = and-is_spelling IsVersion (one title_words) (λ (t : Size × Options). FitsSize t.0 × FitsOptions t.1) (λ t. one size_words t.0 ++ one options_words t.1) title-spelling sizes-spelling

head-spelling : IsSpelling FitsHead first_lines
head-spelling = record {
  plain = λ h f. fields-spelling.plain (head_fields h) (refl, f);
  tells = λ a b x y f g e.
      let told = fields-spelling.tells (head_fields a) (head_fields b) x y (refl, f) (refl, g) e in
      (ap to_head told.0, told.1);
}

no_options : Options
no_options = record { depth = 0; batches = 0; length = 0; stall = 0; hop = 0; seed = 0; lemmas = 0; strength = 0; rounds = 0; proofs = false }

no_options-fit : FitsOptions no_options
unfolding no_options
no_options-fit = record {
  depth = lit< tt;
  batches = lit< tt;
  length = lit< tt;
  stall = lit< tt;
  hop = lit< tt;
  seed = lit< tt;
  lemmas = lit< tt;
  strength = lit< tt;
  rounds = lit< tt;
}

no_size : Size
no_size = record { inputs = 0; latches = 0; signals = 0 }

no_size-fits : FitsSize no_size
unfolding no_size
no_size-fits = record { inputs = lit< tt; latches = lit< tt; signals = lit< tt }

sizes-reads : (p : Place) → ReadsTo (λ (t : Size × Options). FitsSize t.0 × FitsOptions t.1) (λ t. one size_words t.0 ++ one options_words t.1) p (and_read (line_read size_of p) (line_read options_of))
sizes-reads p =
    pair-reads FitsSize (one size_words) FitsOptions (one options_words) p (line_read size_of p) (line_read options_of) no_options size-spelling (options-spelling.plain) no_options-fit (size-reads p) options-reads

fields-reads : (p : Place) → ReadsTo FitsHeadFields head_field_lines p (and_read (line_read title_of p) (λ q. and_read (line_read size_of q) (line_read options_of)))
fields-reads p =
    pair-reads IsVersion (one title_words) (λ (t : Size × Options). FitsSize t.0 × FitsOptions t.1) (λ t. one size_words t.0 ++ one options_words t.1) p (line_read title_of p)
    (λ q. and_read (line_read size_of q) (line_read options_of)) (no_size, no_options) title-spelling (sizes-spelling.plain) (no_size-fits, no_options-fit) (title-reads p) sizes-reads

head-reads : (p : Place) → ReadsTo FitsHead first_lines p (head_read p)
head-reads p =
    mapped-reads FitsHeadFields head_field_lines FitsHead first_lines to_head head_fields p (and_read (line_read title_of p) (λ q. and_read (line_read size_of q) (line_read options_of)))
    (record { there = λ t f. (f.1, ap (λ (n : ℕ). one title_words n ++ (one size_words t.1.0 ++ one options_words t.1.1)) (sym f.0)); back = λ h f. ((refl, f), refl) }) (fields-reads p)

-- ---- the sections of what was found
abbrev FitsLater : ℕ → ℕ → List (Option SeedLine) × List Inv → Type 0
FitsLater inputs latches t = IsCounted (FitsSeed inputs latches) t.0 × IsCounted FitsInv t.1

abbrev later_lines : List (Option SeedLine) × List Inv → List Line
later_lines t = seeds_lines t.0 ++ invs_lines t.1

abbrev FitsFound : ℕ → ℕ → FindingsFields → Type 0
FitsFound inputs latches t = IsCounted FitsEntry t.0 × FitsLater inputs latches t.1

abbrev found_lines : FindingsFields → List Line
found_lines t = history_lines t.0 ++ later_lines t.1

abbrev found_fields : Findings → FindingsFields
found_fields v = (v.history, (v.seeds, v.invs))

abbrev FitsFindings : ℕ → ℕ → Findings → Type 0
FitsFindings inputs latches v = FitsFound inputs latches (found_fields v)

abbrev findings_lines : Findings → List Line
findings_lines v = found_lines (found_fields v)

later-spelling : (inputs latches : ℕ) → IsSpelling (FitsLater inputs latches) later_lines
later-spelling inputs latches = and-is_spelling (IsCounted (FitsSeed inputs latches)) seeds_lines (IsCounted FitsInv) invs_lines (seeds-is_spelling inputs latches) invs-is_spelling

found-spelling : (inputs latches : ℕ) → IsSpelling (FitsFound inputs latches) found_lines
found-spelling inputs latches = and-is_spelling (IsCounted FitsEntry) history_lines (FitsLater inputs latches) later_lines history-is_spelling (later-spelling inputs latches)

findings-spelling : (inputs latches : ℕ) → IsSpelling (FitsFindings inputs latches) findings_lines
findings-spelling inputs latches = record {
  plain = λ v f. (found-spelling inputs latches).plain (found_fields v) f;
  tells = λ a b x y f g e.
      let told = (found-spelling inputs latches).tells (found_fields a) (found_fields b) x y f g e in
      (ap to_findings told.0, told.1);
}

later-reads : (inputs latches : ℕ) (p : Place) → ReadsTo (FitsLater inputs latches) later_lines p (and_read (seeds_read inputs latches p) invs_read)
later-reads inputs latches p =
    pair-reads (IsCounted (FitsSeed inputs latches)) seeds_lines (IsCounted FitsInv) invs_lines p (seeds_read inputs latches p) invs_read [] (seeds-is_spelling inputs latches) (invs-is_spelling.plain) (no-items FitsInv)
    (seeds-reads inputs latches p) invs-reads

found-reads : (inputs latches : ℕ) (p : Place) → ReadsTo (FitsFound inputs latches) found_lines p (and_read (history_read p) (λ q. and_read (seeds_read inputs latches q) invs_read))
found-reads inputs latches p =
    pair-reads (IsCounted FitsEntry) history_lines (FitsLater inputs latches) later_lines p (history_read p) (λ q. and_read (seeds_read inputs latches q) invs_read) ([], []) history-is_spelling
    ((later-spelling inputs latches).plain) (no-items (FitsSeed inputs latches), no-items FitsInv) (history-reads p) (later-reads inputs latches)

findings-reads : (inputs latches : ℕ) (p : Place) → ReadsTo (FitsFindings inputs latches) findings_lines p (findings_read inputs latches p)
findings-reads inputs latches p =
    mapped-reads (FitsFound inputs latches) found_lines (FitsFindings inputs latches) findings_lines to_findings found_fields p (and_read (history_read p) (λ q. and_read (seeds_read inputs latches q) invs_read))
    (record { there = λ t f. (f, refl); back = λ v f. (f, refl) }) (found-reads inputs latches p)

-- ---- the sections of the verdicts
abbrev FitsQueries : List Block × List Block → Type 0
FitsQueries t = IsCounted FitsSpent t.0 × IsCounted FitsRefute t.1

abbrev queries_lines : List Block × List Block → List Line
queries_lines t = spents_lines t.0 ++ refutes_lines t.1

abbrev FitsBlocks : ℕ → ℕ → VerdictsFields → Type 0
FitsBlocks inputs latches t = IsCounted (FitsBlock inputs latches) t.0 × FitsQueries t.1

abbrev blocks_lines : VerdictsFields → List Line
blocks_lines t = goals_lines t.0 ++ queries_lines t.1

abbrev verdict_fields : Verdicts → VerdictsFields
verdict_fields v = (v.goals, (v.spents, v.refutes))

abbrev FitsVerdicts : ℕ → ℕ → Verdicts → Type 0
FitsVerdicts inputs latches v = FitsBlocks inputs latches (verdict_fields v)

abbrev verdicts_lines : Verdicts → List Line
verdicts_lines v = blocks_lines (verdict_fields v)

queries-spelling : IsSpelling FitsQueries queries_lines
queries-spelling = and-is_spelling (IsCounted FitsSpent) spents_lines (IsCounted FitsRefute) refutes_lines spents-is_spelling refutes-is_spelling

blocks-spelling : (inputs latches : ℕ) → IsSpelling (FitsBlocks inputs latches) blocks_lines
blocks-spelling inputs latches = and-is_spelling (IsCounted (FitsBlock inputs latches)) goals_lines FitsQueries queries_lines (goals-is_spelling inputs latches) queries-spelling

verdicts-spelling : (inputs latches : ℕ) → IsSpelling (FitsVerdicts inputs latches) verdicts_lines
verdicts-spelling inputs latches = record {
  plain = λ v f. (blocks-spelling inputs latches).plain (verdict_fields v) f;
  tells = λ a b x y f g e.
      let told = (blocks-spelling inputs latches).tells (verdict_fields a) (verdict_fields b) x y f g e in
      (ap to_verdicts told.0, told.1);
}

queries-reads : (p : Place) → ReadsTo FitsQueries queries_lines p (and_read (spents_read p) refutes_read)
queries-reads p =
    pair-reads (IsCounted FitsSpent) spents_lines (IsCounted FitsRefute) refutes_lines p (spents_read p) refutes_read [] spents-is_spelling (refutes-is_spelling.plain) (no-items FitsRefute) (spents-reads p) refutes-reads

blocks-reads : (inputs latches : ℕ) (p : Place) → ReadsTo (FitsBlocks inputs latches) blocks_lines p (and_read (goals_read inputs latches p) (λ q. and_read (spents_read q) refutes_read))
blocks-reads inputs latches p =
    pair-reads (IsCounted (FitsBlock inputs latches)) goals_lines FitsQueries queries_lines p (goals_read inputs latches p) (λ q. and_read (spents_read q) refutes_read) ([], []) (goals-is_spelling inputs latches)
    (queries-spelling.plain) (no-items FitsSpent, no-items FitsRefute) (goals-reads inputs latches p) queries-reads

verdicts-reads : (inputs latches : ℕ) (p : Place) → ReadsTo (FitsVerdicts inputs latches) verdicts_lines p (verdicts_read inputs latches p)
verdicts-reads inputs latches p =
    mapped-reads (FitsBlocks inputs latches) blocks_lines (FitsVerdicts inputs latches) verdicts_lines to_verdicts verdict_fields p (and_read (goals_read inputs latches p) (λ q. and_read (spents_read q) refutes_read))
    (record { there = λ t f. (f, refl); back = λ v f. (f, refl) }) (blocks-reads inputs latches p)

-- ---- what follows the head
abbrev FitsEnding : ℕ → ℕ → Verdicts × Counts → Type 0
FitsEnding inputs latches t = FitsVerdicts inputs latches t.0 × FitsCounts t.1

abbrev ending_lines : Verdicts × Counts → List Line
ending_lines t = verdicts_lines t.0 ++ one end_words t.1

abbrev FitsRest : ℕ → ℕ → Rest → Type 0
FitsRest inputs latches t = FitsFindings inputs latches t.0 × FitsEnding inputs latches t.1

abbrev rest_lines : Rest → List Line
rest_lines t = findings_lines t.0 ++ ending_lines t.1

ending-spelling : (inputs latches : ℕ) → IsSpelling (FitsEnding inputs latches) ending_lines
ending-spelling inputs latches = and-is_spelling (FitsVerdicts inputs latches) verdicts_lines FitsCounts (one end_words) (verdicts-spelling inputs latches) end-spelling

rest-spelling : (inputs latches : ℕ) → IsSpelling (FitsRest inputs latches) rest_lines
rest-spelling inputs latches = and-is_spelling (FitsFindings inputs latches) findings_lines (FitsEnding inputs latches) ending_lines (findings-spelling inputs latches) (ending-spelling inputs latches)

abbrev no_counts : Counts
no_counts = record { reached = 0; unreachable = 0; unsettled = 0 }

no_counts-fit : FitsCounts no_counts
no_counts-fit = record { reached = lit< tt; unreachable = lit< tt; unsettled = lit< tt }

abbrev no_findings : Findings
no_findings = record { history = []; seeds = []; invs = [] }

abbrev no_verdicts : Verdicts
no_verdicts = record { goals = []; spents = []; refutes = [] }

no_findings-fit : (inputs latches : ℕ) → FitsFindings inputs latches no_findings
no_findings-fit inputs latches = (no-items FitsEntry, (no-items (FitsSeed inputs latches), no-items FitsInv))

no_ending-fits : (inputs latches : ℕ) → FitsEnding inputs latches (no_verdicts, no_counts)
no_ending-fits inputs latches = ((no-items (FitsBlock inputs latches), (no-items FitsSpent, no-items FitsRefute)), no_counts-fit)

ending-reads : (inputs latches : ℕ) (p : Place) → ReadsTo (FitsEnding inputs latches) ending_lines p (and_read (verdicts_read inputs latches p) (line_read end_of))
ending-reads inputs latches p =
    pair-reads (FitsVerdicts inputs latches) verdicts_lines FitsCounts (one end_words) p (verdicts_read inputs latches p) (line_read end_of) no_counts (verdicts-spelling inputs latches) (end-spelling.plain) no_counts-fit
    (verdicts-reads inputs latches p) end-reads

rest-reads : (inputs latches : ℕ) (p : Place) → ReadsTo (FitsRest inputs latches) rest_lines p (rest_read inputs latches p)
rest-reads inputs latches p =
    pair-reads (FitsFindings inputs latches) findings_lines (FitsEnding inputs latches) ending_lines p (findings_read inputs latches p) (λ q. and_read (verdicts_read inputs latches q) (line_read end_of)) (no_verdicts, no_counts)
    (findings-spelling inputs latches) ((ending-spelling inputs latches).plain) (no_ending-fits inputs latches) (findings-reads inputs latches p) (ending-reads inputs latches)

-- ---- the whole
abbrev head_of : Report → Head
head_of r = record { size = record { inputs = r.inputs; latches = r.latches; signals = r.signals }; options = r.options }

abbrev counts_of : Report → Counts
counts_of r = record { reached = r.reached; unreachable = r.unreachable; unsettled = r.unsettled }

abbrev rest_of : Report → Rest
rest_of r = (record { history = r.history; seeds = r.seeds; invs = r.invs }, (record { goals = r.goals; spents = r.spents; refutes = r.refutes }, counts_of r))

pub body_lines : Report → List Line
body_lines r = rest_lines (rest_of r)

regroup : (h a b c d e f g : List Line) → h ++ (a ++ (b ++ (c ++ (d ++ (e ++ (f ++ g)))))) ≡ h ++ ((a ++ (b ++ c)) ++ ((d ++ (e ++ f)) ++ g))
regroup h a b c d e f g = simp append_assoc

report-are : (r : Report) → report_lines r ≡ first_lines (head_of r) ++ body_lines r
unfolding report_lines head_lines texts.size_words texts.end_words body_lines
report-are r =
    regroup (head_lines r) (history_lines r.history) (seeds_lines r.seeds) (invs_lines r.invs) (goals_lines r.goals) (spents_lines r.spents) (refutes_lines r.refutes) (texts.end_words r ∷ [])
    ∙ ap (λ (w : Word). (codes "ketch" ∷ w ∷ []) ∷ texts.size_words r ∷ options_words r.options ∷ rest_lines (rest_of r)) (sym (decimal_digit 1 (lit< tt)))

form-head : (r : Report) → HasForm r → FitsHead (head_of r)
form-head r f = (record { inputs = f.inputs; latches = f.latches; signals = f.signals }, f.options)

form-rest : (r : Report) → HasForm r → FitsRest r.inputs r.latches (rest_of r)
form-rest r f = ((f.history, (f.seeds, f.invs)), ((f.goals, (f.spents, f.refutes)), record { reached = f.reached; unreachable = f.unreachable; unsettled = f.unsettled }))

has-form : (h : Head) (t : Rest) → FitsHead h → FitsRest h.size.inputs h.size.latches t → HasForm (to_report h t)
has-form h t f g = record {
  inputs = f.0.inputs;
  latches = f.0.latches;
  signals = f.0.signals;
  options = f.1;
  history = g.0.0;
  seeds = g.0.1.0;
  invs = g.0.1.1;
  goals = g.1.0.0;
  spents = g.1.0.1.0;
  refutes = g.1.0.1.1;
  reached = g.1.1.reached;
  unreachable = g.1.1.unreachable;
  unsettled = g.1.1.unsettled;
}

body-plain : (r : Report) → HasForm r → AreLines (body_lines r)
unfolding body_lines
body-plain r f = (rest-spelling r.inputs r.latches).plain (rest_of r) (form-rest r f)

abbrev no_rest : Rest
no_rest = (no_findings, (no_verdicts, no_counts))

report-leads : Leads FitsHead first_lines HasForm report_lines head_of body_lines
report-leads = record {
  fits = form-head;
  are = λ r f. report-are r;
  plain = body-plain;
  some = λ h f. to_report h no_rest;
  some_fits = λ h f. has-form h no_rest f (no_findings-fit h.size.inputs h.size.latches, no_ending-fits h.size.inputs h.size.latches);
  some_head = λ h f. refl;
}

-- a report with this head
abbrev HasHead : Head → Report → Type 0
HasHead h r = HasForm r × (head_of r ≡ h)

rest-back : (h : Head) (r : Report) → HasHead h r → FitsRest h.size.inputs h.size.latches (rest_of r) × (rest_lines (rest_of r) ≡ body_lines r)
unfolding body_lines
rest-back h r f = (subst (λ (k : Head). FitsRest k.size.inputs k.size.latches (rest_of r)) f.1 (form-rest r f.0), refl)

rest-there : (h : Head) (t : Rest) → FitsHead h → FitsRest h.size.inputs h.size.latches t → HasHead h (to_report h t) × (body_lines (to_report h t) ≡ rest_lines t)
unfolding body_lines
rest-there h t f g = ((has-form h t f g, refl), refl)

behind-reads : (h : Head) (p : Place) → FitsHead h → ReadsTo (HasHead h) body_lines p (rest_read h.size.inputs h.size.latches p >>= λ t. Ok (to_report h t.0, t.1))
behind-reads h p f =
    mapped-reads (FitsRest h.size.inputs h.size.latches) rest_lines (HasHead h) body_lines (to_report h) rest_of p (rest_read h.size.inputs h.size.latches p)
    (record { there = λ t g. rest-there h t f g; back = rest-back h }) (rest-reads h.size.inputs h.size.latches p)

pub report-reads : (p : Place) → ReadsTo HasForm report_lines p (report_read p)
report-reads p =
    leads-reads FitsHead first_lines HasForm report_lines head_of body_lines p (head_read p) (λ h. rest_read h.0.size.inputs h.0.size.latches h.1 >>= λ t. Ok (to_report h.0 t.0, t.1)) head-spelling report-leads (head-reads p)
    (λ h s f _. behind-reads h s f)

-- ---- a report's lines tell the report, whatever follows them
pub report-is_spelling : IsSpelling HasForm report_lines
unfolding body_lines
report-is_spelling = record {
  plain = λ r f. subst AreLines (sym (report-are r)) (all-append IsLine (first_lines (head_of r)) (body_lines r) (head-spelling.plain (head_of r) (form-head r f)) (body-plain r f));
  tells = λ r s x y f g e.
      let open_left = ap (λ (ls : List Line). ls ++ x) (report-are r) ∙ append_assoc (first_lines (head_of r)) (body_lines r) x in
      let open_right = ap (λ (ls : List Line). ls ++ y) (report-are s) ∙ append_assoc (first_lines (head_of s)) (body_lines s) y in
      let heads = head-spelling.tells (head_of r) (head_of s) (body_lines r ++ x) (body_lines s ++ y) (form-head r f) (form-head s g) (sym open_left ∙ (e ∙ open_right)) in
      let rest : FitsRest r.inputs r.latches (rest_of s) = subst (λ (h : Head). FitsRest h.size.inputs h.size.latches (rest_of s)) (sym heads.0) (form-rest s g) in
      let bodies = (rest-spelling r.inputs r.latches).tells (rest_of r) (rest_of s) x y (form-rest r f) rest heads.1 in
      ((λ i. to_report (heads.0 i) (bodies.0 i)), bodies.1);
}
