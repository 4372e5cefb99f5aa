-- A report's text tells the report.
use Rattle.std.proofs.Common.{◌≡◌, ℕ, [], ◌∷◌, sym, subst₂}
use Rattle.report_text.specs.declared.report.Report.{Report}
use Rattle.report_text.specs.Form.{IsCounted, FitsSeed, FitsBlock, HasForm, OneReport}
use Rattle.report_text.specs.Text.{head_lines, history_lines, seeds_lines, invs_lines, goals_lines, spents_lines, refutes_lines, end_words, report_lines, report_text}
use Rattle.report_text.proofs.Lines.{IsLine, AreLines, text-injective}
use Rattle.report_text.proofs.Pieces.{all-append}
use Rattle.report_text.proofs.HeadLines.{head-plain, head-tells, end-is_line, end-tells}
use Rattle.report_text.proofs.HistoryLines.{history-is_spelling}
use Rattle.report_text.proofs.SeedLines.{seeds-is_spelling}
use Rattle.report_text.proofs.ClauseLines.{invs-is_spelling}
use Rattle.report_text.proofs.GoalLines.{goals-is_spelling}
use Rattle.report_text.proofs.QueryLines.{spents-is_spelling, refutes-is_spelling}

pub report-plain : (r : Report) → HasForm r → AreLines (report_lines r)
unfolding report_lines
report-plain r f =
    all-append IsLine (head_lines r) _ (head-plain r f)
    (all-append IsLine (history_lines r.history) _ (history-is_spelling.plain r.history f.history)
    (all-append IsLine (seeds_lines r.seeds) _ ((seeds-is_spelling r.inputs r.latches).plain r.seeds f.seeds)
    (all-append IsLine (invs_lines r.invs) _ (invs-is_spelling.plain r.invs f.invs)
    (all-append IsLine (goals_lines r.goals) _ ((goals-is_spelling r.inputs r.latches).plain r.goals f.goals)
    (all-append IsLine (spents_lines r.spents) _ (spents-is_spelling.plain r.spents f.spents)
    (all-append IsLine (refutes_lines r.refutes) (end_words r ∷ []) (refutes-is_spelling.plain r.refutes f.refutes) (end-is_line r f, tt)))))))

lines-tell : (r s : Report) → HasForm r → HasForm s → report_lines r ≡ report_lines s → r ≡ s
unfolding report_lines
lines-tell r s f g e =
    let head = head-tells r s _ _ f g e in
    let entries = history-is_spelling.tells r.history s.history _ _ f.history g.history head.1 in
    let seeds = (seeds-is_spelling r.inputs r.latches).tells r.seeds s.seeds _ _ f.seeds
    (subst₂ (λ (i l : ℕ). IsCounted (FitsSeed i l) s.seeds) (sym head.0.inputs) (sym head.0.latches) g.seeds) entries.1 in
    let invs = invs-is_spelling.tells r.invs s.invs _ _ f.invs g.invs seeds.1 in
    let blocks = (goals-is_spelling r.inputs r.latches).tells r.goals s.goals _ _ f.goals
    (subst₂ (λ (i l : ℕ). IsCounted (FitsBlock i l) s.goals) (sym head.0.inputs) (sym head.0.latches) g.goals) invs.1 in
    let spents = spents-is_spelling.tells r.spents s.spents _ _ f.spents g.spents blocks.1 in
    let refutes = refutes-is_spelling.tells r.refutes s.refutes _ _ f.refutes g.refutes spents.1 in
    let ends : end_words r ∷ [] ≡ end_words s ∷ [] = refutes.1 in
    let last : end_words r ≡ end_words s = cc in
    let counts = end-tells r s f g last in
    λ i. record {
      inputs = head.0.inputs i;
      latches = head.0.latches i;
      signals = head.0.signals i;
      options = head.0.options i;
      history = entries.0 i;
      seeds = seeds.0 i;
      invs = invs.0 i;
      goals = blocks.0 i;
      spents = spents.0 i;
      refutes = refutes.0 i;
      reached = counts.reached i;
      unreachable = counts.unreachable i;
      unsettled = counts.unsettled i;
    }

pub one_report : OneReport
unfolding report_text
one_report r s f g e = lines-tell r s f g (text-injective (report_lines r) (report_lines s) (report-plain r f) (report-plain s g) e)
