use Rattle.std.proofs.Common.{◌^◌, ℕ, length, sym, ap, ◌∙◌, arith}
use Rattle.std.specs.Prelude.{count_by}
use Rattle.run_report.specs.Ends.{inv_of}
use Rattle.run_report.specs.Ended.{invs_from}
use Rattle.run_report.specs.Report.{is_unreachable}
use Rattle.run_report.proofs.ReportForm.{report_form}
use Rattle.run_report.proofs.Settling.{posts_below}
use Rattle.run_report.proofs.Told.{IsComposed}
use Rattle.run_report.proofs.Whole.{report_tells}
use Rattle.run_report.proofs.composing.compose.Goals as goal

pub settle-blocks-requires-clause-goals : goal.settle-blocks-requires-clause-goals
settle-blocks-requires-clause-goals c = λ k d l. (
    let below = posts_below c.args.options.now (2 ^ length c.args.signals.now.lits) c.args.posts c.requires.history.legal k d l in
    omega (arith, below, c.in_ok-opens.ensures.size, c.goals-goals.ensures)
    )

composed : (c : goal.After-drop-bounds-3) → IsComposed c.args.circuit.now c.args.signals.now.lits c.args.options.now c.args.posts c.args.ends c.in_ok-bounds.bounds c.in_ok-opens.opens.items c.settle-blocks.result.items c.report_of.result
composed c = record {
  circuit = c.report_of.ensures.circuit;
  signals = c.report_of.ensures.signals;
  history = c.requires.history;
  told = c.requires.ends;
  bounds_are = rw (sym c.goals-goals.ensures) c.in_ok-bounds.ensures;
  opened = rw (sym c.goals-goals.ensures) c.in_ok-opens.ensures;
  after = c.settle-blocks.ensures;
  seeds = c.in_ok-sections.sections.seeds;
  seeds_are = c.in_ok-sections.ensures.seeds;
  invs = c.in_ok-sections.sections.invs;
  invs_are = c.in_ok-sections.ensures.invs ∙ ap (λ (n : ℕ). invs_from n (inv_of c.args.ends.prover)) (c.unreachable_among-unreachable.ensures ∙ ap (count_by is_unreachable) c.as_slice.ensures.value);
  spents = c.in_ok-sections.sections.spents;
  spents_are = c.in_ok-sections.ensures.spents;
  refutes = c.in_ok-sections.sections.refutes;
  refutes_are = c.in_ok-sections.ensures.refutes;
  holds = rw (sym c.in_ok-history.ensures) c.report_of.ensures.holds;
}

pub returns-clause-form : goal.returns-clause-form
returns-clause-form c =
    report_form c.args.circuit.now c.args.signals.now.lits c.args.options.now c.args.posts c.args.ends c.in_ok-bounds.bounds c.in_ok-opens.opens.items c.settle-blocks.result.items c.report_of.result
    (record {
      options = c.report_of.ensures.options;
      ranges = c.requires.options;
      short = c.requires.short;
      basis_literals = c.posts_literals_fit.ensures;
      end_literals = c.ends_literals_fit.ensures;
    })
    (composed c)

pub returns-clause-tells : goal.returns-clause-tells
returns-clause-tells c =
    report_tells c.args.circuit.now c.args.signals.now.lits c.args.options.now c.args.posts c.args.ends c.in_ok-bounds.bounds c.in_ok-opens.opens.items c.settle-blocks.result.items c.report_of.result (composed c)
