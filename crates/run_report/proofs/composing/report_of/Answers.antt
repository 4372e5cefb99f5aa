use Rattle.std.proofs.Common.{◌≡◌, length, refl, ap, ◌∙◌, arith}
use Rattle.std.specs.Prelude.{count_by}
use Rattle.std.proofs.lemmas.List.Sums.{count_by-le-length}
use Rattle.run_report.specs.Report.{is_reached, is_unreachable}
use Rattle.run_report.proofs.Counts.{counts_join, open_are}
use Rattle.run_report.proofs.Forms.{few_goals}
use Rattle.run_report.proofs.composing.report_of.Goals as goal

pub overflow_cast-result-4 : goal.overflow_cast-result-4
overflow_cast-result-4 c =
    omega (arith, c.reached_among-reached.ensures, ap (count_by is_reached) c.as_slice.ensures.value, count_by-le-length is_reached c.args.blocks.items, c.requires.each_goal, few_goals c.args.signals.now.lits c.is_well_formed-2.ensures.few)

pub overflow_cast-result-5 : goal.overflow_cast-result-5
overflow_cast-result-5 c =
    omega (arith, c.requires.unreachable, count_by-le-length is_unreachable c.args.blocks.items, c.requires.each_goal, few_goals c.args.signals.now.lits c.is_well_formed-2.ensures.few)

pub overflow_sub-result-2 : goal.overflow_sub-result-2
overflow_sub-result-2 c =
    omega (arith, counts_join c.args.blocks.items, c.requires.unreachable, c.reached_among-reached.ensures, ap (count_by is_reached) c.as_slice.ensures.value, c.len-goals.ensures)

pub returns-clause-holds : goal.returns-clause-holds
returns-clause-holds c = record {
  inputs = c.len.ensures ∙ ap length c.inputs.ensures;
  latches = c.len-2.ensures ∙ ap length c.latches.ensures;
  signals = c.len-3.ensures ∙ ap length c.lits.ensures.value;
  options = refl;
  history = refl;
  seeds = refl;
  invs = refl;
  goals = c.from_vec.ensures;
  spents = refl;
  refutes = refl;
  reached = c.reached_among-reached.ensures ∙ ap (count_by is_reached) c.as_slice.ensures.value;
  unreachable = c.requires.unreachable;
  unsettled = open_are c.args.blocks.items c.len-goals.result c.reached_among-reached.result c.args.unreachable (let size : length c.args.blocks.items ≡ c.len-goals.result = omega (arith, c.len-goals.ensures) in size)
      (c.reached_among-reached.ensures ∙ ap (count_by is_reached) c.as_slice.ensures.value) c.requires.unreachable;
}

pub returns-clause-options : goal.returns-clause-options
returns-clause-options c = record {
  depth = omega arith;
  batches = omega arith;
  length = omega arith;
  stall = omega arith;
  hop = omega arith;
  seed = omega arith;
  lemmas = omega arith;
  strength = omega arith;
  rounds = omega arith;
}
