use Rattle.std.proofs.Common.{Bool, List, length, ap, ◌∙◌, subst, arith}
use Rattle.aig_model.specs.Meaning.{IsStep}
use Rattle.aig_model.proofs.Paths.{length-next_values}
use Rattle.sim_batch.proofs.Seeded.{goes_on}
use Rattle.sim_batch.proofs.seed.state_after.Goals as goal

pub loop-step-init : goal.loop-step-init
loop-step-init c = record { size = ap length c.in_ok-state.ensures ∙ c.requires.start; leads = λ frames inputs path. c.in_ok-state.ensures }

pub loop-step-preserved : goal.loop-step-preserved
loop-step-preserved c =
    let P = λ (row : List Bool). IsStep c.args.circuit.now c.loop-step.state row c.in_ok-values.values in
    let step = subst P c.in_ok-row.ensures.row c.in_ok-values.ensures in
    record {
      size = ap length c.in_ok-state-2.ensures ∙ length-next_values c.args.circuit.now c.in_ok-values.values;
      leads = λ frames inputs path. c.in_ok-state-2.ensures
          ∙ goes_on c.args.circuit.now c.args.trace.now.start frames c.args.trace.now.rows.rows c.loop-step.step c.loop-step.state c.in_ok-values.values
          c.is_well_formed.ensures inputs path (omega arith) (c.loop-step.invariant.leads frames inputs path) step;
    }
