use Rattle.std.proofs.Common.{◌+◌, Bool, List, refl, subst, ◌∙◌, arith}
use Rattle.std.proofs.lemmas.Bool.{false≢true}
use Rattle.aig_model.proofs.OneGoal.{goal_of-lt}
use Rattle.aig_model.specs.Meaning.{IsStep, IsLegal, next_values}
use Rattle.sim_walk.specs.Zero.{zero_row}
use Rattle.sim_walk.proofs.Walked.{walked_none, walked_wide, walked_step, walked_whole, walked_stopped, walked_full}
use Rattle.sim_walk.proofs.walk.zero_walk.Goals as goal

pub loop-step-init : goal.loop-step-init
loop-step-init c = record {
  walked = rw (c.in_ok-visits.ensures.visits, c.in_ok-state.ensures) (walked_none c.args.circuit.now c.args.signals.now.lits c.args.options.now.length);
  goals = c.in_ok-visits.ensures.goals ∙ c.goals.ensures;
}

pub step_values-requires-clause-state : goal.step_values-requires-clause-state
step_values-requires-clause-state c =
    walked_wide c.args.circuit.now c.args.signals.now.lits c.args.options.now.length c.loop-step.step c.loop-step.state c.loop-step.visits.visits c.loop-step.invariant.walked

pub returns-in_default : goal.returns-in_default
returns-in_default c =
    let circuit = c.args.circuit.now in
    let values = c.in_ok-values.values in
    let step : IsStep circuit c.loop-step.state (zero_row circuit) values = subst (λ (row : List Bool). IsStep circuit c.loop-step.state row values) c.in_ok-row.ensures c.in_ok-values.ensures in
    rw c.into_visits.ensures
    (walked_stopped circuit c.args.signals.now.lits c.args.options.now.length c.loop-step.step c.loop-step.state c.loop-step.visits.visits values
    c.is_well_formed.ensures c.loop-step.invariant.walked step (λ legal. false≢true (c.in_default.ensures.legal.1 legal)))

pub add-requires : goal.add-requires
add-requires c = omega (arith, c.in-Some.ensures.goal, goal_of-lt c.args.signals.now.lits c.in_ok-values.values, c.loop-step.invariant.goals)

pub returns-then-is_complete : goal.returns-then-is_complete
returns-then-is_complete c =
    let circuit = c.args.circuit.now in
    let values = c.in_ok-values.values in
    let step : IsStep circuit c.loop-step.state (zero_row circuit) values = subst (λ (row : List Bool). IsStep circuit c.loop-step.state row values) c.in_ok-row.ensures c.in_ok-values.ensures in
    rw c.into_visits-then-is_complete.ensures
    (walked_full circuit c.args.signals.now.lits c.args.options.now.length (c.loop-step.step + 1) (next_values circuit values) c.add.new.self.visits
    (walked_step circuit c.args.signals.now.lits c.args.options.now.length c.loop-step.step c.loop-step.state c.loop-step.visits.visits c.add.new.self.visits
    (record { goal = c.in-Some.goal; lane = 0; step = c.loop-step.step }) values c.is_well_formed.ensures c.loop-step.invariant.walked step (c.in-Some.ensures.legal.0 refl)
    (omega arith) c.in_ok-add.ensures.ok c.in-Some.ensures.goal refl refl)
    (c.if-is_complete.ensures.0 refl ∙ (c.in_ok-add.ensures.goals ∙ c.loop-step.invariant.goals)))

pub loop-step-preserved : goal.loop-step-preserved
loop-step-preserved c =
    let circuit = c.args.circuit.now in
    let values = c.in_ok-values.values in
    let step : IsStep circuit c.loop-step.state (zero_row circuit) values = subst (λ (row : List Bool). IsStep circuit c.loop-step.state row values) c.in_ok-row.ensures c.in_ok-values.ensures in
    let legal : IsLegal circuit values = c.in-Some.ensures.legal.0 refl in
    record {
      walked = rw c.in_ok-state-2.ensures (walked_step circuit c.args.signals.now.lits c.args.options.now.length c.loop-step.step c.loop-step.state c.loop-step.visits.visits c.add.new.self.visits
          (record { goal = c.in-Some.goal; lane = 0; step = c.loop-step.step }) values c.is_well_formed.ensures c.loop-step.invariant.walked step legal
          (omega arith) c.in_ok-add.ensures.ok c.in-Some.ensures.goal refl refl);
      goals = c.in_ok-add.ensures.goals ∙ c.loop-step.invariant.goals;
    }

pub returns : goal.returns
returns c =
    rw c.into_visits-2.ensures
    (walked_whole c.args.circuit.now c.args.signals.now.lits c.args.options.now.length c.loop-step.step c.loop-step.state c.loop-step.visits.visits
    c.is_well_formed.ensures c.loop-step.invariant.walked (omega arith))
