use Rattle.std.proofs.Common.{ap, ◌∙◌}
use Rattle.aig_model.specs.Meaning.{goal_of}
use Rattle.hop_search.proofs.NewGoals.{last_values}
use Rattle.hop_search.proofs.search.goal_and_trace.Goals as goal

pub returns-clause-goal : goal.returns-clause-goal
returns-clause-goal c =
    c.goal_of-goal.ensures
    ∙ ap (goal_of c.args.signals.now.lits)
    (last_values c.args.circuit.now c.args.step c.top.result c.args.model.now c.in_ok-values.values c.top.ensures.value c.in_ok-values.ensures)
