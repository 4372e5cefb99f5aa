use Rattle.sim_walk.proofs.Shown.{visit_shows}
use Rattle.sim_walk.proofs.walk.zero_trace.Goals as goal

pub returns-clause-shows : goal.returns-clause-shows
returns-clause-shows c =
    λ j g v.
    visit_shows c.args.circuit.now c.args.signals.now.lits c.args.options.now.length j c.args.step g _
    (record { start = c.in_ok-start.ensures; width = c.in_ok-rows.ensures.width; rows = c.in_ok-rows.ensures.rows }) v
