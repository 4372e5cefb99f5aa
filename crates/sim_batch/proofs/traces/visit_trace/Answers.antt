use Rattle.std.proofs.Common.{◌+◌}
use Rattle.std.specs.Prelude.{option_copied}
use Rattle.sim_batch.proofs.Shown.{lane_at, shows_visit}
use Rattle.sim_batch.proofs.traces.visit_trace.Goals as goal

pub lane_trace-requires-clause-lane : goal.lane_trace-requires-clause-lane
lane_trace-requires-clause-lane c =
    let visited = c.requires.visit.first.visited in
    (lane_at c.args.circuit.now c.args.options.now.seed c.args.batch (option_copied c.args.from) c.args.visit.now.lane visited.lane visited.place).0

pub returns-clause-shows : goal.returns-clause-shows
returns-clause-shows c =
    shows_visit c.args.circuit.now c.args.signals.now.lits c.args.options.now.seed c.args.batch (option_copied c.args.from) (c.requires.visit.last + 1)
    c.args.visit.now.lane c.args.visit.now.step c.args.visit.now.goal c.in_ok-trace.trace c.are_seeds.ensures c.requires.seed c.in_ok-trace.ensures c.requires.visit.first.visited
