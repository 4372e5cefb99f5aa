use Rattle.std.proofs.Common.{ap, ◌∙◌}
use Rattle.std.specs.Prelude.{option_copied}
use Rattle.aig_model.specs.Table.{Table}
use Rattle.sim_batch.proofs.BestSeed.{before_last}
use Rattle.sim_batch.proofs.Shown.{lane_at, shows_visit}
use Rattle.sim_batch.proofs.traces.lane_seed.Goals as goal

pub lane_trace-requires-clause-lane : goal.lane_trace-requires-clause-lane
lane_trace-requires-clause-lane c =
    let visit = c.requires.visit.visited in
    (lane_at c.args.circuit.now c.args.options.now.seed c.args.batch (option_copied c.args.from) c.args.lane visit.lane visit.place).0

pub from_reached-requires : goal.from_reached-requires
from_reached-requires c =
    let visit = c.requires.visit in
    record {
      signals = visit.signals;
      goal = visit.goal;
      shows = shows_visit c.args.circuit.now visit.signals c.args.options.now.seed c.args.batch (option_copied c.args.from) visit.steps c.args.lane c.args.step visit.goal
          c.in_ok-trace.trace c.are_seeds.ensures c.requires.seed c.in_ok-trace.ensures visit.visited;
    }

pub returns : goal.returns
returns c = record {
  lane = c.in_ok-trace.ensures.lane;
  place = c.in_ok-trace.ensures.place;
  circuit = c.in_ok-seed.ensures.circuit;
  start = c.in_ok-seed.ensures.start ∙ c.in_ok-trace.ensures.start;
  rows = ap (λ (x : Table). x.rows) c.in_ok-seed.ensures.rows
      ∙ before_last c.args.circuit.now (option_copied c.args.from) _ c.args.lane c.args.step c.in_ok-trace.trace c.in_ok-trace.ensures;
  holds = c.is_well_formed.ensures;
}
