use Rattle.std.proofs.Common.{ap, ◌∙◌}
use Rattle.std.specs.Prelude.{option_copied}
use Rattle.aig_model.specs.Table.{Table}
use Rattle.sim_batch.proofs.LaneWays.{after_seed}
use Rattle.sim_batch.proofs.Shown.{lane_at}
use Rattle.sim_batch.proofs.ways.seed_after.Goals as goal

pub lane_way-requires-clause-lane : goal.lane_way-requires-clause-lane
lane_way-requires-clause-lane c =
    (lane_at c.args.circuit.now c.args.options.now.seed c.args.batch (option_copied c.args.from) c.args.lane c.requires.after.lane c.requires.after.place).0

pub of_way-seed-requires : goal.of_way-seed-requires
of_way-seed-requires c = after_seed c.args.circuit.now c.args.options.now.seed c.args.batch (option_copied c.args.from) c.args.lane c.args.count c.in_ok-way.way c.args.state
    c.are_seeds.ensures c.requires.seed c.in_ok-way.ensures c.requires.after

pub returns : goal.returns
returns c = record {
  lane = c.in_ok-way.ensures.lane;
  place = c.in_ok-way.ensures.place;
  circuit = c.of_way-seed.ensures.circuit;
  start = c.of_way-seed.ensures.start ∙ c.in_ok-way.ensures.start;
  rows = ap (λ (x : Table). x.rows) c.of_way-seed.ensures.rows ∙ c.in_ok-way.ensures.rows;
  holds = c.is_well_formed.ensures;
}
