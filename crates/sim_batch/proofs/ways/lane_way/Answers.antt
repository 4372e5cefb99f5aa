use Rattle.std.proofs.Common.{ap}
use Rattle.std.specs.Prelude.{option_copied}
use Rattle.sim_batch.proofs.LaneWays.{way_none, way_some}
use Rattle.sim_batch.proofs.ways.lane_way.Goals as goal

pub returns-in-None : goal.returns-in-None
returns-in-None c =
    way_none c.args.circuit.now c.args.options.now.seed c.args.batch (option_copied c.args.from) c.in_ok-words.words.items c.args.lane c.args.count _
    (ap option_copied c.in-None.is) c.requires.lane (rw (← c.batch_generator-generator.ensures) c.in_ok-words.ensures.words)
    (rw (← c.as_slice.ensures.value) c.in_ok-start-in-None.ensures) c.in_ok-rows.ensures.width (rw (← c.batch_generator-generator.ensures, ← c.in_ok-words.ensures.generator) c.in_ok-rows.ensures.rows)

pub returns : goal.returns
returns c =
    way_some c.args.circuit.now c.args.options.now.seed c.args.batch (option_copied c.args.from) c.in-Some.seed.now c.in_ok-rows.rows.rows c.args.lane c.args.count _
    (ap option_copied c.in-Some.is) c.requires.lane c.are_seeds.ensures c.requires.seed c.in_ok-trace-in-Some.ensures.start c.in_ok-trace-in-Some.ensures.width
    c.in_ok-trace-in-Some.ensures.rows (rw (← c.batch_generator-generator.ensures, ← c.in_ok-words.ensures.generator) c.in_ok-rows.ensures.rows)
