use Rattle.std.proofs.Common.{◌≡◌, ℕ, ◌+◌, ◌-◌, ◌<◌, get_or, arith}
use Rattle.std.specs.Prelude.{option_copied}
use Rattle.std.proofs.lemmas.List.{length-map}
use Rattle.sim_batch.specs.Steps.{goal_count}
use Rattle.sim_batch.proofs.BestSeed.{best_is, none_visits, last_visit}
use Rattle.sim_batch.proofs.batch.batch_seed.Goals as goal

pub returns-then-lived-eq0 : goal.returns-then-lived-eq0
returns-then-lived-eq0 c = λ steps are. none_visits c.args.circuit.now c.args.signals.now.lits c.args.options.now.seed c.args.batch (option_copied c.args.from) steps c.args.lanes.now
    c.best_lane-best.result c.index-lanes-best.result c.requires.walked.size are c.best_lane-best.ensures c.if-lived-eq0.true

pub lane_seed-requires-clause-visit : goal.lane_seed-requires-clause-visit
lane_seed-requires-clause-visit c =
    let within : c.best_lane-best.result < 64 = omega (arith, c.requires.walked.size, c.best_lane-best.ensures.inside, length-map c.args.lanes.now goal_count) in
    let lived : ℕ = (get_or c.args.lanes.now c.best_lane-best.result c.index-lanes-best.result).lived in
    let last : lived - 1 + 1 ≡ lived = omega (arith, c.if-lived-eq0.false) in
    let visit =
    last_visit c.args.circuit.now c.args.signals.now.lits c.args.options.now.seed c.args.batch (option_copied c.args.from) c.requires.walked.steps c.args.lanes.now
    c.best_lane-best.result (lived - 1) c.index-lanes-best.result within c.requires.walked.walks_are
    last in
    record { signals = c.args.signals.now.lits; steps = c.requires.walked.steps; goal = visit.goal; visited = visit.visited }

pub returns : goal.returns
returns c = λ steps are. (
    let within : c.best_lane-best.result < 64 = omega (arith, c.requires.walked.size, c.best_lane-best.ensures.inside, length-map c.args.lanes.now goal_count) in
    let lived : ℕ = (get_or c.args.lanes.now c.best_lane-best.result c.index-lanes-best.result).lived in
    let last : lived - 1 + 1 ≡ lived = omega (arith, c.if-lived-eq0.false) in
    record {
      j = c.best_lane-best.result;
      best = best_is c.args.circuit.now c.args.signals.now.lits c.args.options.now.seed c.args.batch (option_copied c.args.from) steps c.args.lanes.now
          c.best_lane-best.result c.requires.walked.size are c.best_lane-best.ensures;
      t = lived - 1;
      last = last_visit c.args.circuit.now c.args.signals.now.lits c.args.options.now.seed c.args.batch (option_copied c.args.from) steps c.args.lanes.now
          c.best_lane-best.result (lived - 1) c.index-lanes-best.result within are
          last;
      seed_at = c.in_ok-seed.ensures;
    }
    )
