use Rattle.std.proofs.Common.{◌≡◌, ℕ, ◌+◌, ◌-◌, ◌<◌, Bool, List, [], map, get_or, sym, ap, ◌∙◌, subst, arith}
use Rattle.std.specs.Prelude.{option_copied}
use Rattle.sim_batch.specs.declared.lane_walk.LaneWalk.{LaneWalk}
use Rattle.sim_batch.specs.Batch.{lane_with}
use Rattle.sim_batch.specs.Steps.{IsAt}
use Rattle.sim_batch.specs.Words.{bit_of_word, lane_bit}
use Rattle.sim_batch.proofs.Traced.{lane_placed}
use Rattle.sim_batch.proofs.Begins.{so_far_of, walk_of}
use Rattle.sim_batch.proofs.BestSeed.{best_is, none_visits, last_visit}
use Rattle.sim_lanes.specs.Lanes.{lane_walks}
use Rattle.sim_lanes.specs.declared.lanes.LaneWords.{LaneWords}
use Rattle.sim_lanes.proofs.Walks.{best_of, best_low, length-walks, lived_at, walked_are, walked_lane}
use Rattle.sim_lanes.proofs.batch.batch_seed.Goals as goal

blank : LaneWalk
blank = walk_of [] (so_far_of 0 [])

pub steps_lived-lived-requires-clause-lane : goal.steps_lived-lived-requires-clause-lane
steps_lived-lived-requires-clause-lane c = best_low c.best_lane-lane.result c.as_slice.result.now c.best_lane-lane.ensures

pub returns-then-lived-eq0 : goal.returns-then-lived-eq0
returns-then-lived-eq0 c =
    let circuit = c.args.circuit.now in
    let sig = c.args.signals.now.lits in
    let seed = c.args.options.now.seed in
    let from = option_copied c.args.from in
    let steps : ℕ = c.args.walked.now.steps in
    let w : LaneWords = c.args.walked.now.lanes in
    let lane : ℕ = c.best_lane-lane.result in
    let low : lane < 64 = best_low lane c.as_slice.result.now c.best_lane-lane.ensures in
    let are = walked_are circuit sig seed c.args.batch from c.args.options.now.length c.args.options.now.stall c.args.walked.now c.requires.walked in
    none_visits circuit sig seed c.args.batch from steps (lane_walks steps w) lane blank (length-walks steps w) are
    (best_of steps w lane c.as_slice.result.now c.as_slice.ensures.value c.best_lane-lane.ensures)
    (lived_at steps w lane c.steps_lived-lived.result blank low c.steps_lived-lived.ensures ∙ c.if-lived-eq0.true)

pub lane_row-requires : goal.lane_row-requires
lane_row-requires c = best_low c.best_lane-lane.result c.as_slice.result.now c.best_lane-lane.ensures

pub seed_after-requires-clause-after : goal.seed_after-requires-clause-after
seed_after-requires-clause-after c =
    let circuit = c.args.circuit.now in
    let sig = c.args.signals.now.lits in
    let seed = c.args.options.now.seed in
    let from = option_copied c.args.from in
    let w : LaneWords = c.args.walked.now.lanes in
    let lane : ℕ = c.best_lane-lane.result in
    let lived : ℕ = c.steps_lived-lived.result in
    let low : lane < 64 = best_low lane c.as_slice.result.now c.best_lane-lane.ensures in
    let place = lane_placed circuit seed c.args.batch from lane low in
    let at = walked_lane circuit sig seed c.args.batch from c.args.options.now.length c.args.options.now.stall c.args.walked.now lane c.requires.walked low in
    let last : lived ≡ lived - 1 + 1 = omega (arith, c.if-lived-eq0.false) in
    record {
      lane = lane_with circuit from (lane_bit seed c.args.batch lane);
      place = place;
      at = subst (λ (s : List Bool). IsAt circuit (lane_with circuit from (lane_bit seed c.args.batch lane)) (lived - 1) (lived - 1) s)
          (sym (c.in_ok-state.ensures ∙ ap (λ (ws : List ℕ). map (bit_of_word lane) ws) c.as_slice-2.ensures.value))
          (at.before (lived - 1) (sym c.steps_lived-lived.ensures ∙ last));
    }

pub returns : goal.returns
returns c =
    let circuit = c.args.circuit.now in
    let sig = c.args.signals.now.lits in
    let seed = c.args.options.now.seed in
    let from = option_copied c.args.from in
    let steps : ℕ = c.args.walked.now.steps in
    let w : LaneWords = c.args.walked.now.lanes in
    let lane : ℕ = c.best_lane-lane.result in
    let lived : ℕ = c.steps_lived-lived.result in
    let low : lane < 64 = best_low lane c.as_slice.result.now c.best_lane-lane.ensures in
    let are = walked_are circuit sig seed c.args.batch from c.args.options.now.length c.args.options.now.stall c.args.walked.now c.requires.walked in
    let own : (get_or (lane_walks steps w) lane blank).lived ≡ lived = lived_at steps w lane lived blank low c.steps_lived-lived.ensures in
    let last : lived - 1 + 1 ≡ (get_or (lane_walks steps w) lane blank).lived = omega (arith, c.if-lived-eq0.false, own) in
    record {
      j = lane;
      best = best_is circuit sig seed c.args.batch from steps (lane_walks steps w) lane (length-walks steps w) are
          (best_of steps w lane c.as_slice.result.now c.as_slice.ensures.value c.best_lane-lane.ensures);
      t = lived - 1;
      last = last_visit circuit sig seed c.args.batch from steps (lane_walks steps w) lane (lived - 1) blank low are last;
      seed_at = c.in_ok-seed.ensures;
    }
