use Rattle.std.proofs.Common.{◌≡◌, ◌<◌, refl, sym, ◌∙◌, subst, arith, length-set}
use Rattle.std.proofs.lemmas.List.{get_or-set_other}
use Rattle.sim_batch.specs.declared.lane_walk.LaneWalk.{LaneWalk}
use Rattle.sim_batch.specs.Steps.{IsReady}
use Rattle.sim_batch.proofs.EachLane.{round_first, round_next, round_last}
use Rattle.sim_batch.proofs.rounds.step_lanes.Goals as goal

pub loop-place-init : goal.loop-place-init
loop-place-init c = record {
  size = c.requires.size;
  ready = λ j d low inside. c.requires.lanes j d (omega (arith, inside, c.requires.size));
  goals = refl;
  round = λ lanes given are so. round_first c.args.circuit.now c.args.signals.now.lits lanes c.args.step c.args.lanes.now.items c.args.visits.now.visits are so;
}

pub loop-place-preserved : goal.loop-place-preserved
loop-place-preserved c =
    let items = c.loop-place.lanes.items in
    let k = c.loop-place.place in
    let size = c.loop-place.invariant.size in
    let inside : k < 64 = omega (arith, size) in
    record {
      size = length-set items k c.step_lane.new.lane ∙ size;
      ready = λ j d low within. (
          let apart : j ≡ k → ⊥ = λ e. omega (arith, low, e) in
          subst (λ (w : LaneWalk). IsReady c.args.circuit.now c.args.signals.now.lits c.args.step w) (sym (get_or-set_other items k j c.step_lane.new.lane d apart))
          (c.loop-place.invariant.ready j d (omega (arith, low)) within)
          );
      goals = c.step_lane.ensures.goals ∙ c.loop-place.invariant.goals;
      round = λ lanes given are so. round_next c.args.circuit.now c.args.signals.now.lits lanes c.args.words.now c.args.step k items c.index_mut.result.now c.step_lane.new.lane
          c.loop-place.visits.visits c.step_lane.new.visits.visits given inside size c.index_mut.ensures.value c.in_ok-step_lane.ensures.lane c.in_ok-step_lane.ensures.visits
          (c.loop-place.invariant.round lanes given are so);
    }

pub returns-clause-steps : goal.returns-clause-steps
returns-clause-steps c =
    λ lanes given are so.
    round_last c.args.circuit.now c.args.signals.now.lits lanes c.args.words.now c.args.step c.loop-place.place c.loop-place.lanes.items c.loop-place.visits.visits given
    (omega (arith, c.requires.size)) (c.loop-place.invariant.round lanes given are so)
