use Rattle.std.proofs.Common.{Bool, false, List, take, ◌++◌, [], ◌∷◌, ap, sym, ◌∙◌, arith}
use Rattle.std.proofs.lemmas.List.{map_push, take_more, take_all}
use Rattle.sim_batch.specs.Words.{bit_of_word}
use Rattle.sim_lanes.specs.LaneValues.{lane_values}
use Rattle.sim_lanes.proofs.start.every_state.Goals as goal

pub loop-place-preserved : goal.loop-place-preserved
loop-place-preserved c =
    let bits = c.args.bits.now in
    let i = c.loop-place.place in
    λ j low.
    ap (lane_values j) c.in_ok-push.ensures.items
    ∙ (map_push (bit_of_word j) c.loop-place.state.items c.every_lane.result
    ∙ (ap (λ (l : List Bool). l ++ bit_of_word j c.every_lane.result ∷ []) (c.loop-place.invariant j low)
    ∙ (ap (λ b. take i bits ++ b ∷ []) (c.every_lane.ensures j low ∙ c.get-bit.ensures)
    ∙ sym (take_more bits i false (omega arith)))))

pub returns : goal.returns
returns c = λ j low. c.loop-place.invariant j low ∙ take_all c.loop-place.place c.args.bits.now (omega arith)
