use Rattle.std.proofs.Common.{◌^◌, ◌++◌, [], ◌∷◌, length, map, sym, ap, ◌∙◌, arith}
use Rattle.std.specs.Prelude.{option_copied}
use Rattle.std.specs.List.{range_with_len}
use Rattle.std.proofs.lemmas.List.FromFn.{map-range_with_len_more}
use Rattle.sim_batch.specs.Steps.{first_walk}
use Rattle.sim_batch.proofs.Begins.{made_walk, walk_of}
use Rattle.sim_batch.proofs.rounds.first_lanes.Goals as goal

pub loop-lane-preserved : goal.loop-lane-preserved
loop-lane-preserved c =
    let f = first_walk c.args.circuit.now c.args.signals.now.lits (option_copied c.args.from) c.args.words.now in
    let made = made_walk c.in_ok-state.state _ c.in_ok-visits.visits (2 ^ length c.args.signals.now.lits) c.in_ok-state.ensures (c.in_ok-visits.ensures.goals ∙ c.goals.ensures) c.in_ok-visits.ensures.visits in
    c.in_ok-push.ensures.items ∙ (ap (λ ws. ws ++ walk_of c.in_ok-state.state c.in_ok-visits.visits ∷ []) c.loop-lane.invariant
    ∙ (ap (λ w. map f (range_with_len 0 c.loop-lane.lane) ++ w ∷ []) made
    ∙ sym (map-range_with_len_more f 0 c.loop-lane.lane c.loop-lane.lane (omega arith))))
