use Rattle.std.proofs.Common.{◌≡◌, ◌<◌, ℕ, List, length, get_or, ◌∙◌, subst, arith}
use Rattle.std.proofs.lemmas.List.{get_or_default, take_all}
use Rattle.sim_lanes.specs.LaneValues.{AreTrueLanes, HasValues}
use Rattle.sim_lanes.proofs.MaskLanes.{true_none, true_more}
use Rattle.sim_lanes.proofs.WordBits.{bit-every}
use Rattle.sim_lanes.proofs.masks.true_lanes.Goals as goal

pub loop-place-init : goal.loop-place-init
loop-place-init c = true_none c.args.values.now 18446744073709551615 (λ j low. bit-every j low)

pub loop-place-preserved : goal.loop-place-preserved
loop-place-preserved c =
    let lits = c.args.lits.now in
    let i = c.loop-place.place in
    let inside : i < length lits = c.loop-place-test.true in
    let word = c.value-word.result in
    let read : c.index-lits-place.result ≡ get_or lits i 0 = c.index-lits-place.is ∙ get_or_default lits i c.index-lits-place.result 0 inside in
    true_more c.args.values.now lits i c.loop-place.mask word c.both-mask.result inside c.loop-place.invariant
    (subst (λ (l : ℕ). HasValues c.args.values.now l word) read c.value-word.ensures) c.both-mask.ensures

pub returns : goal.returns
returns c = subst (λ (ls : List ℕ). AreTrueLanes c.args.values.now ls c.loop-place.mask) (take_all c.loop-place.place c.args.lits.now (omega arith)) c.loop-place.invariant
