use Rattle.std.proofs.Common.{◌≡◌, ◌+◌, ◌<◌, ℕ, length, get_or, set, take, sym, ap, ◌∙◌, subst, arith}
use Rattle.std.proofs.lemmas.List.{get_or_default}
use Rattle.aig_model.specs.Literal.{var}
use Rattle.sim_lanes.specs.LaneValues.{AssignsLanes}
use Rattle.sim_lanes.proofs.LaneSteps.{assigns_lanes_none, assigns_lanes_more, assigns_lanes_all}
use Rattle.sim_lanes.proofs.values.assign.Goals as goal

pub loop-place-init : goal.loop-place-init
loop-place-init c = assigns_lanes_none c.args.values.now

pub loop-place-preserved : goal.loop-place-preserved
loop-place-preserved c =
    let lits = c.args.lits.now in
    let words = c.args.words.now in
    let i = c.loop-place.place in
    let inside : i < length lits = c.loop-place-test.true in
    let read : c.var.result ≡ var (get_or lits i 0) = c.var.ensures ∙ ap var (c.index-lits-place.is ∙ get_or_default lits i c.index-lits-place.result 0 inside) in
    subst (λ (v : ℕ). AssignsLanes (take (i + 1) lits) (take (i + 1) words) c.args.values.now (set c.loop-place.values v (get_or words i 0))) (sym read)
    (assigns_lanes_more lits words c.args.values.now c.loop-place.values i c.requires.lits c.requires.words inside c.loop-place.invariant)

pub returns : goal.returns
returns c =
    assigns_lanes_all c.args.lits.now c.args.words.now c.args.values.now c.loop-place.values c.loop-place.place (omega arith) c.requires.words c.loop-place.invariant
