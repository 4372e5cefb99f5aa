use Rattle.std.proofs.Common.{◌≡◌, ◌+◌, ◌<◌, ℕ, length, get_or, set, take, sym, ap, ◌∙◌, subst, arith}
use Rattle.aig_model.specs.Literal.{var}
use Rattle.aig_model.specs.declared.parts.AndGate.{AndGate}
use Rattle.sim_lanes.specs.LaneValues.{HasConjunctions, SolvesLanes}
use Rattle.sim_lanes.proofs.LaneSteps.{solves_lanes_none, solves_lanes_more, solves_lanes_all}
use Rattle.sim_lanes.proofs.values.solve.Goals as goal

pub loop-place-init : goal.loop-place-init
loop-place-init c = solves_lanes_none c.args.values.now

pub loop-place-preserved : goal.loop-place-preserved
loop-place-preserved c =
    let gates = c.args.gates.now in
    let i = c.loop-place.place in
    let gate = c.index-gates-place.result in
    let word = c.conjunction-word.result in
    let inside : i < length gates = c.loop-place-test.true in
    let item : gate ≡ get_or gates i gate = c.index-gates-place.is in
    let is : HasConjunctions c.loop-place.values (get_or gates i gate) word = subst (λ (g : AndGate). HasConjunctions c.loop-place.values g word) item c.conjunction-word.ensures in
    let read : c.var.result ≡ var (get_or gates i gate).lhs = c.var.ensures ∙ ap (λ (g : AndGate). var g.lhs) item in
    subst (λ (v : ℕ). SolvesLanes (take (i + 1) gates) c.args.values.now (set c.loop-place.values v word)) (sym read)
    (solves_lanes_more gates c.args.values.now c.loop-place.values i gate word c.requires inside is c.loop-place.invariant)

pub returns : goal.returns
returns c = solves_lanes_all c.args.gates.now c.args.values.now c.loop-place.values c.loop-place.place (omega arith) c.loop-place.invariant
