use Rattle.std.proofs.Common.{◌≡◌, ◌+◌, ◌<◌, ℕ, length, get_or, set, take, sym, ap, ◌∙◌, subst, arith}
use Rattle.std.proofs.lemmas.List.{get_or-map, length-map}
use Rattle.aig_model.specs.Literal.{var}
use Rattle.aig_model.specs.WellFormed.{latch_lits}
use Rattle.aig_model.specs.declared.parts.Latch.{Latch}
use Rattle.sim_lanes.specs.LaneValues.{AssignsLanes}
use Rattle.sim_lanes.proofs.LaneSteps.{assigns_lanes_none, assigns_lanes_more, assigns_lanes_all}
use Rattle.sim_lanes.proofs.values.assign_latches.Goals as goal

pub loop-place-init : goal.loop-place-init
loop-place-init c = assigns_lanes_none c.args.values.now

pub bounds-values-var : goal.bounds-values-var
bounds-values-var c =
    let latches = c.args.latches.now in
    let i = c.loop-place.place in
    let inside : i < length latches = c.loop-place-test.true in
    let count : length (latch_lits latches) ≡ length latches = length-map latches (λ (l : Latch). l.lit) in
    let room = c.requires.lits.inside i 0 (omega (arith, count, inside)) in
    let read : c.var.result ≡ var (get_or (latch_lits latches) i 0) =
    c.var.ensures ∙ ap var (ap (λ (l : Latch). l.lit) c.index-latches-place.is ∙ sym (get_or-map (λ (l : Latch). l.lit) latches i c.index-latches-place.result 0 inside)) in
    subst (λ (v : ℕ). v < length c.loop-place.values) (sym read) (subst (λ (n : ℕ). var (get_or (latch_lits latches) i 0) < n) (sym c.loop-place.auto.values) room)

pub loop-place-preserved : goal.loop-place-preserved
loop-place-preserved c =
    let latches = c.args.latches.now in
    let lits = latch_lits latches in
    let words = c.args.words.now in
    let i = c.loop-place.place in
    let inside : i < length latches = c.loop-place-test.true in
    let count : length lits ≡ length latches = length-map latches (λ (l : Latch). l.lit) in
    let read : c.var.result ≡ var (get_or lits i 0) =
    c.var.ensures ∙ ap var (ap (λ (l : Latch). l.lit) c.index-latches-place.is ∙ sym (get_or-map (λ (l : Latch). l.lit) latches i c.index-latches-place.result 0 inside)) in
    subst (λ (v : ℕ). AssignsLanes (take (i + 1) lits) (take (i + 1) words) c.args.values.now (set c.loop-place.values v (get_or words i 0))) (sym read)
    (assigns_lanes_more lits words c.args.values.now c.loop-place.values i c.requires.lits (c.requires.words ∙ sym count) (omega (arith, count, inside)) c.loop-place.invariant)

pub returns : goal.returns
returns c =
    let count : length (latch_lits c.args.latches.now) ≡ length c.args.latches.now = length-map c.args.latches.now (λ (l : Latch). l.lit) in
    assigns_lanes_all (latch_lits c.args.latches.now) c.args.words.now c.args.values.now c.loop-place.values c.loop-place.place (omega (arith, count))
    (c.requires.words ∙ sym count) c.loop-place.invariant
