use Rattle.std.proofs.Common.{◌≡◌, ◌<◌, ℕ, length, ap, sym, ◌∙◌, subst, arith}
use Rattle.std.proofs.lemmas.List.{get_or-map, length-map}
use Rattle.aig_model.specs.Literal.{var}
use Rattle.aig_model.specs.WellFormed.{next_lits}
use Rattle.aig_model.specs.declared.parts.Latch.{Latch}
use Rattle.aig_eval.proofs.Sections.{some_latch}
use Rattle.sim_lanes.proofs.MaskLanes.{hand_next, handed_on}
use Rattle.sim_lanes.proofs.masks.hand_on.Goals as goal

pub value-next-requires : goal.value-next-requires
value-next-requires c =
    let latches = c.args.latches.now in
    let i = c.loop-place.place in
    let inside : i < length latches = c.loop-place-test.true in
    let count : length (next_lits latches) ≡ length latches = length-map latches (λ (l : Latch). l.next) in
    let room = c.requires.next i 0 (omega (arith, count, inside)) in
    let read = get_or-map (λ (l : Latch). l.next) latches i c.index-latches-place.result 0 inside in
    subst (λ (x : ℕ). var x < length c.args.values.now) (read ∙ ap (λ (l : Latch). l.next) (sym c.index-latches-place.is)) room

pub loop-place-preserved : goal.loop-place-preserved
loop-place-preserved c =
    hand_next c.args.latches.now c.args.values.now c.args.state.now c.loop-place.state c.args.live c.loop-place.place c.value-next.result c.choose.result
    c.index-latches-place.result c.loop-place-test.true (omega arith) c.index-latches-place.is c.value-next.ensures c.choose.ensures c.loop-place.invariant

pub returns : goal.returns
returns c =
    handed_on c.args.latches.now c.args.values.now c.args.state.now c.loop-place.state c.args.live (omega arith) c.requires.size
    (λ k d j inside low. c.loop-place.invariant.gone k d j (omega (arith, inside)) low) some_latch
