use Rattle.std.proofs.Common.{◌<◌, ◌≡◌, length, get_or, ap, arith, ◌∙◌, sym}
use Rattle.std.proofs.lemmas.List.{get_or-map, length-map}
use Rattle.aig_model.specs.WellFormed.{latch_lits}
use Rattle.aig_model.specs.declared.parts.Latch.{Latch}
use Rattle.aig_eval.proofs.Filling.{assigns_none, assigns_more, assigns_all}
use Rattle.aig_eval.proofs.step.assign_latches.Goals as goal

pub loop-place-init : goal.loop-place-init
loop-place-init c = assigns_none c.args.values.now

pub set-requires : goal.set-requires
set-requires c =
    let latches = c.args.latches.now in
    let i = c.loop-place.place in
    let inside : i < length latches = omega arith in
    let count : length (latch_lits latches) ≡ length latches = length-map latches (λ (l : Latch). l.lit) in
    let room = c.requires.lits.inside i 0 (omega arith) in
    let lit : get_or (latch_lits latches) i 0 ≡ (get_or latches i c.get.result.now).lit = get_or-map (λ (l : Latch). l.lit) latches i c.get.result.now 0 inside in
    rw (c.var.ensures, c.get.ensures, ← lit, c.loop-place.invariant.size) room

pub loop-place-preserved : goal.loop-place-preserved
loop-place-preserved c =
    let latches = c.args.latches.now in
    let lits = latch_lits latches in
    let i = c.loop-place.place in
    let latch = c.get.result.now in
    let count : length lits ≡ length latches = length-map latches (λ (l : Latch). l.lit) in
    let inside : i < length latches = omega arith in
    let read : latch.lit ≡ get_or lits i 0 = ap (λ (l : Latch). l.lit) c.get.ensures ∙ sym (get_or-map (λ (l : Latch). l.lit) latches i latch 0 inside) in
    rw (c.set.ensures, c.var.ensures, read, c.get-in-loop-place.ensures)
    (assigns_more lits c.args.bits.now c.args.values.now c.loop-place.values i c.requires.lits (c.requires.bits ∙ sym count) (omega arith) c.loop-place.invariant)

pub returns : goal.returns
returns c =
    let count : length (latch_lits c.args.latches.now) ≡ length c.args.latches.now = length-map c.args.latches.now (λ (l : Latch). l.lit) in
    assigns_all (latch_lits c.args.latches.now) c.args.bits.now c.args.values.now c.loop-place.values c.loop-place.place (omega arith)
    (c.requires.bits ∙ sym count) c.loop-place.invariant
