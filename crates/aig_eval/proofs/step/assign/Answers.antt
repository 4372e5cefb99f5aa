use Rattle.std.proofs.Common.{◌<◌, ◌≡◌, length, get_or, arith}
use Rattle.std.proofs.lemmas.List.{get_or_read}
use Rattle.aig_eval.proofs.Filling.{assigns_none, assigns_more, assigns_all}
use Rattle.aig_eval.proofs.step.assign.Goals as goal

pub loop-place-init : goal.loop-place-init
loop-place-init c = assigns_none c.args.values.now

pub loop-place-preserved : goal.loop-place-preserved
loop-place-preserved c =
    let lits = c.args.lits.now in
    let i = c.loop-place.place in
    let inside : i < length lits = omega arith in
    let read : c.get.result.now ≡ get_or lits i 0 = get_or_read lits i c.get.result.now inside c.get.ensures 0 in
    rw (c.set.ensures, c.var.ensures, read, c.get-in-loop-place.ensures)
    (assigns_more lits c.args.bits.now c.args.values.now c.loop-place.values i c.requires.lits c.requires.bits inside c.loop-place.invariant)

pub returns : goal.returns
returns c =
    assigns_all c.args.lits.now c.args.bits.now c.args.values.now c.loop-place.values c.loop-place.place (omega arith) c.requires.bits
    c.loop-place.invariant
