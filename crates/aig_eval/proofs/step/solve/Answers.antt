use Rattle.std.proofs.Common.{arith}
use Rattle.aig_eval.proofs.Filling.{solves_none, solves_more, solves_all}
use Rattle.aig_eval.proofs.step.solve.Goals as goal

pub loop-place-init : goal.loop-place-init
loop-place-init c = solves_none c.args.values.now

pub loop-place-preserved : goal.loop-place-preserved
loop-place-preserved c =
    let gate = c.get-gate.result.now in
    let more =
    solves_more c.args.gates.now c.args.values.now c.loop-place.values c.loop-place.place gate c.requires (omega arith) c.loop-place.invariant in
    rw (c.set.ensures, c.var.ensures, c.both-bit.ensures) (rw (← c.get-gate.ensures) at more)

pub returns : goal.returns
returns c = solves_all c.args.gates.now c.args.values.now c.loop-place.values c.loop-place.place (omega arith) c.loop-place.invariant
