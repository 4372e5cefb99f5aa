use Rattle.std.proofs.Common.{true, set, ap, ◌∙◌, arith}
use Rattle.unroll.proofs.UndefinedVars.{marks_step}
use Rattle.unroll.proofs.undefined.mark_lits.Goals as goal

pub loop-lit-preserved : goal.loop-lit-preserved
loop-lit-preserved c =
    let here = c.loop-lit.marks in
    marks_step c.args.marks.now here c.set.new.self c.args.lits.now c.loop-lit.lit-index c.lit-item.result (omega arith) c.lit-item.is c.requires c.loop-lit.invariant
    (c.set.ensures ∙ ap (λ v. set here v true) c.var.ensures)
