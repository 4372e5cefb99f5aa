use Rattle.std.proofs.Common.{◌<◌, false, nat_abs, ℤ, length, get_or, ap, sym, ◌∙◌, subst, arith}
use Rattle.std.proofs.lemmas.List.{take_all}
use Rattle.std.proofs.lemmas.List.Elements.{All-get_or}
use Rattle.cnf_base.proofs.Literals.{or-false}
use Rattle.sat_learn.specs.Resolving.{with_marks}
use Rattle.sat_learn.proofs.MarkedLiterals.{marked_more}
use Rattle.sat_learn.proofs.marks.mark_all.Goals as goal

pub loop-lit-init : goal.loop-lit-init
loop-lit-init c = λ v. sym (or-false (get_or c.args.marks.now v false))

pub loop-lit-preserved : goal.loop-lit-preserved
loop-lit-preserved c =
    let i = c.loop-lit.lit-index in
    let lit = c.lit-item.result in
    let Q : ℤ → Type 0 = λ l. nat_abs l < length c.args.marks.now in
    let small = subst Q (sym c.lit-item.is) (All-get_or (λ l. nat_abs l < length c.args.marks.now) c.args.lits.now i lit c.loop-lit-test.true c.requires) in
    let room : c.var.result < length c.loop-lit.marks = omega (arith, small, c.var.ensures.size, c.loop-lit.auto.marks) in
    marked_more c.loop-lit.marks c.args.marks.now c.args.lits.now i c.var.result lit c.loop-lit-test.true c.lit-item.is c.var.ensures.size room c.loop-lit.invariant

pub returns : goal.returns
returns c = λ v. c.loop-lit.invariant v ∙ ap (λ ls. with_marks ls c.args.marks.now v) (take_all c.loop-lit.lit-index c.args.lits.now c.loop-lit-test.false)
