use Rattle.std.proofs.Common.{◌<◌, length, arith}
use Rattle.std.proofs.lemmas.Result.{err_from_is_err_and}
use Rattle.aig_model.specs.Literal.{var}
use Rattle.aig_model.specs.Marks.{IsMarked}
use Rattle.aig_model.proofs.Elements.{All-items}
use Rattle.aig_model.proofs.Rightness.{Judgement, items_right, items_wrong}
use Rattle.aig_model.proofs.uses.check_lits.Goals as goal

pub check_lit-requires : goal.check_lit-requires
check_lit-requires c = All-items (λ l. var l < length c.args.defined.now) c.args.lits.now c.loop-lit.lit-index c.lit-item.result (omega arith) c.lit-item.is c.requires

pub loop-lit-preserved : goal.loop-lit-preserved
loop-lit-preserved c =
    let IsRight : Judgement = λ _ l. IsMarked c.args.defined.now l in
    let lit = c.lit-item.result in
    items_right IsRight c.args.lits.now c.loop-lit.lit-index lit (omega arith) c.lit-item.is c.loop-lit.invariant
    c.in_ok-check_lit.ensures.ok

pub returns-in_err-check_lit-clause-err : goal.returns-in_err-check_lit-clause-err
returns-in_err-check_lit-clause-err c =
    let IsRight : Judgement = λ _ l. IsMarked c.args.defined.now l in
    let lit = c.lit-item.result in
    let p = err_from_is_err_and c.from_residual.result c.from_residual.ensures.1 in
    rw (p.1, p.2)
    (items_wrong IsRight c.args.lits.now c.loop-lit.lit-index lit _ (omega arith) c.lit-item.is c.loop-lit.invariant
    c.in_err-check_lit.ensures.err)
