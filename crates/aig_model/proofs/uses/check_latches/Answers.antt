use Rattle.std.proofs.Common.{◌<◌, ℕ, length, arith}
use Rattle.std.proofs.lemmas.Result.{err_from_is_err_and}
use Rattle.aig_model.specs.declared.parts.Latch.{Latch}
use Rattle.aig_model.specs.Literal.{var}
use Rattle.aig_model.specs.Marks.{IsMarked}
use Rattle.aig_model.proofs.Elements.{All-map_item}
use Rattle.aig_model.proofs.Rightness.{Judgement, map_right, map_wrong}
use Rattle.aig_model.proofs.uses.check_latches.Goals as goal

abbrev lit_of : Latch → ℕ
lit_of latch = latch.next

pub check_lit-requires : goal.check_lit-requires
check_lit-requires c =
    All-map_item lit_of (λ l. var l < length c.args.defined.now) c.args.latches.now c.loop-latch.latch-index c.latch-item.result (omega arith) c.latch-item.is c.requires

pub loop-latch-preserved : goal.loop-latch-preserved
loop-latch-preserved c =
    let IsRight : Judgement = λ _ l. IsMarked c.args.defined.now l in
    let latch = c.latch-item.result in
    map_right lit_of IsRight c.args.latches.now c.loop-latch.latch-index latch (omega arith) c.latch-item.is c.loop-latch.invariant
    c.in_ok-check_lit.ensures.ok

pub returns-in_err-check_lit-clause-err : goal.returns-in_err-check_lit-clause-err
returns-in_err-check_lit-clause-err c =
    let IsRight : Judgement = λ _ l. IsMarked c.args.defined.now l in
    let latch = c.latch-item.result in
    let p = err_from_is_err_and c.from_residual.result c.from_residual.ensures.1 in
    rw (p.1, p.2)
    (map_wrong lit_of IsRight c.args.latches.now c.loop-latch.latch-index latch _ (omega arith) c.latch-item.is c.loop-latch.invariant
    c.in_err-check_lit.ensures.err)
