use Rattle.std.proofs.Common.{◌<◌, [], ◌∷◌, ◌∙◌, length, arith}
use Rattle.std.proofs.lemmas.Result.{err_from_is_err_and}
use Rattle.aig_model.specs.Literal.{var}
use Rattle.aig_model.proofs.Elements.{All-items}
use Rattle.aig_model.proofs.Marks.{room_same, items_define, items_fail}
use Rattle.aig_model.proofs.definers.define_lits.Goals as goal

pub define-requires : goal.define-requires
define-requires c =
    room_same c.args.defined.now c.loop-lit.defined (c.lit-item.result ∷ []) c.loop-lit.invariant.size
    (All-items (λ l. var l < length c.args.defined.now) c.args.lits.now c.loop-lit.lit-index c.lit-item.result (omega arith) c.lit-item.is c.requires)

pub loop-lit-preserved : goal.loop-lit-preserved
loop-lit-preserved c = record {
  size = c.in_ok-define.ensures.size ∙ c.loop-lit.invariant.size;
  defines = items_define c.args.defined.now c.loop-lit.defined c.define.new.defined c.args.lits.now c.loop-lit.lit-index c.lit-item.result (omega arith) c.lit-item.is
      c.loop-lit.invariant.defines
      c.in_ok-define.ensures.ok;
}

pub returns-in_err-define-clause-err : goal.returns-in_err-define-clause-err
returns-in_err-define-clause-err c =
    let p = err_from_is_err_and c.from_residual.result c.from_residual.ensures.1 in
    rw (p.1, p.2)
    (items_fail c.args.defined.now c.loop-lit.defined c.args.lits.now c.loop-lit.lit-index c.lit-item.result _ (omega arith) c.lit-item.is c.loop-lit.invariant.defines c.in_err-define.ensures.err)
