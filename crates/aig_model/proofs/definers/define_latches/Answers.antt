use Rattle.std.proofs.Common.{◌<◌, [], ◌∷◌, ◌∙◌, ℕ, length, arith}
use Rattle.std.proofs.lemmas.Result.{err_from_is_err_and}
use Rattle.aig_model.specs.Literal.{var}
use Rattle.aig_model.specs.declared.parts.Latch.{Latch}
use Rattle.aig_model.proofs.Elements.{All-map_item}
use Rattle.aig_model.proofs.Marks.{room_same, map_define, map_fail}
use Rattle.aig_model.proofs.definers.define_latches.Goals as goal

abbrev lit_of : Latch → ℕ
lit_of latch = latch.lit

pub define-requires : goal.define-requires
define-requires c =
    room_same c.args.defined.now c.loop-latch.defined (c.latch-item.result.lit ∷ []) c.loop-latch.invariant.size
    (All-map_item lit_of (λ l. var l < length c.args.defined.now) c.args.latches.now c.loop-latch.latch-index c.latch-item.result (omega arith) c.latch-item.is c.requires)

pub loop-latch-preserved : goal.loop-latch-preserved
loop-latch-preserved c = record {
  size = c.in_ok-define.ensures.size ∙ c.loop-latch.invariant.size;
  defines = map_define lit_of c.args.defined.now c.loop-latch.defined c.define.new.defined c.args.latches.now c.loop-latch.latch-index c.latch-item.result (omega arith) c.latch-item.is
      c.loop-latch.invariant.defines
      c.in_ok-define.ensures.ok;
}

pub returns-in_err-define-clause-err : goal.returns-in_err-define-clause-err
returns-in_err-define-clause-err c =
    let p = err_from_is_err_and c.from_residual.result c.from_residual.ensures.1 in
    rw (p.1, p.2)
    (map_fail lit_of c.args.defined.now c.loop-latch.defined c.args.latches.now c.loop-latch.latch-index c.latch-item.result _ (omega arith) c.latch-item.is c.loop-latch.invariant.defines c.in_err-define.ensures.err)
