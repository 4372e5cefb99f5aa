use Rattle.std.proofs.Common.{◌<◌, [], ◌∷◌, ◌∙◌, ℕ, length, arith}
use Rattle.std.proofs.lemmas.Result.{err_from_is_err_and}
use Rattle.aig_model.specs.Literal.{var}
use Rattle.aig_model.specs.declared.parts.AndGate.{AndGate}
use Rattle.aig_model.proofs.Elements.{All-map_item}
use Rattle.aig_model.proofs.Marks.{room_same, map_define, map_fail}
use Rattle.aig_model.proofs.definers.define_gates.Goals as goal

abbrev lit_of : AndGate → ℕ
lit_of gate = gate.lhs

pub define-requires : goal.define-requires
define-requires c =
    room_same c.args.defined.now c.loop-gate.defined (c.gate-item.result.lhs ∷ []) c.loop-gate.invariant.size
    (All-map_item lit_of (λ l. var l < length c.args.defined.now) c.args.gates.now c.loop-gate.gate-index c.gate-item.result (omega arith) c.gate-item.is c.requires)

pub loop-gate-preserved : goal.loop-gate-preserved
loop-gate-preserved c = record {
  size = c.in_ok-define.ensures.size ∙ c.loop-gate.invariant.size;
  defines = map_define lit_of c.args.defined.now c.loop-gate.defined c.define.new.defined c.args.gates.now c.loop-gate.gate-index c.gate-item.result (omega arith) c.gate-item.is
      c.loop-gate.invariant.defines
      c.in_ok-define.ensures.ok;
}

pub returns-in_err-define-clause-err : goal.returns-in_err-define-clause-err
returns-in_err-define-clause-err c =
    let p = err_from_is_err_and c.from_residual.result c.from_residual.ensures.1 in
    rw (p.1, p.2)
    (map_fail lit_of c.args.defined.now c.loop-gate.defined c.args.gates.now c.loop-gate.gate-index c.gate-item.result _ (omega arith) c.gate-item.is c.loop-gate.invariant.defines c.in_err-define.ensures.err)
