use Rattle.std.proofs.Common.{◌<◌, [], ◌∷◌, List, ℕ, length, arith, subst}
use Rattle.std.proofs.lemmas.Result.{err_from_is_err_and}
use Rattle.aig_model.specs.declared.parts.AndGate.{AndGate}
use Rattle.std.proofs.lemmas.List.{take_all}
use Rattle.aig_model.specs.Faults.{AllRight}
use Rattle.aig_model.specs.WellFormed.{gate_inputs}
use Rattle.aig_model.specs.Literal.{var}
use Rattle.aig_model.specs.Marks.{IsMarked}
use Rattle.aig_model.proofs.Elements.{All-left, All-right, All-flat_map_item}
use Rattle.aig_model.proofs.Rightness.{Judgement, flat_map_right, flat_map_wrong, right_append, wrong_left, wrong_right}
use Rattle.aig_model.proofs.uses.check_gates.Goals as goal

abbrev lits_of : AndGate → List ℕ
lits_of gate = gate.left ∷ gate.right ∷ []

pub check_lit-requires : goal.check_lit-requires
check_lit-requires c =
    let gate = c.gate-item.result in
    All-left (λ l. var l < length c.args.defined.now) (gate.left ∷ []) (gate.right ∷ [])
    (All-flat_map_item lits_of (λ l. var l < length c.args.defined.now) c.args.gates.now c.loop-gate.gate-index gate (omega arith) c.gate-item.is c.requires)

pub check_lit-requires-in-loop-gate : goal.check_lit-requires-in-loop-gate
check_lit-requires-in-loop-gate c =
    let gate = c.gate-item.result in
    All-right (λ l. var l < length c.args.defined.now) (gate.left ∷ []) (gate.right ∷ [])
    (All-flat_map_item lits_of (λ l. var l < length c.args.defined.now) c.args.gates.now c.loop-gate.gate-index gate (omega arith) c.gate-item.is c.requires)

pub loop-gate-preserved : goal.loop-gate-preserved
loop-gate-preserved c =
    let IsRight : Judgement = λ _ l. IsMarked c.args.defined.now l in
    let gate = c.gate-item.result in
    flat_map_right lits_of IsRight c.args.gates.now c.loop-gate.gate-index gate (omega arith) c.gate-item.is c.loop-gate.invariant
    (right_append IsRight (gate.left ∷ []) (gate.right ∷ []) c.in_ok-check_lit.ensures.ok c.in_ok-check_lit-2.ensures.ok)

pub returns-in_err-check_lit-clause-err : goal.returns-in_err-check_lit-clause-err
returns-in_err-check_lit-clause-err c =
    let IsRight : Judgement = λ _ l. IsMarked c.args.defined.now l in
    let gate = c.gate-item.result in
    let p = err_from_is_err_and c.from_residual.result c.from_residual.ensures.1 in
    rw (p.1, p.2)
    (flat_map_wrong lits_of IsRight c.args.gates.now c.loop-gate.gate-index gate _ (omega arith) c.gate-item.is c.loop-gate.invariant
    (wrong_left IsRight (gate.left ∷ []) (gate.right ∷ []) _ c.in_err-check_lit.ensures.err))

pub returns-in_err-check_lit-2-clause-err : goal.returns-in_err-check_lit-2-clause-err
returns-in_err-check_lit-2-clause-err c =
    let IsRight : Judgement = λ _ l. IsMarked c.args.defined.now l in
    let gate = c.gate-item.result in
    let p = err_from_is_err_and c.from_residual-in_err-check_lit-2.result c.from_residual-in_err-check_lit-2.ensures.1 in
    rw (p.1, p.2)
    (flat_map_wrong lits_of IsRight c.args.gates.now c.loop-gate.gate-index gate _ (omega arith) c.gate-item.is c.loop-gate.invariant
    (wrong_right IsRight (gate.left ∷ []) (gate.right ∷ []) _ c.in_ok-check_lit.ensures.ok c.in_err-check_lit-2.ensures.err))

pub returns-clause-ok : goal.returns-clause-ok
returns-clause-ok c =
    let whole = take_all c.loop-gate.gate-index c.args.gates.now (omega arith) in
    subst (λ (gates : List AndGate). AllRight (λ _ l. IsMarked c.args.defined.now l) (gate_inputs gates)) whole c.loop-gate.invariant
