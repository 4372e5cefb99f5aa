use Rattle.std.proofs.Common.{◌≤◌, [], ◌∷◌, List, ℕ, arith}
use Rattle.std.proofs.lemmas.Result.{err_from_is_err_and}
use Rattle.aig_model.specs.declared.parts.AndGate.{AndGate}
use Rattle.aig_model.proofs.Rightness.{Judgement, flat_map_right, flat_map_wrong, right_append, wrong_left, wrong_right}
use Rattle.aig_model.proofs.range.check_gates.Goals as goal

abbrev lits_of : AndGate → List ℕ
lits_of gate = gate.lhs ∷ gate.left ∷ gate.right ∷ []

pub loop-gate-preserved : goal.loop-gate-preserved
loop-gate-preserved c =
    let IsRight : Judgement = λ _ l. l ≤ c.args.most in
    let gate = c.gate-item.result in
    flat_map_right lits_of IsRight c.args.gates.now c.loop-gate.gate-index gate (omega arith) c.gate-item.is c.loop-gate.invariant
    (right_append IsRight (gate.lhs ∷ []) (gate.left ∷ gate.right ∷ []) c.in_ok-check_lit.ensures.ok (right_append IsRight (gate.left ∷ []) (gate.right ∷ []) c.in_ok-check_lit-2.ensures.ok c.in_ok-check_lit-3.ensures.ok))

pub returns-in_err-check_lit-clause-err : goal.returns-in_err-check_lit-clause-err
returns-in_err-check_lit-clause-err c =
    let IsRight : Judgement = λ _ l. l ≤ c.args.most in
    let gate = c.gate-item.result in
    let p = err_from_is_err_and c.from_residual.result c.from_residual.ensures.1 in
    rw (p.1, p.2)
    (flat_map_wrong lits_of IsRight c.args.gates.now c.loop-gate.gate-index gate _ (omega arith) c.gate-item.is c.loop-gate.invariant
    (wrong_left IsRight (gate.lhs ∷ []) (gate.left ∷ gate.right ∷ []) _ c.in_err-check_lit.ensures.err))

pub returns-in_err-check_lit-2-clause-err : goal.returns-in_err-check_lit-2-clause-err
returns-in_err-check_lit-2-clause-err c =
    let IsRight : Judgement = λ _ l. l ≤ c.args.most in
    let gate = c.gate-item.result in
    let p = err_from_is_err_and c.from_residual-in_err-check_lit-2.result c.from_residual-in_err-check_lit-2.ensures.1 in
    rw (p.1, p.2)
    (flat_map_wrong lits_of IsRight c.args.gates.now c.loop-gate.gate-index gate _ (omega arith) c.gate-item.is c.loop-gate.invariant
    (wrong_right IsRight (gate.lhs ∷ []) (gate.left ∷ gate.right ∷ []) _ c.in_ok-check_lit.ensures.ok (wrong_left IsRight (gate.left ∷ []) (gate.right ∷ []) _ c.in_err-check_lit-2.ensures.err)))

pub returns-in_err-check_lit-3-clause-err : goal.returns-in_err-check_lit-3-clause-err
returns-in_err-check_lit-3-clause-err c =
    let IsRight : Judgement = λ _ l. l ≤ c.args.most in
    let gate = c.gate-item.result in
    let p = err_from_is_err_and c.from_residual-in_err-check_lit-3.result c.from_residual-in_err-check_lit-3.ensures.1 in
    rw (p.1, p.2)
    (flat_map_wrong lits_of IsRight c.args.gates.now c.loop-gate.gate-index gate _ (omega arith) c.gate-item.is c.loop-gate.invariant
    (wrong_right IsRight (gate.lhs ∷ []) (gate.left ∷ gate.right ∷ []) _ c.in_ok-check_lit.ensures.ok (wrong_right IsRight (gate.left ∷ []) (gate.right ∷ []) _ c.in_ok-check_lit-2.ensures.ok c.in_err-check_lit-3.ensures.err)))
