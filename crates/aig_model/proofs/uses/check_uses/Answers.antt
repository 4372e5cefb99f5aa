use Rattle.std.proofs.Common.{◌<◌, ◌++◌, length}
use Rattle.std.proofs.lemmas.Result.{err_from_is_err_and}
use Rattle.aig_model.specs.WellFormed.{next_lits, gate_inputs}
use Rattle.aig_model.specs.Literal.{var}
use Rattle.aig_model.specs.Marks.{IsMarked}
use Rattle.aig_model.proofs.Elements.{All-left, All-right}
use Rattle.aig_model.proofs.Rightness.{Judgement, right_append, wrong_left, wrong_right}
use Rattle.aig_model.proofs.uses.check_uses.Goals as goal

pub check_latches-requires : goal.check_latches-requires
check_latches-requires c =
    let parts = c.args.parts.now in
    rw c.as_slice.ensures (All-left (λ l. var l < length c.args.defined.now) (next_lits parts.latches) (parts.outputs ++ (parts.bads ++ (parts.constraints ++ (gate_inputs parts.gates)))) c.requires)

pub check_lits-requires : goal.check_lits-requires
check_lits-requires c =
    let parts = c.args.parts.now in
    rw c.as_slice-2.ensures (All-left (λ l. var l < length c.args.defined.now) parts.outputs (parts.bads ++ (parts.constraints ++ (gate_inputs parts.gates))) (All-right (λ l. var l < length c.args.defined.now) (next_lits parts.latches) (parts.outputs ++ (parts.bads ++ (parts.constraints ++ (gate_inputs parts.gates)))) c.requires))

pub check_lits-requires-2 : goal.check_lits-requires-2
check_lits-requires-2 c =
    let parts = c.args.parts.now in
    rw c.as_slice-3.ensures (All-left (λ l. var l < length c.args.defined.now) parts.bads (parts.constraints ++ (gate_inputs parts.gates)) (All-right (λ l. var l < length c.args.defined.now) parts.outputs (parts.bads ++ (parts.constraints ++ (gate_inputs parts.gates))) (All-right (λ l. var l < length c.args.defined.now) (next_lits parts.latches) (parts.outputs ++ (parts.bads ++ (parts.constraints ++ (gate_inputs parts.gates)))) c.requires)))

pub check_lits-requires-3 : goal.check_lits-requires-3
check_lits-requires-3 c =
    let parts = c.args.parts.now in
    rw c.as_slice-4.ensures (All-left (λ l. var l < length c.args.defined.now) parts.constraints (gate_inputs parts.gates) (All-right (λ l. var l < length c.args.defined.now) parts.bads (parts.constraints ++ (gate_inputs parts.gates)) (All-right (λ l. var l < length c.args.defined.now) parts.outputs (parts.bads ++ (parts.constraints ++ (gate_inputs parts.gates))) (All-right (λ l. var l < length c.args.defined.now) (next_lits parts.latches) (parts.outputs ++ (parts.bads ++ (parts.constraints ++ (gate_inputs parts.gates)))) c.requires))))

pub check_gates-requires : goal.check_gates-requires
check_gates-requires c =
    let parts = c.args.parts.now in
    rw c.as_slice-5.ensures ((All-right (λ l. var l < length c.args.defined.now) parts.constraints (gate_inputs parts.gates) (All-right (λ l. var l < length c.args.defined.now) parts.bads (parts.constraints ++ (gate_inputs parts.gates)) (All-right (λ l. var l < length c.args.defined.now) parts.outputs (parts.bads ++ (parts.constraints ++ (gate_inputs parts.gates))) (All-right (λ l. var l < length c.args.defined.now) (next_lits parts.latches) (parts.outputs ++ (parts.bads ++ (parts.constraints ++ (gate_inputs parts.gates)))) c.requires)))))

pub returns-in_err-check_latches-clause-err : goal.returns-in_err-check_latches-clause-err
returns-in_err-check_latches-clause-err c =
    let parts = c.args.parts.now in
    let rest3 = parts.constraints ++ gate_inputs parts.gates in
    let rest2 = parts.bads ++ rest3 in
    let rest1 = parts.outputs ++ rest2 in
    let IsRight : Judgement = λ _ l. IsMarked c.args.defined.now l in
    let wrong = rw c.as_slice.ensures at c.in_err-check_latches.ensures.err in
    let p = err_from_is_err_and c.from_residual.result c.from_residual.ensures.1 in
    rw (p.1, p.2)
    (wrong_left IsRight (next_lits parts.latches) rest1 _ wrong)

pub returns-in_err-check_lits-clause-err : goal.returns-in_err-check_lits-clause-err
returns-in_err-check_lits-clause-err c =
    let parts = c.args.parts.now in
    let rest3 = parts.constraints ++ gate_inputs parts.gates in
    let rest2 = parts.bads ++ rest3 in
    let rest1 = parts.outputs ++ rest2 in
    let IsRight : Judgement = λ _ l. IsMarked c.args.defined.now l in
    let right1 = rw c.as_slice.ensures at c.in_ok-check_latches.ensures.ok in
    let wrong = rw c.as_slice-2.ensures at c.in_err-check_lits.ensures.err in
    let p = err_from_is_err_and c.from_residual-in_err-check_lits.result c.from_residual-in_err-check_lits.ensures.1 in
    rw (p.1, p.2)
    (wrong_right IsRight (next_lits parts.latches) rest1 _ right1 (wrong_left IsRight parts.outputs rest2 _ wrong))

pub returns-in_err-check_lits-2-clause-err : goal.returns-in_err-check_lits-2-clause-err
returns-in_err-check_lits-2-clause-err c =
    let parts = c.args.parts.now in
    let rest3 = parts.constraints ++ gate_inputs parts.gates in
    let rest2 = parts.bads ++ rest3 in
    let rest1 = parts.outputs ++ rest2 in
    let IsRight : Judgement = λ _ l. IsMarked c.args.defined.now l in
    let right1 = rw c.as_slice.ensures at c.in_ok-check_latches.ensures.ok in
    let right2 = rw c.as_slice-2.ensures at c.in_ok-check_lits.ensures.ok in
    let wrong = rw c.as_slice-3.ensures at c.in_err-check_lits-2.ensures.err in
    let p = err_from_is_err_and c.from_residual-in_err-check_lits-2.result c.from_residual-in_err-check_lits-2.ensures.1 in
    rw (p.1, p.2)
    (wrong_right IsRight (next_lits parts.latches) rest1 _ right1 (wrong_right IsRight parts.outputs rest2 _ right2 (wrong_left IsRight parts.bads rest3 _ wrong)))

pub returns-in_err-check_lits-3-clause-err : goal.returns-in_err-check_lits-3-clause-err
returns-in_err-check_lits-3-clause-err c =
    let parts = c.args.parts.now in
    let rest3 = parts.constraints ++ gate_inputs parts.gates in
    let rest2 = parts.bads ++ rest3 in
    let rest1 = parts.outputs ++ rest2 in
    let IsRight : Judgement = λ _ l. IsMarked c.args.defined.now l in
    let right1 = rw c.as_slice.ensures at c.in_ok-check_latches.ensures.ok in
    let right2 = rw c.as_slice-2.ensures at c.in_ok-check_lits.ensures.ok in
    let right3 = rw c.as_slice-3.ensures at c.in_ok-check_lits-2.ensures.ok in
    let wrong = rw c.as_slice-4.ensures at c.in_err-check_lits-3.ensures.err in
    let p = err_from_is_err_and c.from_residual-in_err-check_lits-3.result c.from_residual-in_err-check_lits-3.ensures.1 in
    rw (p.1, p.2)
    (wrong_right IsRight (next_lits parts.latches) rest1 _ right1 (wrong_right IsRight parts.outputs rest2 _ right2 (wrong_right IsRight parts.bads rest3 _ right3 (wrong_left IsRight parts.constraints (gate_inputs parts.gates) _ wrong))))

pub returns-in_err-check_gates-clause-err : goal.returns-in_err-check_gates-clause-err
returns-in_err-check_gates-clause-err c =
    let parts = c.args.parts.now in
    let rest3 = parts.constraints ++ gate_inputs parts.gates in
    let rest2 = parts.bads ++ rest3 in
    let rest1 = parts.outputs ++ rest2 in
    let IsRight : Judgement = λ _ l. IsMarked c.args.defined.now l in
    let right1 = rw c.as_slice.ensures at c.in_ok-check_latches.ensures.ok in
    let right2 = rw c.as_slice-2.ensures at c.in_ok-check_lits.ensures.ok in
    let right3 = rw c.as_slice-3.ensures at c.in_ok-check_lits-2.ensures.ok in
    let right4 = rw c.as_slice-4.ensures at c.in_ok-check_lits-3.ensures.ok in
    let wrong = rw c.as_slice-5.ensures at c.in_err-check_gates.ensures.err in
    let p = err_from_is_err_and c.from_residual-in_err-check_gates.result c.from_residual-in_err-check_gates.ensures.1 in
    rw (p.1, p.2)
    (wrong_right IsRight (next_lits parts.latches) rest1 _ right1 (wrong_right IsRight parts.outputs rest2 _ right2 (wrong_right IsRight parts.bads rest3 _ right3 (wrong_right IsRight parts.constraints (gate_inputs parts.gates) _ right4 wrong))))

pub returns-clause-ok : goal.returns-clause-ok
returns-clause-ok c =
    let parts = c.args.parts.now in
    let rest3 = parts.constraints ++ gate_inputs parts.gates in
    let rest2 = parts.bads ++ rest3 in
    let rest1 = parts.outputs ++ rest2 in
    let IsRight : Judgement = λ _ l. IsMarked c.args.defined.now l in
    let right1 = rw c.as_slice.ensures at c.in_ok-check_latches.ensures.ok in
    let right2 = rw c.as_slice-2.ensures at c.in_ok-check_lits.ensures.ok in
    let right3 = rw c.as_slice-3.ensures at c.in_ok-check_lits-2.ensures.ok in
    let right4 = rw c.as_slice-4.ensures at c.in_ok-check_lits-3.ensures.ok in
    let right5 = rw c.as_slice-5.ensures at c.in_ok-check_gates.ensures.ok in
    right_append IsRight (next_lits parts.latches) rest1 right1 (right_append IsRight parts.outputs rest2 right2 (right_append IsRight parts.bads rest3 right3 (right_append IsRight parts.constraints (gate_inputs parts.gates) right4 right5)))
