use Rattle.std.proofs.Common.{◌++◌}
use Rattle.std.proofs.lemmas.Result.{err_from_is_err_and}
use Rattle.aig_model.specs.WellFormed.{IsInRange, latch_literals, gate_literals}
use Rattle.aig_model.proofs.Rightness.{Judgement, right_append, wrong_left, wrong_right}
use Rattle.aig_model.proofs.range.check_range.Goals as goal

pub returns-in_err-check_lits-clause-err : goal.returns-in_err-check_lits-clause-err
returns-in_err-check_lits-clause-err c =
    let parts = c.args.parts.now in
    let rest4 = parts.constraints ++ gate_literals parts.gates in
    let rest3 = parts.bads ++ rest4 in
    let rest2 = parts.outputs ++ rest3 in
    let rest1 = latch_literals parts.latches ++ rest2 in
    let IsRight : Judgement = λ _ l. IsInRange parts.top l in
    let wrong = rw c.as_slice.ensures at c.in_err-check_lits.ensures.err in
    let p = err_from_is_err_and c.from_residual.result c.from_residual.ensures.1 in
    rw (p.1, p.2)
    (wrong_left IsRight parts.inputs rest1 _ wrong)

pub returns-in_err-check_latches-clause-err : goal.returns-in_err-check_latches-clause-err
returns-in_err-check_latches-clause-err c =
    let parts = c.args.parts.now in
    let rest4 = parts.constraints ++ gate_literals parts.gates in
    let rest3 = parts.bads ++ rest4 in
    let rest2 = parts.outputs ++ rest3 in
    let rest1 = latch_literals parts.latches ++ rest2 in
    let IsRight : Judgement = λ _ l. IsInRange parts.top l in
    let right1 = rw c.as_slice.ensures at c.in_ok-check_lits.ensures.ok in
    let wrong = rw c.as_slice-2.ensures at c.in_err-check_latches.ensures.err in
    let p = err_from_is_err_and c.from_residual-in_err-check_latches.result c.from_residual-in_err-check_latches.ensures.1 in
    rw (p.1, p.2)
    (wrong_right IsRight parts.inputs rest1 _ right1 (wrong_left IsRight (latch_literals parts.latches) rest2 _ wrong))

pub returns-in_err-check_lits-2-clause-err : goal.returns-in_err-check_lits-2-clause-err
returns-in_err-check_lits-2-clause-err c =
    let parts = c.args.parts.now in
    let rest4 = parts.constraints ++ gate_literals parts.gates in
    let rest3 = parts.bads ++ rest4 in
    let rest2 = parts.outputs ++ rest3 in
    let rest1 = latch_literals parts.latches ++ rest2 in
    let IsRight : Judgement = λ _ l. IsInRange parts.top l in
    let right1 = rw c.as_slice.ensures at c.in_ok-check_lits.ensures.ok in
    let right2 = rw c.as_slice-2.ensures at c.in_ok-check_latches.ensures.ok in
    let wrong = rw c.as_slice-3.ensures at c.in_err-check_lits-2.ensures.err in
    let p = err_from_is_err_and c.from_residual-in_err-check_lits-2.result c.from_residual-in_err-check_lits-2.ensures.1 in
    rw (p.1, p.2)
    (wrong_right IsRight parts.inputs rest1 _ right1 (wrong_right IsRight (latch_literals parts.latches) rest2 _ right2 (wrong_left IsRight parts.outputs rest3 _ wrong)))

pub returns-in_err-check_lits-3-clause-err : goal.returns-in_err-check_lits-3-clause-err
returns-in_err-check_lits-3-clause-err c =
    let parts = c.args.parts.now in
    let rest4 = parts.constraints ++ gate_literals parts.gates in
    let rest3 = parts.bads ++ rest4 in
    let rest2 = parts.outputs ++ rest3 in
    let rest1 = latch_literals parts.latches ++ rest2 in
    let IsRight : Judgement = λ _ l. IsInRange parts.top l in
    let right1 = rw c.as_slice.ensures at c.in_ok-check_lits.ensures.ok in
    let right2 = rw c.as_slice-2.ensures at c.in_ok-check_latches.ensures.ok in
    let right3 = rw c.as_slice-3.ensures at c.in_ok-check_lits-2.ensures.ok in
    let wrong = rw c.as_slice-4.ensures at c.in_err-check_lits-3.ensures.err in
    let p = err_from_is_err_and c.from_residual-in_err-check_lits-3.result c.from_residual-in_err-check_lits-3.ensures.1 in
    rw (p.1, p.2)
    (wrong_right IsRight parts.inputs rest1 _ right1 (wrong_right IsRight (latch_literals parts.latches) rest2 _ right2 (wrong_right IsRight parts.outputs rest3 _ right3 (wrong_left IsRight parts.bads rest4 _ wrong))))

pub returns-in_err-check_lits-4-clause-err : goal.returns-in_err-check_lits-4-clause-err
returns-in_err-check_lits-4-clause-err c =
    let parts = c.args.parts.now in
    let rest4 = parts.constraints ++ gate_literals parts.gates in
    let rest3 = parts.bads ++ rest4 in
    let rest2 = parts.outputs ++ rest3 in
    let rest1 = latch_literals parts.latches ++ rest2 in
    let IsRight : Judgement = λ _ l. IsInRange parts.top l in
    let right1 = rw c.as_slice.ensures at c.in_ok-check_lits.ensures.ok in
    let right2 = rw c.as_slice-2.ensures at c.in_ok-check_latches.ensures.ok in
    let right3 = rw c.as_slice-3.ensures at c.in_ok-check_lits-2.ensures.ok in
    let right4 = rw c.as_slice-4.ensures at c.in_ok-check_lits-3.ensures.ok in
    let wrong = rw c.as_slice-5.ensures at c.in_err-check_lits-4.ensures.err in
    let p = err_from_is_err_and c.from_residual-in_err-check_lits-4.result c.from_residual-in_err-check_lits-4.ensures.1 in
    rw (p.1, p.2)
    (wrong_right IsRight parts.inputs rest1 _ right1 (wrong_right IsRight (latch_literals parts.latches) rest2 _ right2 (wrong_right IsRight parts.outputs rest3 _ right3 (wrong_right IsRight parts.bads rest4 _ right4 (wrong_left IsRight parts.constraints (gate_literals parts.gates) _ wrong)))))

pub returns-in_err-check_gates-clause-err : goal.returns-in_err-check_gates-clause-err
returns-in_err-check_gates-clause-err c =
    let parts = c.args.parts.now in
    let rest4 = parts.constraints ++ gate_literals parts.gates in
    let rest3 = parts.bads ++ rest4 in
    let rest2 = parts.outputs ++ rest3 in
    let rest1 = latch_literals parts.latches ++ rest2 in
    let IsRight : Judgement = λ _ l. IsInRange parts.top l in
    let right1 = rw c.as_slice.ensures at c.in_ok-check_lits.ensures.ok in
    let right2 = rw c.as_slice-2.ensures at c.in_ok-check_latches.ensures.ok in
    let right3 = rw c.as_slice-3.ensures at c.in_ok-check_lits-2.ensures.ok in
    let right4 = rw c.as_slice-4.ensures at c.in_ok-check_lits-3.ensures.ok in
    let right5 = rw c.as_slice-5.ensures at c.in_ok-check_lits-4.ensures.ok in
    let wrong = rw c.as_slice-6.ensures at c.in_err-check_gates.ensures.err in
    let p = err_from_is_err_and c.from_residual-in_err-check_gates.result c.from_residual-in_err-check_gates.ensures.1 in
    rw (p.1, p.2)
    (wrong_right IsRight parts.inputs rest1 _ right1 (wrong_right IsRight (latch_literals parts.latches) rest2 _ right2 (wrong_right IsRight parts.outputs rest3 _ right3 (wrong_right IsRight parts.bads rest4 _ right4 (wrong_right IsRight parts.constraints (gate_literals parts.gates) _ right5 wrong)))))

pub returns-clause-ok : goal.returns-clause-ok
returns-clause-ok c =
    let parts = c.args.parts.now in
    let rest4 = parts.constraints ++ gate_literals parts.gates in
    let rest3 = parts.bads ++ rest4 in
    let rest2 = parts.outputs ++ rest3 in
    let rest1 = latch_literals parts.latches ++ rest2 in
    let IsRight : Judgement = λ _ l. IsInRange parts.top l in
    let right1 = rw c.as_slice.ensures at c.in_ok-check_lits.ensures.ok in
    let right2 = rw c.as_slice-2.ensures at c.in_ok-check_latches.ensures.ok in
    let right3 = rw c.as_slice-3.ensures at c.in_ok-check_lits-2.ensures.ok in
    let right4 = rw c.as_slice-4.ensures at c.in_ok-check_lits-3.ensures.ok in
    let right5 = rw c.as_slice-5.ensures at c.in_ok-check_lits-4.ensures.ok in
    let right6 = rw c.as_slice-6.ensures at c.in_ok-check_gates.ensures.ok in
    right_append IsRight parts.inputs rest1 right1 (right_append IsRight (latch_literals parts.latches) rest2 right2 (right_append IsRight parts.outputs rest3 right3 (right_append IsRight parts.bads rest4 right4 (right_append IsRight parts.constraints (gate_literals parts.gates) right5 right6))))
