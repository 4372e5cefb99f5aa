use Rattle.std.proofs.Common.{◌≡◌, true, false, List, Bool, [], arith, subst, refl, ◌∙◌, ◌-◌}
use Rattle.std.proofs.lemmas.List.{take_all}
use Rattle.aig_model.specs.Meaning.{IsStep, IsLegal}
use Rattle.aig_model.specs.declared.trace.Trace.{Trace}
use Rattle.aig_model.proofs.Paths.{length-state_after}
use Rattle.aig_eval.proofs.Replays.{found_none, found_more}
use Rattle.report_check.proofs.Ways.{fails_to_lead, leads}
use Rattle.report_check.proofs.seeds.state_after.Goals as goal

pub loop-step-init : goal.loop-step-init
loop-step-init c =
    let trace : Trace = record { start = c.args.start.now; rows = c.args.rows.now } in
    let same : c.in_ok-state.state ≡ trace.start = c.in_ok-state.ensures ∙ take_all (c.len.result - 0) trace.start (omega arith) in
    rw same (found_none c.args.circuit.now [] trace 0)

pub step_values-requires-clause-state : goal.step_values-requires-clause-state
step_values-requires-clause-state c =
    rw c.loop-step.invariant.state_is (length-state_after c.args.circuit.now c.args.start.now c.loop-step.invariant.frames c.requires.start)

pub returns-then-not-is_legal : goal.returns-then-not-is_legal
returns-then-not-is_legal c =
    let trace : Trace = record { start = c.args.start.now; rows = c.args.rows.now } in
    let P = λ (row : List Bool). IsStep c.args.circuit.now c.loop-step.state row c.in_ok-values.values in
    let step = subst P c.in_ok-row.ensures.row c.in_ok-values.ensures in
    fails_to_lead c.args.circuit.now trace c.loop-step.step c.loop-step.state c.in_ok-values.values
    c.is_well_formed.ensures c.loop-step.invariant (omega arith) step
    (λ legal. let wrong : false ≡ true = c.if-not-is_legal.ensures.1 legal in cc)

pub loop-step-preserved : goal.loop-step-preserved
loop-step-preserved c =
    let trace : Trace = record { start = c.args.start.now; rows = c.args.rows.now } in
    let P = λ (row : List Bool). IsStep c.args.circuit.now c.loop-step.state row c.in_ok-values.values in
    let step = subst P c.in_ok-row.ensures.row c.in_ok-values.ensures in
    let legal : IsLegal c.args.circuit.now c.in_ok-values.values = c.if-not-is_legal.ensures.0 refl in
    rw c.in_ok-state-2.ensures
    (found_more c.args.circuit.now [] trace c.loop-step.step c.loop-step.state 0 c.in_ok-values.values
    c.loop-step.invariant (omega arith) step legal)

pub returns : goal.returns
returns c =
    let trace : Trace = record { start = c.args.start.now; rows = c.args.rows.now } in
    leads c.args.circuit.now trace c.loop-step.step c.loop-step.state c.loop-step.invariant (omega arith)
