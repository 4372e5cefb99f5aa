use Rattle.std.proofs.Common.{◌≡◌, ◌+◌, ℕ, List, sym, subst, arith}
use Rattle.run_report.specs.declared.ends.BatchEnd.{BatchEnd}
use Rattle.run_report.proofs.Batching.{HaveRun, all_run, none_run, one_run}
use Rattle.run_report.proofs.batches.run_batches.Goals as goal

pub loop-batch-init : goal.loop-batch-init
loop-batch-init c =
    subst (λ (ends : List BatchEnd). HaveRun c.args.circuit.now c.args.signals.now.lits c.args.options.now 0 c.args.findings.now c.args.findings.now ends) (sym c.new-ends.ensures)
    (none_run c.args.circuit.now c.args.signals.now.lits c.args.options.now c.args.findings.now)

pub run_batch-requires-clause-goals : goal.run_batch-requires-clause-goals
run_batch-requires-clause-goals c = c.loop-batch.invariant.extends.below c.requires.goals

pub loop-batch-preserved : goal.loop-batch-preserved
loop-batch-preserved c =
    let o = c.args.options.now in
    subst (λ (ends : List BatchEnd). HaveRun c.args.circuit.now c.args.signals.now.lits o (c.loop-batch.batch + 1) c.args.findings.now c.run_batch.new.findings ends) (sym c.in_ok-push.ensures.ok)
    (one_run c.args.circuit.now c.args.signals.now.lits o c.loop-batch.batch c.args.findings.now c.loop-batch.findings c.run_batch.new.findings c.loop-batch.ends c.in_ok-end.end
    c.loop-batch.invariant c.in_ok-end.ensures)

pub returns : goal.returns
returns c =
    let o = c.args.options.now in
    let all : c.loop-batch.batch ≡ o.batches = omega arith in
    all_run c.args.circuit.now c.args.signals.now.lits o c.args.findings.now c.loop-batch.findings c.loop-batch.ends
    (subst (λ (n : ℕ). HaveRun c.args.circuit.now c.args.signals.now.lits o n c.args.findings.now c.loop-batch.findings c.loop-batch.ends) all c.loop-batch.invariant)
