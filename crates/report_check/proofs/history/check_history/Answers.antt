use Rattle.std.proofs.Common.{refl, ap, Err}
use Rattle.report_check.proofs.FirstKinds.{history_met, history_first}
use Rattle.report_check.proofs.history.check_history.Goals as goal
use Rattle.report_check.proofs.history.check_history.Goals.{in-Ok, in-Err-At, in-Err-OutOfMemory}

pub returns : goal.returns
returns c = elim c.match-replay_history.branch [
  | in-Ok w ↦ rw w.result-is (history_met c.args.signals.now.lits c.args.report.now (rw c.goals.ensures at (w.in-Ok.ensures.ok.only refl)))
  | in-Err-At w ↦ rw (w.result-is, w.kind_of_fault.ensures) (
    refl,
    history_first c.args.signals.now.lits c.args.report.now w.in-Err-At.at w.in-Err-At.kind
        (rw c.goals.ensures at ((w.in-Err-At.ensures.fault w.in-Err-At.at w.in-Err-At.kind).only (ap Err w.in-Err-At.field-0-is))),
  )
  | in-Err-OutOfMemory w ↦ rw w.result-is tt
]
