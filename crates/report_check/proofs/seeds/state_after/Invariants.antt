use Rattle.std.proofs.Common.{[]}
use Rattle.aig_eval.proofs.Replays.{Found}
use Rattle.report_check.proofs.seeds.state_after.Given as goal

abbrev pub invariant-loop-step : goal.invariant-loop-step
invariant-loop-step l = Found l.circuit [] (record { start = l.start; rows = l.rows }) l.step l.state 0
