use Rattle.aig_eval.proofs.Replays.{Found}
use Rattle.aig_eval.proofs.replaying.replay_rows.Given as goal

abbrev pub invariant-loop-step : goal.invariant-loop-step
invariant-loop-step l = Found l.circuit l.signals.lits l.trace l.step l.state l.goal
