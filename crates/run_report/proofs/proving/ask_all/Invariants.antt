use Rattle.unroll.specs.Framing.{HasFrames}
use Rattle.unroll.specs.declared.start.Start.TheVariants.{Any}
use Rattle.run_report.specs.Proving.{AreAsked}
use Rattle.run_report.proofs.proving.ask_all.Given as goal

abbrev pub invariant-loop-goal : goal.invariant-loop-goal
invariant-loop-goal l = AreAsked l.circuit l.signals.lits l.lemmas l.clauses l.known l.goal l.asked × HasFrames l.circuit Any 0 l.framed
