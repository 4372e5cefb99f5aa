use Rattle.std.proofs.Common.{◌<◌, ◌≤◌, All}
use Rattle.unroll.specs.Framing.{HasFrames}
use Rattle.sweep_search.specs.Sweep.{AreAllSettled, AreRefutedIf}
use Rattle.sweep_search.specs.Steps.{IsSearched}
use Rattle.sweep_search.specs.declared.swept.FoundGoal.{FoundGoal}
use Rattle.sweep_search.proofs.steps.search_from.Given as goal

abbrev pub invariant-loop-step : goal.invariant-loop-step
invariant-loop-step l = record {
  searched : IsSearched l.circuit l.signals.lits l.start l.known l.step l.found;
  refuted : AreRefutedIf l.keep l.circuit l.signals.lits l.start l.known l.found l.step l.lemmas l.refuted;
  left : 0 < l.step → ¬ AreAllSettled l.signals.lits l.known l.found;
  shallow : All (λ (f : FoundGoal). f.step ≤ l.depth) l.found;
  frames : l.step ≤ l.depth → HasFrames l.circuit l.start l.step l.framed;
}
