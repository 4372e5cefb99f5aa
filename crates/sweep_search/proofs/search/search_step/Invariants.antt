use Rattle.std.proofs.Common.{◌^◌, ◌-◌, length}
use Rattle.unroll.specs.Framing.{HasFrames}
use Rattle.sweep_search.specs.Steps.{AddsAt, IsSearched}
use Rattle.sweep_search.proofs.search.search_step.Given as goal

abbrev pub invariant-queries : goal.invariant-queries
invariant-queries l = record {
  searched : IsSearched l.circuit l.signals.lits l.fn.framed.start l.known l.step l.found;
  added : AddsAt l.step l.fn.found l.found;
  frames : HasFrames l.circuit l.fn.framed.start l.step l.framed;
}

abbrev pub decreases-queries : goal.decreases-queries
decreases-queries l = 2 ^ length l.signals.lits - length l.found
