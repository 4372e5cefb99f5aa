use Rattle.std.proofs.Common.{◌≡◌, ◌<◌, ◌≤◌, length}
use Rattle.std.specs.List.{All}
use Rattle.sat_trail.specs.Trail.{upto}
use Rattle.sat_watch.specs.Book.{marks}
use Rattle.sat_solver.specs.Steps.{IsSearchState}
use Rattle.sat_solver.proofs.root_lemmas.add_root_lemmas.Given as goal

abbrev pub invariant-loop-place : goal.invariant-loop-place
invariant-loop-place l = record {
  state : IsSearchState l.formula l.lemmas l.search;
  more : length l.initial.search.steps ≤ length l.search.steps;
  stays : marks l.search.premises.trail.assignments ≡ marks l.initial.search.premises.trail.assignments;
  at_root : All (λ place. place < length (upto 0 l.initial.search.premises.trail.assignments)) l.place-iterator.iter.rest.now;
}
