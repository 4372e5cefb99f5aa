use Rattle.std.proofs.Common.{◌≡◌, ℕ, ℤ, List, length}
use Rattle.std.specs.List.{slice_get}
use Rattle.sat_watch.specs.Book.{ExtendsByUnits}
use Rattle.sat_watch.specs.Links.{chain, last_of}
use Rattle.sat_watch.proofs.Walks.{IsWalked}
use Rattle.sat_watch.proofs.propagate.walk_list.Given as goal

-- the literal's list is walked up to the cursor
abbrev pub invariant-loop-cursor : goal.invariant-loop-cursor
invariant-loop-cursor l =
    record {
      by_units : ExtendsByUnits l.clauses l.initial.trail l.trail;
      low : l.trail.low ≡ l.initial.trail.low;
      falsified : ℤ;
      front : List ℕ;
      rest : List ℕ;
      behind : last_of front ≡ l.previous;
      ahead : l.cursor ≡ slice_get rest 0;
      walked : IsWalked l.clauses l.heads l.watches l.trail l.at falsified front rest;
    }

abbrev pub decreases-loop-cursor : goal.decreases-loop-cursor
decreases-loop-cursor l = length (chain (length l.watches) l.watches l.cursor)
