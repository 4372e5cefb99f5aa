use Rattle.std.proofs.Common.{◌≤◌, length}
use Rattle.sat_trail.specs.Trail.{upto}
use Rattle.sat_learn.specs.Premises.{ResolvesIn}
use Rattle.sat_learn.specs.Learned.{AreAtRoot}
use Rattle.sat_learn.specs.Resolving.{AreQueued, AreRootsClear, DifferAtRoots}
use Rattle.sat_learn.proofs.roots.resolve_roots.Given as goal

-- the literals of level 0 from the place on aren't marked, and the marked ones before it wait
abbrev pub invariant-loop-place : goal.invariant-loop-place
invariant-loop-place l =
    record {
      within : l.before ≤ length (upto 0 l.premises.trail.assignments);
      clear : AreRootsClear l.premises.trail.assignments l.marks l.before;
      queued : AreQueued l.premises.trail.assignments l.marks l.queue l.before;
      others : DifferAtRoots l.premises.trail.assignments l.initial.marks l.marks;
      resolves : ResolvesIn l.premises l.initial.marks l.initial.hints.items l.marks l.hints.items;
      roots : AreAtRoot l.premises.trail.assignments l.roots.items;
    }

abbrev pub decreases-loop-place : goal.decreases-loop-place
decreases-loop-place l = l.before
