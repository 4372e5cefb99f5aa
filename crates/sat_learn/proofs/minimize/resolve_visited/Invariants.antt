use Rattle.std.proofs.Common.{◌≡◌, ◌≤◌, ℕ, length, take}
use Rattle.sat_learn.specs.Premises.{ResolvesIn}
use Rattle.sat_learn.specs.Tracking.{IsTracked, IsFirstUip}
use Rattle.sat_learn.specs.Visiting.{AreVisitsOf}
use Rattle.sat_learn.proofs.minimize.resolve_visited.Given as goal

-- the visited literals from the index on were resolved away where they can be
abbrev pub invariant-loop-index : goal.invariant-loop-index
invariant-loop-index l =
    record {
      within : l.index ≤ length l.visited;
      visits : AreVisitsOf (take l.index l.visited) l.visits;
      tracked : IsTracked l.premises.trail l.marks l.analysis.kept.items l.analysis.root_lits.items l.analysis.open_count;
      count : l.analysis.open_count ≡ l.initial.analysis.open_count;
      first_uip : (place : ℕ) → IsFirstUip l.premises.trail l.initial.marks place → IsFirstUip l.premises.trail l.marks place;
      resolves : ResolvesIn l.premises l.initial.marks l.initial.analysis.hints.items l.marks l.analysis.hints.items;
    }

abbrev pub decreases-loop-index : goal.decreases-loop-index
decreases-loop-index l = l.index
