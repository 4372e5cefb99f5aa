use Rattle.std.proofs.Common.{◌≡◌, ◌≤◌, length}
use Rattle.std.specs.List.{find}
use Rattle.sat_queue.specs.Order.{from_on, is_unassigned}
use Rattle.sat_queue.specs.Linked.{list_of}
use Rattle.sat_queue.proofs.queue.VarQueue.next_unset_from.Given as goal

-- the first one from here on is the one that is looked for
abbrev pub invariant-loop-at : goal.invariant-loop-at
invariant-loop-at l =
    let list = list_of l.self-inside.next.items in
    record {
      within : l.at ≤ length list;
      same : find (is_unassigned l.trail.assignments) (from_on l.var list) ≡ find (is_unassigned l.trail.assignments) (from_on l.at list);
    }

abbrev pub decreases-loop-at : goal.decreases-loop-at
decreases-loop-at l = length (from_on l.at (list_of l.self-inside.next.items))
