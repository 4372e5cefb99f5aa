use Rattle.std.proofs.Common.{◌≡◌, length}
use Rattle.sat_solver.proofs.backjump.bring_to_front.Given as goal

abbrev pub invariant-loop-index : goal.invariant-loop-index
invariant-loop-index l =
    record {
      queue : length l.queue ≡ length l.initial.queue;
      ranks : l.ranks ≡ l.initial.ranks;
    }
