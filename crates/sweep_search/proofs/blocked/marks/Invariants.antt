use Rattle.std.proofs.Common.{◌≡◌, ℕ, take, length}
use Rattle.std.specs.Prelude.{◌↔◌}
use Rattle.sweep_search.specs.Sweep.{IsMarked, IsSettled}
use Rattle.sweep_search.proofs.blocked.marks.Given as goal

abbrev pub invariant-loop-new : goal.invariant-loop-new
invariant-loop-new l = record {
  size : length l.marks ≡ length l.known;
  marked : (goal : ℕ) → IsMarked l.marks goal ↔ IsSettled l.known (take l.new-index l.found) goal;
}
