use Rattle.std.proofs.Common.{◌≡◌, ℕ, ◌<◌, drop, length}
use Rattle.aig_model.specs.WellFormed.{left_sides}
use Rattle.aig_model.specs.Faults.{IsMisplaced}
use Rattle.aig_model.specs.Marks.{Marks}
use Rattle.aig_model.proofs.order.check_order.Given as goal

abbrev pub invariant-loop-place : goal.invariant-loop-place
invariant-loop-place l = record {
  size : length l.ahead ≡ length l.initial.ahead;
  marks : Marks l.ahead (left_sides (drop l.place l.gates));
  placed : (k : ℕ) → k < l.place → ¬ IsMisplaced l.gates k;
}
