use Rattle.std.proofs.Common.{◌≡◌, ◌≢◌, ◌<◌, ℕ, get_or}
use Rattle.aig_model.specs.WellFormed.{left_sides}
use Rattle.aig_ascii.proofs.reading.gate_place.Given as goal

abbrev pub invariant-loop-gate : goal.invariant-loop-gate
invariant-loop-gate l = record {
  index : l.place ≡ l.gate-index;
  before : (k : ℕ) → k < l.gate-index → get_or (left_sides l.parts.gates) k 0 ≢ l.lhs;
}
