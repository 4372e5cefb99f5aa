use Rattle.std.proofs.Common.{◌≡◌, replicate, length}
use Rattle.sim_walk.specs.Zero.{zero_row}
use Rattle.sim_walk.proofs.walk.zero_rows.Given as goal

abbrev pub invariant-loop-done : goal.invariant-loop-done
invariant-loop-done l = (l.rows.width ≡ length l.circuit.inputs) × (l.rows.rows ≡ replicate l._done (zero_row l.circuit))
