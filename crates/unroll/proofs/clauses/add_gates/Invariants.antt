use Rattle.std.proofs.Common.{◌≡◌, take}
use Rattle.std.specs.List.{flat_map}
use Rattle.unroll.specs.Frames.{gate_clauses}
use Rattle.unroll.specs.Building.{with_clauses}
use Rattle.unroll.proofs.clauses.add_gates.Given as goal

abbrev pub invariant-loop-gate : goal.invariant-loop-gate
invariant-loop-gate l = l.formula ≡ with_clauses l.initial.formula (flat_map (gate_clauses l.before) (take l.gate-index l.gates))
