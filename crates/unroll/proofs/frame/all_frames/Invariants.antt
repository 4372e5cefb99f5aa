use Rattle.std.proofs.Common.{◌≡◌}
use Rattle.std.specs.List.{flat_map, range_with_len}
use Rattle.unroll.specs.Frames.{frame_clauses}
use Rattle.unroll.specs.Building.{with_clauses}
use Rattle.unroll.proofs.frame.all_frames.Given as goal

abbrev pub invariant-loop-step : goal.invariant-loop-step
invariant-loop-step l = l.formula ≡ with_clauses l.initial.formula (flat_map (frame_clauses l.circuit l.start) (range_with_len 0 l.step))
