use Rattle.std.proofs.Common.{◌≡◌, Bool, List, map, length}
use Rattle.aig_model.specs.Literal.{value_of}
use Rattle.aig_model.specs.Table.{rows_of}
use Rattle.unroll.proofs.trace.input_rows.Given as goal

abbrev pub invariant-loop-step : goal.invariant-loop-step
invariant-loop-step l = record {
  width : l.rows.width ≡ length l.inputs;
  rows : l.rows.rows ≡ map (λ (a : List Bool). map (value_of a) l.inputs) (rows_of l.width l.step l.model);
}
