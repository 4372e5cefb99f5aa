use Rattle.std.proofs.Common.{◌+◌, Bool, List, map, length, ◌∙◌, arith}
use Rattle.aig_model.specs.Literal.{value_of}
use Rattle.unroll.proofs.Rows.{row_room, rows_more}
use Rattle.unroll.proofs.trace.input_rows.Goals as goal

pub values_at-requires-clause-room : goal.values_at-requires-clause-room
values_at-requires-clause-room c =
    row_room c.args.width (c.args.last + 1) c.loop-step.step (length c.args.model.now) (omega arith) c.requires.size

pub loop-step-preserved : goal.loop-step-preserved
loop-step-preserved c = record {
  width = c.in_ok-push.ensures.width ∙ c.loop-step.invariant.width;
  rows = rows_more (λ (a : List Bool). map (value_of a) c.args.inputs.now) c.args.width c.loop-step.step c.args.model.now _ _ _ c.loop-step.invariant.rows
      c.in_ok-push.ensures.ok
      c.in_ok-row.ensures;
}
