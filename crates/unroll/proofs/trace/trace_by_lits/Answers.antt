use Rattle.std.proofs.Common.{◌+◌, Bool, List, map, length, ◌∙◌, ap, arith}
use Rattle.aig_model.specs.Literal.{value_of}
use Rattle.unroll.proofs.Rows.{first_room, first_row}
use Rattle.unroll.proofs.trace.trace_by_lits.Goals as goal

pub values_at-requires-clause-room : goal.values_at-requires-clause-room
values_at-requires-clause-room c = first_room c.args.width (c.args.last + 1) (length c.args.model.now) (omega arith) c.requires.size

pub returns-clause-start : goal.returns-clause-start
returns-clause-start c =
    c.in_ok-start.ensures
    ∙ ap (λ (a : List Bool). map (value_of a) c.args.latches.now) (first_row c.args.width (c.args.last + 1) c.args.model.now (omega arith))
