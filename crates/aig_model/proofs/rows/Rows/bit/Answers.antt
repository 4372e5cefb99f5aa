use Rattle.std.proofs.Common.{◌<◌, ◌+◌, ◌*◌, length, arith, ◌∙◌}
use Rattle.aig_model.proofs.Tables.{bit_fits, bit_is}
use Rattle.aig_model.proofs.rows.Rows.bit.Goals as goal

abbrev inside : (c : goal.After-row_known-1) → c.args.row * c.self.inside.width + c.args.column < length c.self.inside.bits
inside c =
    let t = c.self.inside in bit_fits t.width t.len c.args.row c.args.column t.bits c.args.self.now c.self.view_is c.self.invariant.0 c.requires.row c.requires.column

pub overflow_mul-row : goal.overflow_mul-row
overflow_mul-row c = omega (arith, inside c)

pub overflow_add-row : goal.overflow_add-row
overflow_add-row c = omega (arith, inside c)

pub get-requires : goal.get-requires
get-requires c = inside c

pub returns : goal.returns
returns c =
    let t = c.self.inside in
    c.get.ensures ∙ bit_is t.width t.len c.args.row c.args.column t.bits c.args.self.now c.self.view_is c.requires.row c.requires.column
