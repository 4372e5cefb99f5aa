use Rattle.std.proofs.Common.{◌≡◌, ◌+◌, ◌-◌, ◌*◌, length, arith, ◌∙◌, ap, take, drop, []}
use Rattle.aig_model.proofs.Tables.{row_fits, row_is, length-row_of, same_width}
use Rattle.aig_model.proofs.rows.Rows.get.Goals as goal

pub overflow_mul-from : goal.overflow_mul-from
overflow_mul-from c =
    let t = c.self.inside in omega (arith, row_fits t.width t.len c.args.row t.bits c.args.self.now c.self.view_is c.self.invariant.0 c.requires)

pub overflow_add-from : goal.overflow_add-from
overflow_add-from c =
    let t = c.self.inside in omega (arith, row_fits t.width t.len c.args.row t.bits c.args.self.now c.self.view_is c.self.invariant.0 c.requires)

pub part-requires-clause-within : goal.part-requires-clause-within
part-requires-clause-within c =
    let t = c.self.inside in row_fits t.width t.len c.args.row t.bits c.args.self.now c.self.view_is c.self.invariant.0 c.requires

pub returns-clause-row : goal.returns-clause-row
returns-clause-row c =
    let t = c.self.inside in
    let width : c.args.row * t.width + t.width - c.args.row * t.width ≡ t.width = omega arith in
    c.in_ok-bits.ensures ∙ (ap (λ n. take n (drop (c.args.row * t.width) t.bits)) width
    ∙ row_is t.width t.len c.args.row t.bits c.args.self.now [] c.self.view_is c.requires)

pub returns-clause-width : goal.returns-clause-width
returns-clause-width c =
    let t = c.self.inside in
    let width : c.args.row * t.width + t.width - c.args.row * t.width ≡ t.width = omega arith in
    let fits = row_fits t.width t.len c.args.row t.bits c.args.self.now c.self.view_is c.self.invariant.0 c.requires in
    ap length c.in_ok-bits.ensures ∙ (ap (λ n. length (take n (drop (c.args.row * t.width) t.bits))) width
    ∙ (length-row_of t.width c.args.row t.bits fits ∙ same_width t.width t.len t.bits c.args.self.now c.self.view_is))
