use Rattle.std.proofs.Common.{◌<◌, ◌++◌, ◌∙◌, length}
use Rattle.std.proofs.lemmas.Result.{err_from_is_err_and}
use Rattle.aig_model.specs.Literal.{var}
use Rattle.aig_model.specs.WellFormed.{latch_lits, left_sides}
use Rattle.aig_model.proofs.Elements.{All-left, All-right}
use Rattle.aig_model.proofs.Marks.{room_same, defines_append, fails_left, fails_right}
use Rattle.aig_model.proofs.definers.check_definers.Goals as goal

pub define_lits-requires : goal.define_lits-requires
define_lits-requires c =
    let parts = c.args.parts.now in
    rw c.as_slice.ensures
    (All-left (λ l. var l < length c.args.defined.now) parts.inputs (latch_lits parts.latches ++ left_sides parts.gates) c.requires)

pub returns-in_err-define_lits-clause-err : goal.returns-in_err-define_lits-clause-err
returns-in_err-define_lits-clause-err c =
    let parts = c.args.parts.now in
    let fails = rw c.as_slice.ensures at c.in_err-define_lits.ensures.err in
    let p = err_from_is_err_and c.from_residual.result c.from_residual.ensures.1 in
    rw (p.1, p.2)
    (fails_left c.args.defined.now parts.inputs (latch_lits parts.latches ++ left_sides parts.gates) _ fails)

pub define_latches-requires : goal.define_latches-requires
define_latches-requires c =
    let parts = c.args.parts.now in
    let others = All-right (λ l. var l < length c.args.defined.now) parts.inputs (latch_lits parts.latches ++ left_sides parts.gates) c.requires in
    let room = All-left (λ l. var l < length c.args.defined.now) (latch_lits parts.latches) (left_sides parts.gates) others in
    rw c.as_slice-2.ensures (room_same c.args.defined.now c.define_lits.new.defined (latch_lits parts.latches) c.in_ok-define_lits.ensures.size room)

pub returns-in_err-define_latches-clause-err : goal.returns-in_err-define_latches-clause-err
returns-in_err-define_latches-clause-err c =
    let parts = c.args.parts.now in
    let inputs = rw c.as_slice.ensures at c.in_ok-define_lits.ensures.ok in
    let fails = rw c.as_slice-2.ensures at c.in_err-define_latches.ensures.err in
    let p = err_from_is_err_and c.from_residual-in_err-define_latches.result c.from_residual-in_err-define_latches.ensures.1 in
    rw (p.1, p.2)
    (fails_right c.args.defined.now c.define_lits.new.defined parts.inputs (latch_lits parts.latches ++ left_sides parts.gates) _ inputs
    (fails_left c.define_lits.new.defined (latch_lits parts.latches) (left_sides parts.gates) _ fails))

pub define_gates-requires : goal.define_gates-requires
define_gates-requires c =
    let parts = c.args.parts.now in
    let others = All-right (λ l. var l < length c.args.defined.now) parts.inputs (latch_lits parts.latches ++ left_sides parts.gates) c.requires in
    let room = All-right (λ l. var l < length c.args.defined.now) (latch_lits parts.latches) (left_sides parts.gates) others in
    let size = c.in_ok-define_latches.ensures.size ∙ c.in_ok-define_lits.ensures.size in
    rw c.as_slice-3.ensures (room_same c.args.defined.now c.define_latches.new.defined (left_sides parts.gates) size room)

pub returns-in_err-define_gates-clause-err : goal.returns-in_err-define_gates-clause-err
returns-in_err-define_gates-clause-err c =
    let parts = c.args.parts.now in
    let inputs = rw c.as_slice.ensures at c.in_ok-define_lits.ensures.ok in
    let latches = rw c.as_slice-2.ensures at c.in_ok-define_latches.ensures.ok in
    let fails = rw c.as_slice-3.ensures at c.in_err-define_gates.ensures.err in
    let p = err_from_is_err_and c.from_residual-in_err-define_gates.result c.from_residual-in_err-define_gates.ensures.1 in
    rw (p.1, p.2)
    (fails_right c.args.defined.now c.define_lits.new.defined parts.inputs (latch_lits parts.latches ++ left_sides parts.gates) _ inputs
    (fails_right c.define_lits.new.defined c.define_latches.new.defined (latch_lits parts.latches) (left_sides parts.gates) _ latches fails))

pub returns-clause-ok : goal.returns-clause-ok
returns-clause-ok c =
    let parts = c.args.parts.now in
    let inputs = rw c.as_slice.ensures at c.in_ok-define_lits.ensures.ok in
    let latches = rw c.as_slice-2.ensures at c.in_ok-define_latches.ensures.ok in
    let gates = rw c.as_slice-3.ensures at c.in_ok-define_gates.ensures.ok in
    defines_append c.args.defined.now c.define_lits.new.defined c.define_gates.new.defined parts.inputs (latch_lits parts.latches ++ left_sides parts.gates) inputs
    (defines_append c.define_lits.new.defined c.define_latches.new.defined c.define_gates.new.defined (latch_lits parts.latches) (left_sides parts.gates) latches gates)
