use Rattle.std.proofs.Common.{◌≡◌, ◌+◌, ◌∙◌, [], false, length, ap}
use Rattle.std.proofs.lemmas.List.{length-replicate}
use Rattle.std.proofs.lemmas.List.Elements.{All-weaker}
use Rattle.aig_model.specs.WellFormed.{literals, definers, uses, gate_literals, IsInRange, IsKnown}
use Rattle.aig_model.specs.Marks.{Marks, IsMarked}
use Rattle.aig_model.proofs.Building.{sections, gates_in_range, room_in_range, marks_nothing, all_by_right, definers_defining, definers_once, known_by_marked, unknown_by_unmarked, left_sides_once}
use Rattle.aig_model.proofs.build.check.Goals as goal

pub check_definers-requires : goal.check_definers-requires
check_definers-requires c =
    let parts = c.args.parts.now in
    let in_range = all_by_right (IsInRange parts.top) (literals parts) c.in_default.ensures.ok in
    let size : length c.in_ok-defined.defined ≡ parts.top + 1 = ap length c.in_ok-defined.ensures ∙ length-replicate (parts.top + 1) false in
    room_in_range parts.top c.in_ok-defined.defined (definers parts) size (sections (IsInRange parts.top) parts in_range).0

pub returns-in-Err-check_definers-clause-err : goal.returns-in-Err-check_definers-clause-err
returns-in-Err-check_definers-clause-err c =
    let parts = c.args.parts.now in
    let none : Marks c.in_ok-defined.defined [] = rw c.in_ok-defined.ensures (marks_nothing (parts.top + 1)) in
    rw c.value-in-Err-check_definers.ensures (record {
      in_range = all_by_right (IsInRange parts.top) (literals parts) c.in_default.ensures.ok;
      first = c.in-Err-check_definers.ensures.err [] none;
    })

pub check_uses-requires : goal.check_uses-requires
check_uses-requires c =
    let parts = c.args.parts.now in
    let in_range = all_by_right (IsInRange parts.top) (literals parts) c.in_default.ensures.ok in
    let size : length c.check_definers.new.defined ≡ parts.top + 1 =
    c.check_definers.ensures.size ∙ (ap length c.in_ok-defined.ensures ∙ length-replicate (parts.top + 1) false)
    in
    room_in_range parts.top c.check_definers.new.defined (uses parts) size (sections (IsInRange parts.top) parts in_range).1

pub returns-in-Err-check_uses-clause-err : goal.returns-in-Err-check_uses-clause-err
returns-in-Err-check_uses-clause-err c =
    let parts = c.args.parts.now in
    let none : Marks c.in_ok-defined.defined [] = rw c.in_ok-defined.ensures (marks_nothing (parts.top + 1)) in
    let defined = c.in_default-check_definers.ensures.ok [] none in
    rw c.value-in-Err-check_uses.ensures (record {
      in_range = all_by_right (IsInRange parts.top) (literals parts) c.in_default.ensures.ok;
      defining = definers_defining (definers parts) defined.0;
      once = definers_once (definers parts) defined.0;
      first = unknown_by_unmarked parts c.check_definers.new.defined _ defined.1 c.in-Err-check_uses.ensures.err;
    })

pub mark_left_sides-requires-clause-room : goal.mark_left_sides-requires-clause-room
mark_left_sides-requires-clause-room c =
    let parts = c.args.parts.now in
    let in_range = all_by_right (IsInRange parts.top) (literals parts) c.in_default.ensures.ok in
    let size : length c.in_ok-ahead.ahead ≡ parts.top + 1 = ap length c.in_ok-ahead.ensures ∙ length-replicate (parts.top + 1) false in
    rw c.as_slice-gates.ensures (room_in_range parts.top c.in_ok-ahead.ahead (gate_literals parts.gates) size (gates_in_range (IsInRange parts.top) parts in_range))

pub mark_left_sides-requires-clause-none : goal.mark_left_sides-requires-clause-none
mark_left_sides-requires-clause-none c = rw c.in_ok-ahead.ensures (marks_nothing (c.args.parts.now.top + 1))

pub check_order-requires-clause-room : goal.check_order-requires-clause-room
check_order-requires-clause-room c =
    let parts = c.args.parts.now in
    let in_range = all_by_right (IsInRange parts.top) (literals parts) c.in_default.ensures.ok in
    let size : length c.mark_left_sides.new.ahead ≡ parts.top + 1 =
    c.mark_left_sides.ensures.size ∙ (ap length c.in_ok-ahead.ensures ∙ length-replicate (parts.top + 1) false)
    in
    rw c.as_slice-gates.ensures (room_in_range parts.top c.mark_left_sides.new.ahead (gate_literals parts.gates) size (gates_in_range (IsInRange parts.top) parts in_range))

pub check_order-requires-clause-once : goal.check_order-requires-clause-once
check_order-requires-clause-once c =
    let parts = c.args.parts.now in
    let none : Marks c.in_ok-defined.defined [] = rw c.in_ok-defined.ensures (marks_nothing (parts.top + 1)) in
    let defined = c.in_default-check_definers.ensures.ok [] none in
    rw c.as_slice-gates.ensures (left_sides_once parts (definers_once (definers parts) defined.0))

pub returns-in-Err-check_order-clause-err : goal.returns-in-Err-check_order-clause-err
returns-in-Err-check_order-clause-err c =
    let parts = c.args.parts.now in
    let none : Marks c.in_ok-defined.defined [] = rw c.in_ok-defined.ensures (marks_nothing (parts.top + 1)) in
    let defined = c.in_default-check_definers.ensures.ok [] none in
    let marked = all_by_right (IsMarked c.check_definers.new.defined) (uses parts) c.in_default-check_uses.ensures.ok in
    record {
      in_range = all_by_right (IsInRange parts.top) (literals parts) c.in_default.ensures.ok;
      defining = definers_defining (definers parts) defined.0;
      once = definers_once (definers parts) defined.0;
      known = All-weaker (IsMarked c.check_definers.new.defined) (IsKnown parts) (known_by_marked parts c.check_definers.new.defined defined.1) (uses parts) marked;
      first = rw c.as_slice-gates.ensures at c.in-Err-check_order.ensures.err;
    }

pub returns-clause-ok : goal.returns-clause-ok
returns-clause-ok c =
    let parts = c.args.parts.now in
    let none : Marks c.in_ok-defined.defined [] = rw c.in_ok-defined.ensures (marks_nothing (parts.top + 1)) in
    let defined = c.in_default-check_definers.ensures.ok [] none in
    let marked = all_by_right (IsMarked c.check_definers.new.defined) (uses parts) c.in_default-check_uses.ensures.ok in
    record {
      sized = c.requires.sized;
      in_range = all_by_right (IsInRange parts.top) (literals parts) c.in_default.ensures.ok;
      defining = definers_defining (definers parts) defined.0;
      once = definers_once (definers parts) defined.0;
      known = All-weaker (IsMarked c.check_definers.new.defined) (IsKnown parts) (known_by_marked parts c.check_definers.new.defined defined.1) (uses parts) marked;
      ordered = rw c.as_slice-gates.ensures at c.in_default-check_order.ensures.ok;
      names = c.requires.names;
    }
