use Rattle.std.specs.Option.{is_some}
use Rattle.std.proofs.Common.{false, not, ◌≡◌, ◌<◌, ◌≤◌, ℕ, length, get_or, ap, ◌∙◌, subst, arith}
use Rattle.sat_trail.proofs.Lookup.{get_or_any}
use Rattle.std.specs.List.{find}
use Rattle.sat_queue.specs.Order.{from_on, is_unassigned}
use Rattle.sat_queue.specs.Linked.{list_of}
use Rattle.sat_queue.proofs.Search.{free_by_level, assignment_by_level, found_here, passed_over, nearer_end, next_within, none_left}
use Rattle.sat_queue.proofs.queue.VarQueue.next_unset_from.Goals as goal

pub returns-then-is_none : goal.returns-then-is_none
returns-then-is_none c =
    let s = c.self.inside in
    let list = list_of s.next.items in
    let test = is_unassigned c.args.trail.now.assignments in
    let positive : 0 < c.loop-at.at = omega (arith, c.loop-at-test.true) in
    let none : is_some c.level_of.result ≡ false = c.is_none.ensures ∙ ap not c.if-is_none.true in
    let passes = free_by_level c.args.trail.now.assignments c.loop-at.at c.level_of.result c.level_of.ensures none in
    found_here s.next.items s.prev.items list test c.args.var c.loop-at.at c.self.invariant positive c.loop-at.invariant.within c.loop-at.invariant.same passes
    ∙ ap (λ ls. find test (from_on c.args.var ls)) c.self.view_is

pub loop-at-smaller : goal.loop-at-smaller
loop-at-smaller c =
    let s = c.self.inside in
    let list = list_of s.next.items in
    let test = is_unassigned c.args.trail.now.assignments in
    let positive : 0 < c.loop-at.at = omega (arith, c.loop-at-test.true) in
    let lt : c.loop-at.at < length s.next.items = omega (arith, c.self.invariant.next_room, c.loop-at.invariant.within) in
    let next : get_or s.next.items c.loop-at.at 0 ≡ c.index-at.result.now = get_or_any s.next.items c.loop-at.at c.index-at.result.now 0 lt c.index-at.ensures in
    let P : ℕ → Type 0 = λ n. length (from_on n list) < length (from_on c.loop-at.at list) in
    subst P next (nearer_end s.next.items s.prev.items list c.loop-at.at c.self.invariant positive c.loop-at.invariant.within)

pub loop-at-preserved : goal.loop-at-preserved
loop-at-preserved c =
    let s = c.self.inside in
    let list = list_of s.next.items in
    let test = is_unassigned c.args.trail.now.assignments in
    let positive : 0 < c.loop-at.at = omega (arith, c.loop-at-test.true) in
    let lt : c.loop-at.at < length s.next.items = omega (arith, c.self.invariant.next_room, c.loop-at.invariant.within) in
    let next : get_or s.next.items c.loop-at.at 0 ≡ c.index-at.result.now = get_or_any s.next.items c.loop-at.at c.index-at.result.now 0 lt c.index-at.ensures in
    let fails = assignment_by_level c.args.trail.now.assignments c.loop-at.at c.level_of.result c.level_of.ensures c.if-is_none.ensures in
    let P : ℕ → Type 0 = λ n. n ≤ length list in
    let Q : ℕ → Type 0 = λ n. find test (from_on c.args.var list) ≡ find test (from_on n list) in
    record {
      within = subst P next (next_within s.next.items s.prev.items list c.loop-at.at c.self.invariant positive c.loop-at.invariant.within);
      same = subst Q next (passed_over s.next.items s.prev.items list test c.args.var c.loop-at.at c.self.invariant positive c.loop-at.invariant.within c.loop-at.invariant.same fails);
    }

pub returns : goal.returns
returns c =
    let s = c.self.inside in
    let list = list_of s.next.items in
    none_left list (is_unassigned c.args.trail.now.assignments) c.args.var c.loop-at.at c.self.invariant.order (omega (arith, c.loop-at-test.false)) c.loop-at.invariant.same
    ∙ ap (λ ls. find (is_unassigned c.args.trail.now.assignments) (from_on c.args.var ls)) c.self.view_is
