use Rattle.std.proofs.Common.{◌<◌, ◌≤◌, ℕ, List, length, ap, sym, ◌∙◌, subst, arith}
use Rattle.sat_trail.proofs.Lookup.{get_or_any}
use Rattle.sat_queue.specs.Order.{follower}
use Rattle.sat_queue.specs.Linked.{list_of, named}
use Rattle.sat_queue.proofs.Ring.{var_stands, after_is}
use Rattle.sat_queue.proofs.queue.VarQueue.after.Goals as goal

pub returns : goal.returns
returns c =
    let s = c.self.inside in
    let list = list_of s.next.items in
    let P : List ℕ → Type 0 = λ ls. c.args.var ≤ length ls in
    let within = subst P (sym c.self.view_is) c.requires.in_range in
    let lt : c.args.var < length s.next.items = omega (arith, c.self.invariant.next_room) in
    c.named.ensures
    ∙ ap named (sym (get_or_any s.next.items c.args.var c.index.result.now 0 lt c.index.ensures))
    ∙ after_is s.next.items s.prev.items list c.args.var c.self.invariant (var_stands list c.args.var c.self.invariant.order c.requires.not_zero within)
    ∙ ap (λ ls. follower c.args.var ls) c.self.view_is
