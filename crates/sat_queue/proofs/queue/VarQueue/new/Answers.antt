use Rattle.std.proofs.Common.{List, ℕ, sym, subst}
use Rattle.std.specs.List.{range_with_len}
use Rattle.sat_queue.specs.Linked.{IsRing}
use Rattle.sat_queue.proofs.Ring.{ring_new, list_of-ring}
use Rattle.sat_queue.proofs.queue.VarQueue.new.Goals as goal

pub invariant_of-result : goal.invariant_of-result
invariant_of-result c =
    let next = c.in_ok-next.next.items in
    let prev = c.in_ok-prev.prev.items in
    let ring = ring_new c.args.vars next prev c.requires c.in_ok-next.ensures.room c.in_ok-next.ensures.each c.in_ok-next.ensures.last c.in_ok-prev.ensures.room c.in_ok-prev.ensures.each c.in_ok-prev.ensures.last in
    let P : List ℕ → Type 0 = λ ls. IsRing next prev ls in
    subst P (sym (list_of-ring next prev (range_with_len 1 c.args.vars) ring)) ring

pub returns : goal.returns
returns c =
    let next = c.in_ok-next.next.items in
    let prev = c.in_ok-prev.prev.items in
    list_of-ring next prev (range_with_len 1 c.args.vars) (ring_new c.args.vars next prev c.requires c.in_ok-next.ensures.room c.in_ok-next.ensures.each c.in_ok-next.ensures.last c.in_ok-prev.ensures.room c.in_ok-prev.ensures.each c.in_ok-prev.ensures.last)
