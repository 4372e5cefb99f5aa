use Rattle.std.proofs.Common.{◌≡◌, ℕ, List, length, get_or, ap, ◌∙◌, arith}
use Rattle.std.proofs.lemmas.List.{length-set}
use Rattle.sat_queue.specs.Linked.{list_of, IsRing}
use Rattle.sat_queue.proofs.Ring.{moved, first_in_range, neighbours_in_range}
use Rattle.sat_queue.proofs.links.move_front.Goals as goal

pub unlink-requires-clause-before : goal.unlink-requires-clause-before
unlink-requires-clause-before c =
    let near = neighbours_in_range c.args.next.now c.args.prev.now c.args.var c.requires.ring c.requires.not_zero c.requires.in_range in
    omega (arith, near.1, c.requires.ring.next_room)

pub unlink-requires-clause-after : goal.unlink-requires-clause-after
unlink-requires-clause-after c =
    let near = neighbours_in_range c.args.next.now c.args.prev.now c.args.var c.requires.ring c.requires.not_zero c.requires.in_range in
    omega (arith, near.0, c.requires.ring.prev_room)

pub link_front-requires-clause-first : goal.link_front-requires-clause-first
link_front-requires-clause-first c =
    let first = first_in_range c.args.next.now c.args.prev.now c.unlink.new.next c.args.var c.requires.ring c.requires.not_zero c.requires.in_range c.unlink.ensures.next in
    let len : length c.unlink.new.prev ≡ length c.args.prev.now = ap length c.unlink.ensures.prev ∙ length-set c.args.prev.now (get_or c.args.next.now c.args.var 0) (get_or c.args.prev.now c.args.var 0) in
    omega (arith, first, c.requires.ring.prev_room)

pub returns-clause-ring : goal.returns-clause-ring
returns-clause-ring c =
    let m = moved c.args.next.now c.args.prev.now c.unlink.new.next c.unlink.new.prev c.args.var c.requires.ring c.requires.not_zero c.requires.in_range c.unlink.ensures.next c.unlink.ensures.prev in
    let P : List ℕ → List ℕ → Type 0 = λ next prev. IsRing next prev (list_of next) in
    rw (c.link_front.ensures.next, c.link_front.ensures.prev) m.ring

pub returns-clause-list : goal.returns-clause-list
returns-clause-list c =
    let m = moved c.args.next.now c.args.prev.now c.unlink.new.next c.unlink.new.prev c.args.var c.requires.ring c.requires.not_zero c.requires.in_range c.unlink.ensures.next c.unlink.ensures.prev in
    ap list_of c.link_front.ensures.next ∙ m.list
