use Rattle.std.proofs.Common.{◌<◌, length, refl, arith}
use Rattle.sat_watch.specs.Links.{watch_lits}
use Rattle.sat_watch.proofs.Lists.{linked_next}
use Rattle.sat_watch.proofs.links.link_from.Goals as goal

pub link_front-requires-clause-in_range : goal.link_front-requires-clause-in_range
link_front-requires-clause-in_range c =
    let lt : c.loop-place.place < length c.loop-place.watches = omega (arith, c.loop-place-test.true, c.loop-place.auto.watches) in
    c.loop-place.invariant.in_range c.loop-place.place c.index-watches-place.result lt

pub loop-place-preserved : goal.loop-place-preserved
loop-place-preserved c =
    let lt : c.loop-place.place < length c.loop-place.watches = omega (arith, c.loop-place-test.true, c.loop-place.auto.watches) in
    linked_next c.loop-place.place c.loop-place.heads c.link_front.new.heads c.loop-place.watches c.link_front.new.watches (watch_lits c.args.watches.now) c.index-watches-place.result _ _ c.loop-place.invariant lt refl c.link_front.ensures.heads c.link_front.ensures.watches
