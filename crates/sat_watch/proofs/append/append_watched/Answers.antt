use Rattle.std.proofs.Common.{length, ap, ◌∙◌}
use Rattle.sat_watch.specs.Links.{watch_lits}
use Rattle.sat_watch.proofs.Invariant.{in_range_push}
use Rattle.sat_watch.proofs.Start.{slot_within}
use Rattle.sat_watch.proofs.append.append_watched.Goals as goal

pub link_from-requires-clause-in_range : goal.link_from-requires-clause-in_range
link_from-requires-clause-in_range c =
    let vars = c.args.trail.now.vars in
    let lits = c.args.lits.now in
    let heads = c.args.heads.now in
    let pair = c.choose-pair.ensures.pair in
    let room = c.requires.sizes.heads_room in
    in_range_push (length heads) c.args.watches.now.items c.deref_mut.result.now c.choose-pair.result.first c.choose-pair.result.second
    (ap watch_lits c.deref_mut.ensures.value ∙ c.in_ok-append.ensures.watches) c.requires.linked.in_range
    (slot_within vars lits c.choose-pair.result.first heads room c.requires.clause pair.first_in)
    (slot_within vars lits c.choose-pair.result.second heads room c.requires.clause pair.second_in)
