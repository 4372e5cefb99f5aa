use Rattle.sat_watch.proofs.Moves.{moved}
use Rattle.sat_watch.proofs.links.move_watch.Goals as goal

pub returns : goal.returns
returns c =
    let s = c.requires.stands in
    let m = moved c.args.heads.now c.args.watches.now c.args.watch c.args.lit c.args.search c.args.previous c.lead_past.new.heads c.link_front.new.heads c.lead_past.new.watches c.link_front.new.watches c.requires.linked s c.requires.in_range (c.requires.other s.watch s.here) (c.lead_past.ensures s.watch s.here) c.link_front.ensures.heads c.link_front.ensures.watches in
    record { linked = m.linked; lits = m.lits; to = m.front; from = m.left; others = m.others }
