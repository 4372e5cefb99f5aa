use Rattle.sat_watch.specs.Links.{watch_lits}
use Rattle.sat_watch.proofs.Lists.{AreFirstLinked}
use Rattle.sat_watch.proofs.links.link_from.Given as goal

-- the watches so far are linked, and all have the literals that they had
abbrev pub invariant-loop-place : goal.invariant-loop-place
invariant-loop-place l = AreFirstLinked l.place l.heads l.watches (watch_lits l.initial.watches)
