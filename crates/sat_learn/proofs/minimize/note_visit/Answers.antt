use Rattle.sat_learn.proofs.Visits.{visits_more}
use Rattle.sat_learn.proofs.minimize.note_visit.Goals as goal

pub returns-clause-visits : goal.returns-clause-visits
returns-clause-visits c =
    visits_more c.args.visits.now c.args.visited.now.items c.push.new.self.items c.var.result c.args.lit c.if-removable.visits c.in_ok-push.ensures.items c.var.ensures.size c.requires.visits
