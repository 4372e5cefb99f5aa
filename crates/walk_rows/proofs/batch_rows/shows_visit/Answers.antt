use Rattle.walk_rows.proofs.batch_rows.shows_visit.Goals as goal

pub visit_trace-requires-clause-visit : goal.visit_trace-requires-clause-visit
visit_trace-requires-clause-visit c = c.requires.visit
