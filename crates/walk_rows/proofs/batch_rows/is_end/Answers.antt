use Rattle.walk_rows.proofs.batch_rows.is_end.Goals as goal

pub shows_visits-requires-clause-batch : goal.shows_visits-requires-clause-batch
shows_visits-requires-clause-batch c = rw (c.options.ensures.seed, c.options.ensures.length, c.options.ensures.stall) c.requires.batch
