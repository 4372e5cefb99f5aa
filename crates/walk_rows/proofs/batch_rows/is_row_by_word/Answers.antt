use Rattle.walk_rows.proofs.batch_rows.is_row_by_word.Goals as goal

pub is_end-requires-clause-batch : goal.is_end-requires-clause-batch
is_end-requires-clause-batch c = rw (c.options.ensures.seed, c.options.ensures.length, c.options.ensures.stall) at c.in-Ok.ensures
