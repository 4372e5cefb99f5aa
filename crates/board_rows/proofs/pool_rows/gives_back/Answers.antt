use Rattle.std.proofs.Common.{◌∙◌}
use Rattle.board_rows.proofs.pool_rows.gives_back.Goals as goal

pub put-requires-clause-seed : goal.put-requires-clause-seed
put-requires-clause-seed c = c.make_ball.ensures ∙ c.requires.circuit
