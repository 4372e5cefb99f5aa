use Rattle.board_rows.specs.Posters.{HasPosted}
use Rattle.board_rows.proofs.post_rows.post_from.Given as goal

abbrev pub invariant-loop-post : goal.invariant-loop-post
invariant-loop-post l = HasPosted l.board l.fn.pass l.pass
