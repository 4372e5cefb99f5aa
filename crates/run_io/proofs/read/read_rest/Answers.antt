use Rattle.run_io.proofs.Reading.{past_more}
use Rattle.run_io.proofs.read.read_rest.Goals as goal

pub returns-then-count-eq0-clause-left : goal.returns-then-count-eq0-clause-left
returns-then-count-eq0-clause-left g c = past_more _ _ _ _ _ _ c.pieces.invariant.reading c.in_ok-count.ensures.ok

pub returns-then-count-left-clause-left : goal.returns-then-count-left-clause-left
returns-then-count-left-clause-left g c = past_more _ _ _ _ _ _ c.pieces.invariant.reading c.in_ok-count.ensures.ok

pub returns-in_err-map_err-clause-left : goal.returns-in_err-map_err-clause-left
returns-in_err-map_err-clause-left g c = past_more _ _ _ _ _ _ c.pieces.invariant.reading c.in_ok-count.ensures.ok
