use Rattle.engine_bench.proofs.prover.prove.Goals as goal

pub returns : goal.returns
returns c = (c.in_ok-tried.tried, c.in_ok-tried.ensures.candidates, c.in_ok-grown.ensures)
