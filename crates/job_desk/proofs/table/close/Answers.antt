use Rattle.std.proofs.Common.{arith}
use Rattle.job_desk.proofs.Steps.{all_drawn}
use Rattle.job_desk.proofs.table.close.Goals as goal

pub free-requires : goal.free-requires
free-requires c = λ k lt. absurd (omega (arith, c.close_with-closed.ensures.counts.1, c.requires.table))

pub returns : goal.returns
returns c = let f = c.close_with-closed.ensures.values.2 in let s = f.0 in let k = f.1 in
    (_, all_drawn c.args.table.shared.key s.words s.views _ _ k.0 k.1 c.requires.parts)
