use Rattle.std.proofs.Common.{◌+◌, ◌*◌, ◌≤◌, arith}
use Rattle.std.proofs.lemmas.Nat.{mul-le}
use Rattle.job_moves.proofs.job.job_count.Goals as goal

pub overflow_mul-result : goal.overflow_mul-result
overflow_mul-result c =
    let most : c.args.batches * (1 + c.args.rounds) ≤ 16 * 17 = mul-le c.args.batches (1 + c.args.rounds) 16 17 c.requires.batches (omega (arith, c.requires.rounds)) in
    omega (arith, most)

pub overflow_add-result-2 : goal.overflow_add-result-2
overflow_add-result-2 c =
    let most : c.args.batches * (1 + c.args.rounds) ≤ 16 * 17 = mul-le c.args.batches (1 + c.args.rounds) 16 17 c.requires.batches (omega (arith, c.requires.rounds)) in
    omega (arith, most)
