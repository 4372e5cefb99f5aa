use Rattle.report_text.proofs.Written.{seed-written}
use Rattle.report_text.proofs.seed_text.write_seed_line.Goals as goal

pub returns : goal.returns
returns c =
    let size = c.len.ensures.value in
    rw (c.in_ok-bits-2.ensures, c.in_ok-rows.ensures, c.in_ok-bits.ensures, c.in_ok-number_line.ensures, size) (seed-written c.args.out.now c.args.batch c.args.seed.now)
