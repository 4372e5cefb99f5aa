use Rattle.std.proofs.Common.{length, ap, arith}
use Rattle.std.proofs.lemmas.List.{take_all}
use Rattle.report_text.proofs.Written.{blocked-written}
use Rattle.report_text.proofs.query_text.write_blocked.Goals as goal

pub returns : goal.returns
returns c =
    let goals = c.args.goals.now in
    let items = c.as_slice-goal-items.ensures in
    rw (c.in_ok-end_line.ensures, c.loop-goal.invariant, take_all c.loop-goal.goal-index goals (omega (arith, ap length items))) (blocked-written c.args.out.now goals)
