use Rattle.std.proofs.Common.{rules}
use Rattle.cover_run.proofs.replaying.judge.Goals as goal

pub returns-in-Err-NotReset-clause-cause : goal.returns-in-Err-NotReset-clause-cause
returns-in-Err-NotReset-clause-cause c = ((c.in-Err-NotReset.ensures.reset c.in-Err-NotReset.latch).0 (search rules)).1

pub returns-in-Err-Constraint-clause-cause : goal.returns-in-Err-Constraint-clause-cause
returns-in-Err-Constraint-clause-cause c =
    let h = c.in-Err-Constraint.ensures.constraint c.in-Err-Constraint.step (search rules) in
    (h.1, h.2)
