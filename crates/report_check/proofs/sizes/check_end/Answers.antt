use Rattle.std.proofs.Common.{◌≡◌, true, false, refl}
use Rattle.report_check.proofs.FirstKinds.{counts_first}
use Rattle.report_check.proofs.sizes.check_end.Goals as goal

pub returns-then-not-has_counts : goal.returns-then-not-has_counts
returns-then-not-has_counts c = (refl, counts_first c.args.report.now (λ counts. let wrong : false ≡ true = c.if-not-has_counts.ensures.1 counts in cc))

pub returns : goal.returns
returns c = λ at kind zero is. c.if-not-has_counts.ensures.0 refl
