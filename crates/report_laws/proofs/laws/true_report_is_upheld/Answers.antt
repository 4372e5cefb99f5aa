use Rattle.report_laws.proofs.Upheld.{is_upheld}
use Rattle.report_laws.proofs.laws.true_report_is_upheld.Goals as goal

pub returns : goal.returns
returns c = is_upheld
