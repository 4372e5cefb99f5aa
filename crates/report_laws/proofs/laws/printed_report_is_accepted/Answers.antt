use Rattle.report_laws.proofs.Upheld.{is_accepted}
use Rattle.report_laws.proofs.laws.printed_report_is_accepted.Goals as goal

pub returns : goal.returns
returns c = is_accepted
