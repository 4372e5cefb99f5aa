use Rattle.run_report.proofs.TrueReports.{settles_asked}
use Rattle.run_report.proofs.laws.true_reports_settle.Goals as goal

pub returns : goal.returns
returns c = settles_asked
