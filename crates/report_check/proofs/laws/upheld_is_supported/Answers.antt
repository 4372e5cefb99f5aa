use Rattle.report_check.proofs.Supported.{upheld_is_supported_lem}
use Rattle.report_check.proofs.laws.upheld_is_supported.Goals as goal

pub returns : goal.returns
returns c = upheld_is_supported_lem
