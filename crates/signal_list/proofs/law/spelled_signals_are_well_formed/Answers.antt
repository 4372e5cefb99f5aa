use Rattle.signal_list.proofs.InRange.{are-signals}
use Rattle.signal_list.proofs.law.spelled_signals_are_well_formed.Goals as goal

pub returns : goal.returns
returns c = are-signals
