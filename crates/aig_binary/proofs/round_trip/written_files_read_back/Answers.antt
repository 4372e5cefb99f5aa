use Rattle.aig_binary.proofs.FileBack.{reads-back, same-back}
use Rattle.aig_binary.proofs.round_trip.written_files_read_back.Goals as goal

pub returns-clause-circuit : goal.returns-clause-circuit
returns-clause-circuit c = reads-back

pub returns-clause-same : goal.returns-clause-same
returns-clause-same c = same-back
