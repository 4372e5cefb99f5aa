use Rattle.aig_binary.proofs.Answering.{some-reading, one-fault, no-fault}
use Rattle.aig_binary.proofs.law.each_file_is_read_one_way.Goals as goal

pub returns-clause-some : goal.returns-clause-some
returns-clause-some c = some-reading

pub returns-clause-one_fault : goal.returns-clause-one_fault
returns-clause-one_fault c = one-fault

pub returns-clause-not_both : goal.returns-clause-not_both
returns-clause-not_both c = no-fault
