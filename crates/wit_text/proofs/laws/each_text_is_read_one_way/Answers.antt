use Rattle.wit_text.proofs.Answering.{some-reading, one-witness, one-fault, not-both}
use Rattle.wit_text.proofs.laws.each_text_is_read_one_way.Goals as goal

pub returns-clause-some : goal.returns-clause-some
returns-clause-some c = some-reading

pub returns-clause-one_witness : goal.returns-clause-one_witness
returns-clause-one_witness c = one-witness

pub returns-clause-one_fault : goal.returns-clause-one_fault
returns-clause-one_fault c = one-fault

pub returns-clause-not_both : goal.returns-clause-not_both
returns-clause-not_both c = not-both
