use Rattle.lrat_text.proofs.Whole.{some-answer, one-proof, one-fault, not-both}
use Rattle.lrat_text.proofs.law.each_text_is_read_one_way.Goals as goal

pub returns-clause-some : goal.returns-clause-some
returns-clause-some c = some-answer

pub returns-clause-one_proof : goal.returns-clause-one_proof
returns-clause-one_proof c = one-proof

pub returns-clause-one_fault : goal.returns-clause-one_fault
returns-clause-one_fault c = one-fault

pub returns-clause-not_both : goal.returns-clause-not_both
returns-clause-not_both c = not-both
