use Rattle.signal_list.proofs.OneReading.{one-list, one-fault, not-both}
use Rattle.signal_list.proofs.SomeReading.{some-reading}
use Rattle.signal_list.proofs.law.each_text_is_read_one_way.Goals as goal

pub returns-clause-one_list : goal.returns-clause-one_list
returns-clause-one_list c = one-list

pub returns-clause-one_fault : goal.returns-clause-one_fault
returns-clause-one_fault c = one-fault

pub returns-clause-not_both : goal.returns-clause-not_both
returns-clause-not_both c = not-both

pub returns-clause-some : goal.returns-clause-some
returns-clause-some c = some-reading
