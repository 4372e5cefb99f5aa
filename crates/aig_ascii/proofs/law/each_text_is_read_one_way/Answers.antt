use Rattle.aig_ascii.specs.Aag.{demands}
use Rattle.aig_ascii.proofs.RightParts.{text-apart}
use Rattle.aig_ascii.proofs.CircuitsAndFaults.{one-circuit, one-fault, no-fault}
use Rattle.aig_ascii.proofs.Texts.{some-reading}
use Rattle.aig_ascii.proofs.law.each_text_is_read_one_way.Goals as goal
use Rattle.aig_ascii.proofs.FirstFaults.{none-unmet}

pub returns-clause-one_circuit : goal.returns-clause-one_circuit
returns-clause-one_circuit c text d e s t = one-circuit text d e (text-apart text (none-unmet (demands text) s.right)) s t

pub returns-clause-one_fault : goal.returns-clause-one_fault
returns-clause-one_fault c = one-fault

pub returns-clause-not_both : goal.returns-clause-not_both
returns-clause-not_both c text d at kind s f = no-fault text d at kind s f

pub returns-clause-some : goal.returns-clause-some
returns-clause-some c = some-reading
