use Rattle.aig_ascii.proofs.Texts.{is-circuit}
use Rattle.aig_ascii.proofs.law.spelled_circuits_are_well_formed.Goals as goal

pub returns : goal.returns
returns c = is-circuit
