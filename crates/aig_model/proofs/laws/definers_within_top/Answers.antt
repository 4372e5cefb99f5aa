use Rattle.aig_model.proofs.DefinedVariables as lemmas
use Rattle.aig_model.proofs.laws.definers_within_top.Goals as goal

pub returns : goal.returns
returns c = lemmas.definers_within_top_lem
