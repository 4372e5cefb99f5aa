use Rattle.unroll.proofs.CertMeaning.{kept_models_lem, kept_is_refuted_lem}
use Rattle.unroll.proofs.laws.kept_is_refuted.Goals as goal

pub returns-clause-models : goal.returns-clause-models
returns-clause-models c = kept_models_lem

pub returns-clause-refuted : goal.returns-clause-refuted
returns-clause-refuted c = kept_is_refuted_lem
