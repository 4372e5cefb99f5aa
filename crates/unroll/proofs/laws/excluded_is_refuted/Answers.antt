use Rattle.unroll.proofs.CertMeaning.{excludes_models_lem, excluded_is_refuted_lem}
use Rattle.unroll.proofs.laws.excluded_is_refuted.Goals as goal

pub returns-clause-models : goal.returns-clause-models
returns-clause-models c = excludes_models_lem

pub returns-clause-refuted : goal.returns-clause-refuted
returns-clause-refuted c = excluded_is_refuted_lem
