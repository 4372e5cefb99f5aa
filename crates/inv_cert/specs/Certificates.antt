-- What a certificate is made of.
use Rattle.std.specs.Prelude.{List}
use Rattle.lrat_text.specs.declared.proof.LratStep.{LratStep}
use Rattle.inv_cert.specs.KeptSets.{KeptClauses}

pub record CertificateParts : Type 0 where
  pub base : KeptClauses
  pub excludes : List LratStep
