use Rattle.inv_cert.proofs.Invariance.{is_invariant}
use Rattle.inv_cert.proofs.laws.kept_sets_are_invariant.Goals as goal

pub returns : goal.returns
returns c = is_invariant
