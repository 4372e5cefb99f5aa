use Rattle.inv_prover.proofs.Shrinking.{greatest_is_invariant}
use Rattle.inv_prover.proofs.laws.greatest_is_invariant.Goals as goal

pub returns : goal.returns
returns c = greatest_is_invariant
