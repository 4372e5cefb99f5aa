use Rattle.std.proofs.Common.{subst}
use Rattle.inv_cert.specs.KeptSets.{KeptClauses, IsKeptSet}
use Rattle.inv_cert.proofs.Invariance.{is_invariant}
use Rattle.inv_cert.proofs.kept_set.KeptSet.is_checked.Goals as goal

pub returns-clause-invariant : goal.returns-clause-invariant
returns-clause-invariant c = is_invariant c.args.self.now (subst (λ (s : KeptClauses). IsKeptSet s) c.self.view_is c.self.invariant)
