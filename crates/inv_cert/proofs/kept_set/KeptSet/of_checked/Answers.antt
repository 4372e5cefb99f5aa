use Rattle.std.proofs.Common.{subst, sym}
use Rattle.aig_model.specs.declared.parts.Parts.{Parts}
use Rattle.inv_cert.specs.KeptSets.{IsKeptSet}
use Rattle.inv_cert.proofs.kept_set.KeptSet.of_checked.Goals as goal

pub invariant_of-result : goal.invariant_of-result
invariant_of-result c =
    subst (λ (x : Parts). IsKeptSet (record { circuit = x; clauses = c.args.clauses; kept = c.args.kept })) (sym c.of.ensures) c.requires
