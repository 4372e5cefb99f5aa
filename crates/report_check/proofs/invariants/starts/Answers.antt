use Rattle.std.proofs.Common.{ℤ, List, refl, sym, subst}
use Rattle.std.specs.Prelude.{All}
use Rattle.aig_model.specs.LatchClauses.{IsLatchClause}
use Rattle.inv_cert.specs.Resets.{HoldsAtReset}
use Rattle.report_check.proofs.invariants.starts.Goals as goal

pub returns : goal.returns
returns c = (
  λ yes. record {
    latches = subst (λ (xs : List (List ℤ)). All (IsLatchClause c.args.circuit.now) xs) c.as_slice-clauses.ensures (c.if-not-are_latch_clauses.ensures.0 refl);
    starts = subst (λ (xs : List (List ℤ)). All (HoldsAtReset c.args.circuit.now) xs) c.as_slice-clauses.ensures (c.in_ok-hold.ensures.0 yes);
  },
  λ h. c.in_ok-hold.ensures.1 (subst (λ (xs : List (List ℤ)). All (HoldsAtReset c.args.circuit.now) xs) (sym c.as_slice-clauses.ensures) h.starts),
)
