use Rattle.std.proofs.Common.{ℕ, ◌<◌, pos, get_or}
use Rattle.aig_model.specs.Meaning.{IsReset}
use Rattle.inv_cert.specs.Resets.{IsFalsified}
use Rattle.inv_cert.proofs.reset.falsify.Given as goal

abbrev pub invariant-loop-lit : goal.invariant-loop-lit
invariant-loop-lit l =
    IsReset l.circuit l.state × ((i : ℕ) → i < l.lit-index → IsFalsified l.circuit l.clause l.state (get_or l.clause i (pos 0)))
