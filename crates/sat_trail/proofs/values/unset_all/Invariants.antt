use Rattle.std.proofs.Common.{◌≡◌, ℤ, cond, take}
use Rattle.sat_trail.specs.declared.truth.Value.TheVariants.{Unset}
use Rattle.sat_trail.specs.Kept.{kept_value}
use Rattle.sat_trail.proofs.LiteralValues.{touches}
use Rattle.sat_trail.proofs.values.unset_all.Given as goal

-- the variables of the literals so far are unset, and no other value has changed
abbrev pub invariant-loop-lit : goal.invariant-loop-lit
invariant-loop-lit l = (x : ℤ) → kept_value l.values x ≡ cond (touches (take l.lit-index l.lits) x) Unset (kept_value l.initial.values x)
