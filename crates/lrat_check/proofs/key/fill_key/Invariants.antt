use Rattle.std.proofs.Common.{◌≡◌, take}
use Rattle.lrat_check.proofs.key.fill_key.Given as goal

abbrev pub invariant-loop-lit : goal.invariant-loop-lit
invariant-loop-lit l = l.key.items ≡ take l.lit-index l.lits
