use Rattle.std.proofs.Common.{◌≡◌, ◌-◌, ℕ, false, length, get_or}
use Rattle.aig_ascii.proofs.draft.grow.Given as goal

abbrev pub invariant-loop-bits : goal.invariant-loop-bits
invariant-loop-bits l = (v : ℕ) → get_or l.bits v false ≡ get_or l.fn.bits v false

abbrev pub decreases-loop-bits : goal.decreases-loop-bits
decreases-loop-bits l = l.len - length l.bits
