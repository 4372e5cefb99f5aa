use Rattle.std.proofs.Common.{ℕ, ◌<◌, false, get_or}
use Rattle.aig_model.specs.Meaning.{Agrees}
use Rattle.aig_model.specs.declared.parts.Latch.{Latch}
use Rattle.report_check.proofs.seeds.is_reset.Given as goal

abbrev pub invariant-loop-place : goal.invariant-loop-place
invariant-loop-place l = (k : ℕ) (d : Latch) → k < l.place → Agrees ((get_or l.latches k d).reset) (get_or l.start k false)
