use Rattle.std.proofs.Common.{◌≡◌, ℕ, ◌<◌, false, length, get_or}
use Rattle.aig_model.specs.Meaning.{Agrees}
use Rattle.aig_model.specs.declared.parts.Latch.{Latch}
use Rattle.inv_cert.proofs.reset.reset_state.Given as goal

abbrev pub invariant-loop-place : goal.invariant-loop-place
invariant-loop-place l =
    (length l.state ≡ length l.latches)
    × ((k : ℕ) (d : Latch) → k < l.place → Agrees ((get_or l.latches k d).reset) (get_or l.state k false))
