use Rattle.std.proofs.Common.{◌≡◌, ◌<◌, ℕ, false, length, get_or}
use Rattle.aig_model.specs.Literal.{value_of}
use Rattle.aig_model.specs.declared.parts.Latch.{Latch}
use Rattle.aig_eval.proofs.state.next_state.Given as goal

abbrev pub invariant-loop-place : goal.invariant-loop-place
invariant-loop-place l =
    (length l.state ≡ length l.latches)
    × ((k : ℕ) (d : Latch) → k < l.place → get_or l.state k false ≡ value_of l.values (get_or l.latches k d).next)
