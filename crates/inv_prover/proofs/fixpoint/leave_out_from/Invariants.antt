use Rattle.std.proofs.Common.{◌*◌, ◌-◌, length}
use Rattle.unroll.specs.declared.start.Start.TheVariants.{Any}
use Rattle.unroll.specs.Framing.{HasFrames}
use Rattle.inv_prover.specs.Search.{Shrinks}
use Rattle.inv_prover.proofs.fixpoint.leave_out_from.Given as goal

abbrev pub invariant-loop-place : goal.invariant-loop-place
invariant-loop-place l = record {
  shrinks : Shrinks l.circuit l.initial.clauses l.clauses;
  frames : HasFrames l.circuit Any 0 l.framed;
}

abbrev pub decreases-loop-place : goal.decreases-loop-place
decreases-loop-place l = 2 * length l.clauses - l.place
