use Rattle.std.proofs.Common.{length}
use Rattle.unroll.specs.declared.start.Start.TheVariants.{Any}
use Rattle.unroll.specs.Framing.{HasFrames}
use Rattle.inv_prover.specs.Search.{AreLeft}
use Rattle.inv_prover.proofs.fixpoint.greatest.Given as goal

abbrev pub invariant-loop-framed : goal.invariant-loop-framed
invariant-loop-framed l = record {
  left : AreLeft l.circuit l.candidates l.clauses;
  frames : HasFrames l.circuit Any 0 l.framed;
}

abbrev pub decreases-loop-framed : goal.decreases-loop-framed
decreases-loop-framed l = length l.clauses
