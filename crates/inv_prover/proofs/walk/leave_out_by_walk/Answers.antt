use Rattle.inv_prover.proofs.Parts.{each}
use Rattle.inv_prover.proofs.Shrinking.{further, not_yet}
use Rattle.inv_prover.proofs.Walking.{at_start}
use Rattle.aig_model.specs.LatchClauses.{IsLatchClause}
use Rattle.inv_prover.proofs.walk.leave_out_by_walk.Goals as goal

pub loop-init : goal.loop-init
loop-init c =
    let reset = c.in_ok-state.ensures in
    record {
      shrinks = not_yet c.args.circuit.now c.args.clauses.now;
      size = reset.size;
      satisfied = at_start c.args.circuit.now c.args.clauses.now c.in_ok-state.state c.requires.starts reset;
    }

pub take_step-requires-clause-latches : goal.take_step-requires-clause-latches
take_step-requires-clause-latches c =
    each (IsLatchClause c.args.circuit.now) c.loop.clauses c.args.clauses.now c.loop.invariant.shrinks.part c.requires.latches

pub loop-preserved : goal.loop-preserved
loop-preserved c =
    let step = c.in_ok-take_step.ensures in
    record {
      shrinks = further c.args.circuit.now c.args.clauses.now c.loop.clauses c.take_step.new.clauses c.loop.invariant.shrinks step.shrinks;
      size = step.size;
      satisfied = step.satisfied;
    }
