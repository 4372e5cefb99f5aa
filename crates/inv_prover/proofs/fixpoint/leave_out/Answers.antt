use Rattle.std.proofs.Common.{ℤ, List, subst}
use Rattle.aig_model.specs.LatchClauses.{SatisfiesClause}
use Rattle.inv_prover.specs.Greatest.{ArePicked}
use Rattle.inv_prover.proofs.Shrinking.{after_step, fewer_after_step}
use Rattle.inv_prover.proofs.fixpoint.leave_out.Goals as goal

pub returns-clause-shrinks : goal.returns-clause-shrinks
returns-clause-shrinks c =
    after_step c.args.circuit.now c.args.clauses.now c.in_ok-clauses.field-0 c.args.place c.args.next.now c.requires.broken
    (subst (λ (all : List (List ℤ)). ArePicked (SatisfiesClause c.args.next.now) all c.in_ok-clauses.field-0) c.as_slice.ensures c.in_ok-clauses.ensures)

pub returns-clause-fewer : goal.returns-clause-fewer
returns-clause-fewer c =
    fewer_after_step c.args.circuit.now c.args.clauses.now c.in_ok-clauses.field-0 c.args.place c.args.next.now c.requires.broken
    (subst (λ (all : List (List ℤ)). ArePicked (SatisfiesClause c.args.next.now) all c.in_ok-clauses.field-0) c.as_slice.ensures c.in_ok-clauses.ensures)
    c.requires.place
