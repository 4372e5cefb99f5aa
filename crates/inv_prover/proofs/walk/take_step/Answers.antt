use Rattle.std.proofs.Common.{ℤ, List, refl, ap, subst, ◌∙◌, length}
use Rattle.aig_model.specs.LatchClauses.{SatisfiesClause}
use Rattle.inv_prover.specs.Greatest.{ArePicked}
use Rattle.inv_prover.proofs.Shrinking.{not_yet}
use Rattle.inv_prover.proofs.Walking.{after_row, next_size}
use Rattle.inv_prover.proofs.walk.take_step.Goals as goal

pub returns-then-not-is_legal-clause-shrinks : goal.returns-then-not-is_legal-clause-shrinks
returns-then-not-is_legal-clause-shrinks c = not_yet c.args.circuit.now c.args.clauses.now

pub holding_in-requires-clause-size : goal.holding_in-requires-clause-size
holding_in-requires-clause-size c = ap length c.in_ok-next.ensures ∙ next_size c.args.circuit.now c.in_ok-values.values

pub returns-clause-shrinks : goal.returns-clause-shrinks
returns-clause-shrinks c =
    let circuit = c.args.circuit.now in
    let clauses = c.args.clauses.now in
    let next = c.in_ok-next.next in
    let left = c.in_ok-clauses.field-0 in
    let picked : ArePicked (SatisfiesClause next) clauses left =
    subst (λ (all : List (List ℤ)). ArePicked (SatisfiesClause next) all left) c.as_slice.ensures c.in_ok-clauses.ensures
    in
    after_row circuit clauses left c.args.state.now c.args.row.now next c.in_ok-values.values c.in_ok-values.ensures (c.if-not-is_legal.ensures.0 refl) c.requires.satisfied
    c.in_ok-next.ensures picked

pub returns-clause-size : goal.returns-clause-size
returns-clause-size c = ap length c.in_ok-next.ensures ∙ next_size c.args.circuit.now c.in_ok-values.values

pub returns-clause-satisfied : goal.returns-clause-satisfied
returns-clause-satisfied c = c.in_ok-clauses.ensures.hold
