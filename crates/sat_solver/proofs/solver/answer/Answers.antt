use Rattle.std.proofs.Common.{ℕ, ℤ, List, sym, ◌∙◌, subst}
use Rattle.sat_solver.specs.declared.step.Outcome.{Outcome}
use Rattle.sat_solver.specs.Ledger.{live}
use Rattle.sat_solver.specs.Steps.{OutcomeIs}
use Rattle.sat_solver.proofs.Ledgers.{IsSpending-end}
use Rattle.sat_learn.specs.Reasons.{HasId}
use Rattle.sat_solver.specs.LearnedLemma.{IsProofIdOf}
use Rattle.sat_solver.proofs.ProofIds.{live_under, small_id}
use Rattle.sat_solver.proofs.States.{is_model}
use Rattle.sat_solver.proofs.Undecided.{IsAtRest, undecided}
use Rattle.sat_solver.proofs.solver.answer.Goals as goal

pub returns-in_ok-values-in-Satisfied : goal.returns-in_ok-values-in-Satisfied
returns-in_ok-values-in-Satisfied c =
    let s = c.args.search in
    let formula = c.args.formula.now in
    let P : Outcome → Type 0 = λ o. OutcomeIs formula c.args.lemmas s o in
    let h = subst P c.in-Satisfied.is c.requires in
    is_model formula s.steps (live formula s.steps) s.premises.proof_ids.items s.premises.book s.premises.trail c.in_ok-values-in-Satisfied.field-0
    h.0.search.sound c.is_well_formed.ensures c.is_well_formed-in-Satisfied.ensures h.1 h.2 c.in_ok-values-in-Satisfied.ensures.number c.in_ok-values-in-Satisfied.ensures.each

pub conclude-requires-clause-has_id : goal.conclude-requires-clause-has_id
conclude-requires-clause-has_id c =
    let s = c.args.search in
    let formula = c.args.formula.now in
    let name = c.proof_id_of-name.result in
    let P : Outcome → Type 0 = λ o. OutcomeIs formula c.args.lemmas s o in
    let sound = (subst P c.in-Refuted.is c.requires).0.search.sound in
    let N : List ℕ → Type 0 = λ ns. IsProofIdOf ns c.in-Refuted.id name in
    let C : List ℤ → Type 0 = λ ls. HasId (live formula s.steps) name ls in
    subst C (sym (c.as_slice-in-Refuted.ensures ∙ c.in_ok-clause-in-Refuted.ensures))
    (live_under (live formula s.steps) s.premises.book.clauses s.premises.proof_ids.items s.premises.trail.assignments c.in-Refuted.id name c.clause.result.now sound.has_id (subst N c.as_slice.ensures.value c.proof_id_of-name.ensures) c.clause.ensures)

pub conclude-requires-clause-small : goal.conclude-requires-clause-small
conclude-requires-clause-small c =
    let s = c.args.search in
    let name = c.proof_id_of-name.result in
    let P : Outcome → Type 0 = λ o. OutcomeIs c.args.formula.now c.args.lemmas s o in
    let sound = (subst P c.in-Refuted.is c.requires).0.search.sound in
    let N : List ℕ → Type 0 = λ ns. IsProofIdOf ns c.in-Refuted.id name in
    small_id s.premises.book.clauses s.premises.proof_ids.items c.in-Refuted.id name c.clause.result.now sound.one_id sound.small_ids (subst N c.as_slice.ensures.value c.proof_id_of-name.ensures) c.clause.ensures

pub returns-in_ok-conclude-in-Refuted : goal.returns-in_ok-conclude-in-Refuted
returns-in_ok-conclude-in-Refuted c =
    let P : Outcome → Type 0 = λ o. OutcomeIs c.args.formula.now c.args.lemmas c.args.search o in
    let h = subst P c.in-Refuted.is c.requires in
    c.in_ok-conclude-in-Refuted.ensures c.args.lemmas h.0.within

pub returns-in-Spent : goal.returns-in-Spent
returns-in-Spent c =
    let s = c.args.search in
    let formula = c.args.formula.now in
    let P : Outcome → Type 0 = λ o. OutcomeIs formula c.args.lemmas s o in
    let h = subst P c.in-Spent.is c.requires in
    let state = h.0 in
    let rest : IsAtRest s.premises.book s.premises.trail = record {
      trail = c.is_well_formed-in-Spent.ensures;
      book = c.is_well_formed-in-Spent-2.ensures;
      none_false = state.ready.none_false 0 h.2;
      none_unit = state.ready.none_unit 0 h.2;
    } in
    IsSpending-end formula c.args.lemmas s.steps state.search.ledger h.1 (λ hints. undecided formula s.steps s.premises.book s.premises.trail hints rest state.search.sound.covered)
