use Rattle.std.proofs.Common.{◌≡◌, ℕ, ◌+◌, ◌≤◌, ℤ, Option, List, length, take, get_or, ap, sym, ◌∙◌, subst, arith}
use Rattle.std.specs.Option.{MatchOption}
use Rattle.std.proofs.lemmas.Option.{get_or_from_slice_get}
use Rattle.cnf_base.specs.Status.{IsFalsifiedIn}
use Rattle.cnf_base.specs.Meaning.{CnfFormula}
use Rattle.lrat_text.specs.declared.proof.LratStep.{LratStep}
use Rattle.sat_trail.specs.Trail.{TrailState, lits}
use Rattle.sat_watch.specs.Book.{BookState}
use Rattle.sat_learn.specs.Reasons.{HasId}
use Rattle.sat_solver.specs.declared.search.Search.{Search}
use Rattle.sat_solver.specs.declared.step.Outcome.{Outcome}
use Rattle.sat_solver.specs.declared.step.Outcome.TheVariants.{Satisfied, Refuted, Spent}
use Rattle.sat_solver.specs.Steps.{OutcomeIs}
use Rattle.sat_solver.specs.Ledger.{live}
use Rattle.sat_solver.specs.InputClauses.{IsLoaded, IsFalsifiedAt}
use Rattle.sat_solver.proofs.Start.{begun, first_turn}
use Rattle.sat_solver.proofs.States.{loaded_sound, refuted_with_id}
use Rattle.sat_solver.proofs.solver.solve_counting.Goals as goal

-- a search learned from no more conflicts than its budget has lemmas, however it ended
few_conflicts : (formula : CnfFormula) (lemmas : ℕ) (s : Search) (outcome : Outcome) → OutcomeIs formula lemmas s outcome → s.conflicts ≤ lemmas
few_conflicts formula lemmas s Satisfied h = let few = h.0.search.few_conflicts in let within = h.0.within in omega arith
few_conflicts formula lemmas s (Refuted id) h = let few = h.0.search.few_conflicts in let within = h.0.within in omega arith
few_conflicts formula lemmas s Spent h = let few = h.0.search.few_conflicts in let within = h.0.within in omega arith

-- what loading leaves
abbrev Loads : CnfFormula → List ℕ → BookState → TrailState → Option ℕ → Type 0
Loads formula proof_ids book trail stop = MatchOption stop (IsLoaded formula (length formula.clauses) proof_ids book trail) (λ place. IsLoaded formula place proof_ids book trail × IsFalsifiedAt formula trail place)

-- the clause that is read is the one that is refuted
refuted_is : (formula : CnfFormula) (t : TrailState) (place : ℕ) (clauses : List (List ℤ)) (clause : List ℤ) → (h : IsFalsifiedAt formula t place) → clauses ≡ formula.clauses → clause ≡ get_or clauses place clause → h.clause ≡ clause
refuted_is formula t place clauses clause h same read =
    sym (get_or_from_slice_get formula.clauses place h.clause clause h.here) ∙ ap (λ cs. get_or cs place clause) (sym same) ∙ sym read

pub conclude-requires-clause-search : goal.conclude-requires-clause-search
conclude-requires-clause-search c =
    let formula = c.args.formula.now in
    let made = c.in_ok-search.search in
    let s : Search = record { premises = c.load.new.premises; queue = made.queue; ranks = made.ranks; from = made.from; phases = made.phases; analyzer = made.analyzer; considered = made.considered; steps = made.steps; conflicts = made.conflicts; restarts = made.restarts } in
    let e = c.in_ok-search.ensures in
    let h = subst (Loads formula s.premises.proof_ids.items s.premises.book s.premises.trail) c.in-Some.is c.in_ok-refuted.ensures in
    let done = take c.in-Some.index formula.clauses in
    (done, begun formula done s c.vars.result c.requires.few_clauses c.vars.ensures.value e.steps e.queue e.ranks e.phases e.analyzer e.considered e.conflicts (loaded_sound formula c.in-Some.index s.premises.proof_ids.items s.premises.book s.premises.trail h.0))

pub conclude-requires-clause-false_now : goal.conclude-requires-clause-false_now
conclude-requires-clause-false_now c =
    let formula = c.args.formula.now in
    let trail = c.load.new.premises.trail in
    let h = subst (Loads formula c.load.new.premises.proof_ids.items c.load.new.premises.book trail) c.in-Some.is c.in_ok-refuted.ensures in
    let P : List ℤ → Type 0 = λ clause. IsFalsifiedIn (lits trail.assignments) clause in
    subst P (refuted_is formula trail c.in-Some.index c.clauses.result.now c.get-clause.result.now h.1 c.clauses.ensures.value c.get-clause.ensures ∙ sym c.as_slice.ensures) h.1.refuted

pub conclude-requires-clause-has_id : goal.conclude-requires-clause-has_id
conclude-requires-clause-has_id c =
    let formula = c.args.formula.now in
    let trail = c.load.new.premises.trail in
    let place = c.in-Some.index in
    let h = subst (Loads formula c.load.new.premises.proof_ids.items c.load.new.premises.book trail) c.in-Some.is c.in_ok-refuted.ensures in
    let P : List ℤ → Type 0 = λ clause. HasId (live formula c.in_ok-search.search.steps) (place + 1) clause in
    let Q : List LratStep → Type 0 = λ steps. HasId (live formula steps) (place + 1) h.1.clause in
    subst P (refuted_is formula trail place c.clauses.result.now c.get-clause.result.now h.1 c.clauses.ensures.value c.get-clause.ensures ∙ sym c.as_slice.ensures)
    (subst Q (sym c.in_ok-search.ensures.steps) (refuted_with_id formula trail place h.1))

pub take_steps-requires : goal.take_steps-requires
take_steps-requires c =
    let formula = c.args.formula.now in
    let made = c.in_ok-search.search in
    let s : Search = record { premises = c.load.new.premises; queue = made.queue; ranks = made.ranks; from = made.from; phases = made.phases; analyzer = made.analyzer; considered = made.considered; steps = made.steps; conflicts = made.conflicts; restarts = made.restarts } in
    let e = c.in_ok-search.ensures in
    let loaded = subst (Loads formula s.premises.proof_ids.items s.premises.book s.premises.trail) c.in_default.is c.in_ok-refuted.ensures in
    first_turn formula c.args.lemmas s c.vars.result c.requires.few_clauses c.requires.few c.vars.ensures.value e.steps e.queue e.ranks e.from e.phases e.analyzer e.considered e.conflicts loaded

pub returns-clause-conflicts : goal.returns-clause-conflicts
returns-clause-conflicts c = few_conflicts c.args.formula.now c.args.lemmas c.take_steps.new.search c.in_ok-outcome.outcome c.in_ok-outcome.ensures
