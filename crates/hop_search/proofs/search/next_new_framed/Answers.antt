use Rattle.std.proofs.Common.{ℕ, sym, subst}
use Rattle.cnf_base.specs.Meaning.{CnfFormula}
use Rattle.sat_solver.specs.declared.answer.Answer.{Answer}
use Rattle.sat_solver.specs.Answer.{IsAnswer}
use Rattle.hop_search.specs.Answers.{Asks, IsNewGoal}
use Rattle.hop_search.proofs.NewGoals.{new_goal_of, no_more_of}
use Rattle.hop_search.proofs.search.next_new_framed.Goals as goal

pub returns-in_ok-found-in-Sat-clause-answer : goal.returns-in_ok-found-in-Sat-clause-answer
returns-in_ok-found-in-Sat-clause-answer c =
    let circuit = c.args.circuit.now in
    let sig = c.args.signals.now.lits in
    let start = c.args.framed.now.start in
    let step = c.last-step.result in
    let settled = c.args.settled.now in
    let formula = c.formula.result.now in
    let found = c.in_ok-found-in-Sat in
    let P : Answer → Type 0 = λ a. IsAnswer formula c.args.lemmas a in
    let model = subst P c.in-Sat.is c.in_ok-model.ensures in
    let here : Asks circuit sig start step settled c.query.new.framed.formula =
    subst (λ (n : ℕ). Asks circuit sig start n settled c.query.new.framed.formula) (sym c.last-step.ensures) c.in_ok-query.ensures.asks
    in
    let asks : Asks circuit sig start step settled formula = subst (λ (f : CnfFormula). Asks circuit sig start step settled f) (sym c.formula.ensures) here in
    subst (λ (n : ℕ). IsNewGoal circuit sig start n settled found.found.0 found.found.1) c.last-step.ensures
    (new_goal_of circuit sig start step settled formula c.in-Sat.model found.found.0 found.found.1 asks model found.ensures.goal found.ensures.start
    found.ensures.width found.ensures.rows)

pub returns-in-Unsat-clause-answer : goal.returns-in-Unsat-clause-answer
returns-in-Unsat-clause-answer c =
    let circuit = c.args.circuit.now in
    let sig = c.args.signals.now.lits in
    let start = c.args.framed.now.start in
    let last = c.args.framed.now.last in
    let settled = c.args.settled.now in
    let formula = c.formula.result.now in
    let P : Answer → Type 0 = λ a. IsAnswer formula c.args.lemmas a in
    let refutation = subst P c.in-Unsat.is c.in_ok-model.ensures in
    let asks : Asks circuit sig start last settled formula =
    subst (λ (f : CnfFormula). Asks circuit sig start last settled f) (sym c.formula.ensures) c.in_ok-query.ensures.asks
    in
    no_more_of circuit sig start last settled formula c.args.lemmas c.in-Unsat.proof asks refutation
