use Rattle.std.proofs.Common.{sym, subst}
use Rattle.cnf_base.specs.Meaning.{CnfFormula, IsModel}
use Rattle.aig_model.specs.SignalList.{IsSignals}
use Rattle.aig_model.specs.declared.parts.Parts.{Parts}
use Rattle.unroll.specs.Queries.{excludes_formula}
use Rattle.sat_solver.specs.Answer.{IsAnswer}
use Rattle.sat_solver.specs.declared.answer.Answer.{Answer}
use Rattle.inv_prover.specs.Answers.{IsExcluded}
use Rattle.inv_prover.specs.declared.excluded.Excluded.{Excluded}
use Rattle.inv_prover.proofs.Escaping.{escapes}
use Rattle.inv_prover.proofs.excluded.answer.Goals as goal

pub returns-in_ok-answer-in-Sat : goal.returns-in_ok-answer-in-Sat
returns-in_ok-answer-in-Sat c =
    let circuit = c.args.circuit.now in
    let sig = c.args.signals.now.lits in
    let clauses = c.args.clauses.now in
    let values = c.in-Sat.values in
    let formula = excludes_formula circuit sig clauses c.args.goal in
    let signals : IsSignals circuit sig = subst (λ (x : Parts). IsSignals x sig) c.requires.circuit c.is_well_formed-2.ensures in
    let answer = subst (λ (a : Answer). IsAnswer c.args.formula.now c.args.lemmas a) c.in-Sat.is c.in_ok-proof.ensures in
    let model : IsModel formula values = subst (λ (f : CnfFormula). IsModel f values) c.requires.formula answer in
    subst (λ (x : Excluded). IsExcluded circuit sig clauses c.args.goal c.args.lemmas x) (sym c.in_ok-answer-in-Sat.ensures)
    (escapes circuit sig clauses c.args.goal values c.is_well_formed.ensures signals c.requires.goal model)
