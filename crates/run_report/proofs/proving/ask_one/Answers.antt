use Rattle.std.proofs.Common.{◌+◌, sym, subst, ◌∙◌}
use Rattle.std.proofs.lemmas.Bool.{false≢true}
use Rattle.sweep_search.specs.Sweep.{IsMarked}
use Rattle.run_report.specs.Proving.{AreAsked}
use Rattle.run_report.specs.declared.proving.Asked.{Asked}
use Rattle.run_report.proofs.Asking.{asked_more}
use Rattle.run_report.proofs.proving.ask_one.Goals as goal

pub returns-clause-asked : goal.returns-clause-asked
returns-clause-asked c =
    let new : ¬ IsMarked c.args.known.now c.args.goal = λ marked. false≢true (sym c.if-get.false ∙ (c.get.ensures ∙ marked)) in
    subst (λ (a : Asked). AreAsked c.args.circuit.now c.args.signals.now.lits c.args.lemmas c.args.clauses.now c.args.known.now (c.args.goal + 1) a) (sym c.in_ok-take_down.ensures)
    (asked_more c.args.circuit.now c.args.signals.now.lits c.args.lemmas c.args.clauses.now c.args.known.now c.args.goal c.in_ok-answer.answer c.args.asked.now new c.in_ok-answer.ensures.answer c.requires.asked)
