use Rattle.std.proofs.Common.{◌≡◌, rules, None, MatchResult}
use Rattle.lrat_check.specs.SpentFault.{spent_fault, IsSpentFault}
use Rattle.lrat_check.proofs.CallAnswers.{IsOkUnless-from_spent_answer}
use Rattle.lrat_check.proofs.SpentFaults.{spent_without_fault}
use Rattle.lrat_check.proofs.spent.check_spent.Goals as goal

pub returns-in_err-check_lemmas-clause-refused : goal.returns-in_err-check_lemmas-clause-refused
returns-in_err-check_lemmas-clause-refused c = λ spent.
    let first = spent_fault c.args.formula.now c.args.lemmas c.args.proof.now in
    let answer : MatchResult c.from_residual.result (λ _. first ≡ None) (IsSpentFault first) = search rules in
    IsOkUnless-from_spent_answer c.from_residual.result first answer ((spent_without_fault c.args.formula.now c.args.lemmas c.args.proof.now).1 spent)

pub returns-clause-spent : goal.returns-clause-spent
returns-clause-spent c = (spent_without_fault c.args.formula.now c.args.lemmas c.args.proof.now).0 (search rules)
