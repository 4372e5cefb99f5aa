use Rattle.std.proofs.Common.{◌≡◌, rules, None, MatchResult}
use Rattle.lrat_check.specs.Answers.{IsProofFault}
use Rattle.lrat_check.specs.FirstFault.{first_fault}
use Rattle.lrat_text.specs.Accepted.{Accepted}
use Rattle.cnf_base.specs.Meaning.{HasNoModel}
use Rattle.lrat_check.proofs.Agreement.{accepted_without_fault}
use Rattle.lrat_check.proofs.CallAnswers.{OnOk-from_answer, IsOkUnless-from_answer}
use Rattle.lrat_check.proofs.Refutation.{accepted_refutes}
use Rattle.lrat_check.proofs.proof.check_proof.Goals as goal

pub returns-clause-accepted : goal.returns-clause-accepted
returns-clause-accepted c =
    let formula = c.args.formula.now in
    let proof = c.args.proof.now in
    let first = first_fault formula proof in
    let answer : MatchResult c.check_steps.result (λ _. first ≡ None) (IsProofFault first) = search rules in
    OnOk-from_answer c.check_steps.result first (Accepted formula proof) answer (accepted_without_fault formula proof).0

pub returns-clause-refuted : goal.returns-clause-refuted
returns-clause-refuted c =
    let formula = c.args.formula.now in
    let proof = c.args.proof.now in
    let first = first_fault formula proof in
    let answer : MatchResult c.check_steps.result (λ _. first ≡ None) (IsProofFault first) = search rules in
    OnOk-from_answer c.check_steps.result first (HasNoModel formula.clauses) answer (λ none. accepted_refutes formula proof ((accepted_without_fault formula proof).0 none))

pub returns-clause-refused : goal.returns-clause-refused
returns-clause-refused c = λ accepted.
    let formula = c.args.formula.now in
    let proof = c.args.proof.now in
    let first = first_fault formula proof in
    let answer : MatchResult c.check_steps.result (λ _. first ≡ None) (IsProofFault first) = search rules in
    IsOkUnless-from_answer c.check_steps.result first answer ((accepted_without_fault formula proof).1 accepted)
