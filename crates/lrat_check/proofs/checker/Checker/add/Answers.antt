use Rattle.std.proofs.Common.{◌≡◌, rules, Some}
use Rattle.lrat_check.specs.FirstFault.{add_fault}
use Rattle.lrat_check.proofs.Agreement.{add_without_fault, no_add_fault}
use Rattle.lrat_check.specs.declared.fault.ProofKind.TheVariants.{NoEmpty}
use Rattle.lrat_check.proofs.StepKinds.{add_kind}
use Rattle.lrat_check.proofs.checker.Checker.add.Goals as goal

pub returns-in-Some-clause-refused : goal.returns-in-Some-clause-refused
returns-in-Some-clause-refused c = λ allowed.
    let faultless = no_add_fault c.args.self.now c.args.id c.args.lits.now c.args.hints.now allowed in
    let fault : add_fault c.args.self.now c.args.id c.args.lits.now c.args.hints.now ≡ Some c.in-Some.kind = search rules in cc

pub returns-clause-allowed : goal.returns-clause-allowed
returns-clause-allowed c = add_without_fault c.args.self.now c.args.id c.args.lits.now c.args.hints.now (search rules)

pub returns-in-Some-clause-kinds : goal.returns-in-Some-clause-kinds
returns-in-Some-clause-kinds c = λ none.
    let fault : add_fault c.args.self.now c.args.id c.args.lits.now c.args.hints.now ≡ Some c.in-Some.kind = search rules in
    let kind : c.in-Some.kind ≡ NoEmpty = cc in
    add_kind c.args.self.now c.args.id c.args.lits.now c.args.hints.now cc
