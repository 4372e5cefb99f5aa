use Rattle.std.proofs.Common.{◌≡◌, refl, rules, Some}
use Rattle.lrat_check.specs.FirstFault.{delete_fault}
use Rattle.lrat_check.proofs.Agreement.{delete_without_fault, no_delete_fault}
use Rattle.lrat_check.specs.declared.fault.ProofKind.TheVariants.{NoEmpty}
use Rattle.lrat_check.proofs.StepKinds.{delete_kind}
use Rattle.lrat_check.proofs.checker.Checker.delete.Goals as goal

pub returns-in-Err-clause-allowed : goal.returns-in-Err-clause-allowed
returns-in-Err-clause-allowed c = (
  (λ ok. cc),
  (λ allowed.
      let faultless = no_delete_fault c.args.self.now.live c.args.ids.now allowed in
      let fault : delete_fault c.args.self.now.live c.args.ids.now ≡ Some c.in-Err.kind = search rules in cc),
)

pub returns-clause-allowed : goal.returns-clause-allowed
returns-clause-allowed c = ((λ _. delete_without_fault c.args.self.now.live c.args.ids.now (search rules)), (λ _. refl))

pub returns-in-Err-clause-kinds : goal.returns-in-Err-clause-kinds
returns-in-Err-clause-kinds c = λ none.
    let fault : delete_fault c.args.self.now.live c.args.ids.now ≡ Some c.in-Err.kind = search rules in
    let kind : c.in-Err.kind ≡ NoEmpty = cc in
    delete_kind c.args.self.now.live c.args.ids.now cc
