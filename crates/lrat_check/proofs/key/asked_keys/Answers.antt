use Rattle.std.proofs.Common.{◌+◌, arith, ℤ, List, take, subst, sym, ◌∙◌}
use Rattle.std.specs.List.{All}
use Rattle.std.proofs.lemmas.List.{take_all}
use Rattle.lrat_text.specs.declared.proof.LratStep.{LratStep}
use Rattle.lrat_check.specs.ClauseKeys.{IsKeyOf, Keys, HoldsStep}
use Rattle.lrat_check.proofs.ClauseKeys.{asked_more, asked_same}
use Rattle.lrat_check.proofs.key.asked_keys.Goals as goal
use Rattle.lrat_check.proofs.key.asked_keys.Goals.{in-Add+in_ok-key_of+in_ok-insert, in_default}

pub loop-step-preserved : goal.loop-step-preserved
loop-step-preserved c =
    let steps : List LratStep = c.args.steps.now in
    let i = c.loop-step.step-index in
    let P : Keys → Type 0 = λ keys. All (HoldsStep keys) (take (i + 1) steps) in
    elim c.match-step.branch [
      | in-Add+in_ok-key_of+in_ok-insert w ↦
          let Q : List ℤ → Type 0 = λ lits. IsKeyOf lits w.in_ok-key_of.field-0.items in
          subst P (sym w.asked-is)
          (asked_more c.loop-step.asked w.insert.new.self w.in_ok-key_of.field-0 w.in-Add.id w.in-Add.lits w.in-Add.hints steps i c.step-item.result (omega arith)
          (sym c.step-item.is ∙ w.in-Add.is) (subst Q w.as_slice.ensures w.in_ok-key_of.ensures) w.in_ok-insert.ensures.keys c.loop-step.invariant)
      | in_default w ↦
          subst P (sym w.asked-is) (asked_same c.loop-step.asked steps i c.step-item.result (omega arith) (λ id lits hints h. w.in_default.not-Add id lits hints (c.step-item.is ∙ h)) c.loop-step.invariant)
    ]

pub returns : goal.returns
returns c =
    let P : List LratStep → Type 0 = All (HoldsStep c.loop-step.asked) in
    subst P (take_all c.loop-step.step-index c.args.steps.now (omega arith)) c.loop-step.invariant
