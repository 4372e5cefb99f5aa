use Rattle.std.proofs.Common.{◌≡◌, refl, sym, ◌∙◌, subst}
use Rattle.sat_incremental.specs.declared.step.End.{End}
use Rattle.sat_incremental.specs.Searching.{EndIs}
use Rattle.sat_incremental.proofs.Ease.{ease_search, core_refuted}
use Rattle.sat_incremental.proofs.Growth.{extends_same}
use Rattle.sat_incremental.proofs.Kept.{values_of, model_of, assumption_true}
use Rattle.sat_incremental.proofs.ask.conclude.Goals as goal

pub returns-in_ok-values-in-Satisfied-clause-ease : goal.returns-in_ok-values-in-Satisfied-clause-ease
returns-in_ok-values-in-Satisfied-clause-ease c = ease_search c.args.search.now c.requires.query.search c.requires.none

pub returns-in_ok-values-in-Satisfied-clause-extends : goal.returns-in_ok-values-in-Satisfied-clause-extends
returns-in_ok-values-in-Satisfied-clause-extends c = extends_same _ _ refl refl

pub returns-in_ok-values-in-Satisfied-clause-outcome : goal.returns-in_ok-values-in-Satisfied-clause-outcome
returns-in_ok-values-in-Satisfied-clause-outcome c =
    let s = c.args.search.now in
    let t = s.premises.trail in
    let P : End → Type 0 = λ e. EndIs c.args.assumptions.now c.args.lemmas s e in
    let h = subst P c.in-Satisfied.is c.requires.end in
    let sound = c.requires.query.search.sound in
    let bits = c.in_ok-values-in-Satisfied.field-0 in
    let e = c.in_ok-values-in-Satisfied.ensures in
    let values = values_of s.vars t bits sound.trail_vars c.is_well_formed.ensures h.1 e.each in (
      model_of s.vars s.entries s.premises.proof_ids.items s.premises.book t bits sound values c.is_well_formed-in-Satisfied.ensures h.0 e.number,
      assumption_true s.vars t bits c.args.assumptions.now values h.2,
    )

pub refute_by-requires-clause-root : goal.refute_by-requires-clause-root
refute_by-requires-clause-root c =
    let P : End → Type 0 = λ e. EndIs c.args.assumptions.now c.args.lemmas c.args.search.now e in
    (subst P c.in-Refuted.is c.requires.end).0

pub refute_by-requires-clause-conflict : goal.refute_by-requires-clause-conflict
refute_by-requires-clause-conflict c =
    let P : End → Type 0 = λ e. EndIs c.args.assumptions.now c.args.lemmas c.args.search.now e in
    (subst P c.in-Refuted.is c.requires.end).1

pub returns-in_ok-id-in-Refuted-clause-outcome : goal.returns-in_ok-id-in-Refuted-clause-outcome
returns-in_ok-id-in-Refuted-clause-outcome c = core_refuted c.refute_by.new.search c.in_ok-id-in-Refuted.id c.args.assumptions.now c.in_ok-id-in-Refuted.ensures.refuted

pub fail-requires-clause-assumed : goal.fail-requires-clause-assumed
fail-requires-clause-assumed c =
    let P : End → Type 0 = λ e. EndIs c.args.assumptions.now c.args.lemmas c.args.search.now e in
    (subst P c.in-Failed.is c.requires.end).0

pub fail-requires-clause-failed : goal.fail-requires-clause-failed
fail-requires-clause-failed c =
    let P : End → Type 0 = λ e. EndIs c.args.assumptions.now c.args.lemmas c.args.search.now e in
    (subst P c.in-Failed.is c.requires.end).1

pub returns-in_ok-outcome-in-Failed-clause-ease : goal.returns-in_ok-outcome-in-Failed-clause-ease
returns-in_ok-outcome-in-Failed-clause-ease c =
    let e = c.in_ok-outcome-in-Failed.ensures in
    ease_search c.fail.new.search e.search (e.refuted ∙ c.requires.none)

pub returns-in_ok-outcome-in-Failed-clause-spent : goal.returns-in_ok-outcome-in-Failed-clause-spent
returns-in_ok-outcome-in-Failed-clause-spent c is = absurd (c.in_ok-outcome-in-Failed.ensures.not_spent is)

pub returns-in-Spent-clause-ease : goal.returns-in-Spent-clause-ease
returns-in-Spent-clause-ease c = ease_search c.args.search.now c.requires.query.search c.requires.none

pub returns-in-Spent-clause-extends : goal.returns-in-Spent-clause-extends
returns-in-Spent-clause-extends c = extends_same _ _ refl refl

pub returns-in-Spent-clause-spent : goal.returns-in-Spent-clause-spent
returns-in-Spent-clause-spent c is =
    let P : End → Type 0 = λ e. EndIs c.args.assumptions.now c.args.lemmas c.args.search.now e in
    (refl, subst P c.in-Spent.is c.requires.end)
