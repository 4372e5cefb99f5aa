use Rattle.std.proofs.Common.{◌≡◌, ◌<◌, ◌+◌, ◌^◌, List, length, get_or, take, true, sym, ap, subst, ◌∙◌, arith}
use Rattle.std.proofs.lemmas.List.{length-set, take_all}
use Rattle.run_report.specs.declared.posts.Finding.{Finding}
use Rattle.run_report.proofs.Searching.{AreMarksOf, goal_below, mark_more}
use Rattle.run_report.proofs.findings.marks.Goals as goal

pub set-requires : goal.set-requires
set-requires c =
    let k = c.loop-finding.finding-index in
    let f = c.finding-item.result in
    let fs = c.args.findings.now in
    let here : f ≡ get_or fs k f = c.finding-item.is ∙ ap (λ (xs : List Finding). get_or xs k f) c.as_slice-finding-items.ensures in
    let inside : k < length fs = omega (arith, ap length c.as_slice-finding-items.ensures, c.loop-finding-test.true) in
    omega (arith, goal_below fs k f (2 ^ length c.args.signals.now.lits) c.requires inside here, c.loop-finding.invariant.0)

pub loop-finding-preserved : goal.loop-finding-preserved
loop-finding-preserved c =
    let k = c.loop-finding.finding-index in
    let f = c.finding-item.result in
    let fs = c.args.findings.now in
    let marks = c.loop-finding.marks in
    let here : f ≡ get_or fs k f = c.finding-item.is ∙ ap (λ (xs : List Finding). get_or xs k f) c.as_slice-finding-items.ensures in
    let inside : k < length fs = omega (arith, ap length c.as_slice-finding-items.ensures, c.loop-finding-test.true) in
    let below : f.goal < length marks = omega (arith, goal_below fs k f (2 ^ length c.args.signals.now.lits) c.requires inside here, c.loop-finding.invariant.0) in (
      ap length c.set.ensures ∙ (length-set marks f.goal true ∙ c.loop-finding.invariant.0),
      subst (AreMarksOf (take (k + 1) fs)) (sym c.set.ensures) (mark_more fs k f marks inside here below c.loop-finding.invariant.1),
    )

pub returns-clause-marks : goal.returns-clause-marks
returns-clause-marks c =
    let k = c.loop-finding.finding-index in
    let fs = c.args.findings.now in
    let whole : take k fs ≡ fs = take_all k fs (omega (arith, ap length c.as_slice-finding-items.ensures, c.loop-finding-test.false)) in
    subst (λ (xs : List Finding). AreMarksOf xs c.loop-finding.marks) whole c.loop-finding.invariant.1
