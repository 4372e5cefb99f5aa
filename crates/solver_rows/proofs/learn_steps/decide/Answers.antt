use Rattle.std.proofs.Common.{◌+◌, [], None, refl, sym, subst}
use Rattle.sat_trail.specs.Trail.{Assignment, TrailState}
use Rattle.sat_watch.specs.Ready.{IsReady}
use Rattle.sat_watch.proofs.Readiness.{ready_decide}
use Rattle.sat_learn.specs.Reasons.{AreReasons}
use Rattle.sat_learn.proofs.Reasons.{reasons_push}
use Rattle.solver_rows.proofs.learn_steps.decide.Goals as goal

pub returns-clause-ready : goal.returns-clause-ready
returns-clause-ready g c =
    let t = c.args.trail.now in
    let p : Assignment = record { lit = c.lit-decision.result; level = t.level + 1; reason = None } in
    let P : TrailState → Type 0 = λ x. IsReady c.args.book.now x in
    subst P (sym c.decide.ensures) (ready_decide c.args.book.now t p c.requires.settled c.vars.ensures.well_formed refl)

pub returns-clause-reasons : goal.returns-clause-reasons
returns-clause-reasons g c =
    let t = c.args.trail.now in
    let p : Assignment = record { lit = c.lit-decision.result; level = t.level + 1; reason = None } in
    let P : TrailState → Type 0 = λ x. AreReasons c.args.book.now.clauses [] x.assignments in
    subst P (sym c.decide.ensures) (reasons_push c.args.book.now.clauses t.assignments p c.requires.reasons tt)
