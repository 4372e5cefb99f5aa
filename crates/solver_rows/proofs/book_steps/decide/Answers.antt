use Rattle.std.proofs.Common.{◌+◌, None, refl, sym, subst}
use Rattle.sat_trail.specs.Trail.{Assignment, TrailState}
use Rattle.sat_watch.specs.Ready.{IsReady}
use Rattle.sat_watch.proofs.Readiness.{ready_decide}
use Rattle.solver_rows.proofs.book_steps.decide.Goals as goal

pub returns : goal.returns
returns g c =
    let t = c.args.trail.now in
    let p : Assignment = record { lit = c.lit-decision.result; level = t.level + 1; reason = None } in
    let P : TrailState → Type 0 = λ x. IsReady c.args.book.now x in
    subst P (sym c.decide.ensures) (ready_decide c.args.book.now t p c.requires c.vars.ensures.well_formed refl)
