use Rattle.std.proofs.Common.{◌<◌, sym, subst, arith}
use Rattle.sat_trail.specs.Trail.{TrailState}
use Rattle.sat_watch.specs.Ready.{IsSettled}
use Rattle.sat_watch.proofs.Readiness.{settled_back}
use Rattle.solver_rows.proofs.book_steps.go_back.Goals as goal

pub returns : goal.returns
returns g c =
    let t = c.args.trail.now in
    let P : TrailState → Type 0 = λ x. IsSettled c.args.book.now x in
    let below : c.args.level < t.level = omega (arith, c.level.ensures) in
    subst P (sym c.back_to.ensures) (settled_back c.args.book.now t c.args.level c.requires c.vars.ensures.well_formed below)
