use Rattle.std.proofs.Common.{[], refl, sym, subst}
use Rattle.sat_trail.specs.Trail.{TrailState}
use Rattle.sat_watch.specs.Ready.{IsSettled}
use Rattle.sat_watch.proofs.Readiness.{settled_empty}
use Rattle.solver_rows.proofs.book_steps.begin.Goals as goal

pub returns : goal.returns
returns c =
    let b = c.args.book.now in
    let P : TrailState → Type 0 = λ t. IsSettled b t in
    let t : TrailState = record { vars = b.vars; assignments = []; level = 0; low = 0 } in
    subst P (sym c.requires) (settled_empty b t (record { vars = refl; agrees = refl }) c.vars.ensures.well_formed refl)
