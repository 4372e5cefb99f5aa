use Rattle.std.proofs.Common.{[], refl, sym, subst, arith}
use Rattle.sat_trail.specs.Trail.{TrailState}
use Rattle.sat_watch.specs.Ready.{IsReady}
use Rattle.sat_learn.specs.Reasons.{AreReasons}
use Rattle.solver_rows.proofs.learn_steps.begin.Goals as goal

pub returns-clause-ready : goal.returns-clause-ready
returns-clause-ready c =
    let b = c.args.book.now in
    let P : TrailState → Type 0 = λ t. IsReady b t in
    subst P (sym c.requires) (record {
      followed = record { vars = refl; agrees = refl };
      none_false = λ k lt. absurd (omega arith);
      none_unit = λ k lt. absurd (omega arith);
    })

pub returns-clause-reasons : goal.returns-clause-reasons
returns-clause-reasons c =
    let P : TrailState → Type 0 = λ t. AreReasons c.args.book.now.clauses [] t.assignments in
    subst P (sym c.requires) tt
