use Rattle.std.proofs.Common.{◌≡◌, ◌<◌, ◌^◌, ◌∷◌, [], Some, sym, subst, arith}
use Rattle.sat_trail.specs.declared.clause_id.ClauseId.TheVariants as ids
use Rattle.sat_trail.specs.Trail.{Assignment, TrailState}
use Rattle.sat_watch.specs.Ready.{IsReady}
use Rattle.sat_watch.proofs.Readiness.{followed_more}
use Rattle.sat_learn.specs.Reasons.{AreReasons}
use Rattle.sat_learn.proofs.Reasons.{reasons_push}
use Rattle.solver_rows.proofs.learn_steps.assume.Goals as goal

pub returns-clause-ready : goal.returns-clause-ready
returns-clause-ready g c =
    let t = c.args.trail.now in
    let b = c.args.book.now in
    let p : Assignment = record { lit = c.lit-unit.result; level = t.level; reason = Some (ids.Unit c.args.id) } in
    let root : t.level ≡ 0 = omega (arith, c.level.ensures) in
    let P : TrailState → Type 0 = λ x. IsReady b x in
    subst P (sym c.assume.ensures) (record {
      followed = followed_more b t (p ∷ []) t.level c.requires.ready.followed c.vars.ensures.well_formed.low_reached;
      none_false = λ k lt. absurd (omega arith);
      none_unit = λ k lt. absurd (omega arith);
    })

pub returns-clause-reasons : goal.returns-clause-reasons
returns-clause-reasons g c =
    let t = c.args.trail.now in
    let p : Assignment = record { lit = c.lit-unit.result; level = t.level; reason = Some (ids.Unit c.args.id) } in
    let small : c.args.id < 2 ^ 62 = omega arith in
    let P : TrailState → Type 0 = λ x. AreReasons c.args.book.now.clauses [] x.assignments in
    subst P (sym c.assume.ensures) (reasons_push c.args.book.now.clauses t.assignments p c.requires.reasons small)
