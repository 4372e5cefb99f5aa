use Rattle.std.proofs.Common.{◌≡◌, true, ℤ, List, subst}
use Rattle.cnf_base.specs.Status.{has}
use Rattle.sat_learn.proofs.Assignments.{true_by}
use Rattle.sat_learn.proofs.minimize.minimize_clause.Goals as goal

pub walk_all-requires-clause-false_now : goal.walk_all-requires-clause-false_now
walk_all-requires-clause-false_now c l inside =
    let H : List ℤ → Type 0 = λ ls. has ls l ≡ true in
    let x = c.requires.tracked.between l (subst H c.deref.ensures.value inside) in
    true_by c.args.premises.now.trail l x.level x.false_at
