use Rattle.std.proofs.Common.{ℕ, ◌≡◌, true, ℤ, nat_abs, map, refl, ap, sym, ◌∙◌, subst, inl, inr}
use Rattle.std.specs.List.{Contains}
use Rattle.cnf_base.specs.Status.{has}
use Rattle.sat_trail.specs.declared.clause_id.ClauseId.{ClauseId}
use Rattle.sat_trail.specs.declared.clause_id.ClauseId.TheVariants as ids
use Rattle.sat_trail.specs.Trail.{lits, with_reason}
use Rattle.sat_watch.proofs.Status.{value_true}
use Rattle.sat_solver.specs.Sound.{root}
use Rattle.sat_solver.proofs.Roots.{root_found}
use Rattle.sat_incremental.proofs.Holdings.{root_of_true}
use Rattle.sat_incremental.proofs.give.hold_unit.Goals as goal

pub set_reason-requires-clause-forced : goal.set_reason-requires-clause-forced
set_reason-requires-clause-forced c =
    let t = c.args.trail.now in
    let at = root_of_true t c.args.lit c.is_well_formed.ensures c.requires.root (value_true (lits t.assignments) c.args.lit (sym c.value.ensures ∙ c.in-True.is)) in
    (root c.args.lit at.0, root_found c.args.trail.now c.args.lit at.0 c.var.result c.is_well_formed.ensures at.1 c.var.ensures.size, refl)

pub returns-in-True-clause-held : goal.returns-in-True-clause-held
returns-in-True-clause-held c is =
    let t = c.args.trail.now in
    let at = root_of_true t c.args.lit c.is_well_formed.ensures c.requires.root (value_true (lits t.assignments) c.args.lit (sym c.value.ensures ∙ c.in-True.is)) in
    inl (at.0, at.1, c.set_reason.ensures ∙ ap (λ v. record t { assignments = map (with_reason v (ids.Unit c.args.id)) t.assignments }) c.var.ensures.size)

pub returns-in-Unset-clause-held : goal.returns-in-Unset-clause-held
returns-in-Unset-clause-held c is = inr c.assume.ensures
