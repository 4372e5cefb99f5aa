use Rattle.std.proofs.Common.{ℕ, Option, ap, sym, ◌∙◌}
use Rattle.std.specs.Option.{option_map}
use Rattle.sat_trail.specs.Trail.{Assignment, assignment_of}
use Rattle.sat_watch.proofs.Choice.{false_from_assignment, never_false}
use Rattle.sat_watch.proofs.choose.false_level.Goals as goal

pub returns-in-False : goal.returns-in-False
returns-in-False c =
    let level : ℕ → Option ℕ = λ v. option_map (λ (p : Assignment). p.level) (assignment_of v c.args.trail.now.assignments) in
    false_from_assignment c.args.trail.now c.args.lit c.level_of.result c.is_well_formed.ensures (sym c.value.ensures ∙ c.in-False.is) (c.level_of.ensures ∙ ap level c.var.ensures.size)

pub returns-in_default : goal.returns-in_default
returns-in_default c =
    never_false c.args.trail.now c.args.lit c.is_well_formed.ensures (λ e. c.in_default.not-False (c.value.ensures ∙ e))
