use Rattle.std.proofs.Common.{◌≡◌, get_or, sym, ◌∙◌, arith}
use Rattle.std.proofs.lemmas.Bool.{eqb-true}
use Rattle.sat_trail.specs.Trail.{levels}
use Rattle.sat_trail.proofs.Levels.{length-upto-le}
use Rattle.sat_watch.proofs.SeenTrail.{upto_before}
use Rattle.sat_watch.proofs.seen.is_at_present_level.Goals as goal

pub returns-then-start-len : goal.returns-then-start-len
returns-then-start-len c same k lt =
    let t = c.args.trail.now in
    let top : get_or (levels t.assignments) c.args.start 0 ≡ t.level = sym c.level_at.ensures ∙ eqb-true c.level_at.result c.level.result same ∙ c.level.ensures in
    upto_before k t c.args.start c.len.ensures.well_formed (omega (arith, c.if-start-len.true, c.len.ensures.value)) (omega arith)

pub returns-else-start-len : goal.returns-else-start-len
returns-else-start-len c same k lt =
    omega (arith, length-upto-le k c.args.trail.now.assignments, c.if-start-len.false, c.len.ensures.value)
