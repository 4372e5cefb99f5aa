use Rattle.std.proofs.Common.{◌≡◌, ◌<◌, ℤ, List, length, take, ap, ◌∙◌, subst, arith}
use Rattle.std.proofs.lemmas.List.{length-append, length-map, take_all}
use Rattle.sat_trail.specs.Trail.{Assignment, lits}
use Rattle.sat_watch.specs.Kept.{Each, IsWatched}
use Rattle.sat_watch.specs.Links.{watch_lits}
use Rattle.sat_watch.proofs.Units.{ExtendsByUnits-trans}
use Rattle.sat_watch.proofs.propagate.follow.Goals as goal

pub returns-in-Some-clause-by_units : goal.returns-in-Some-clause-by_units
returns-in-Some-clause-by_units c =
    ExtendsByUnits-trans c.args.clauses.now c.args.trail.now c.loop-at.trail c.walk_list.new.trail c.loop-at.invariant.by_units c.walk_list.ensures.by_units

pub loop-at-preserved : goal.loop-at-preserved
loop-at-preserved c =
    let before = c.loop-at.invariant.by_units in
    let step = c.walk_list.ensures.by_units in
    let lt : c.loop-at.at < length c.loop-at.trail.assignments = omega (arith, c.loop-at-test.true, c.len.ensures.value) in
    record {
      by_units = ExtendsByUnits-trans c.args.clauses.now c.args.trail.now c.loop-at.trail c.walk_list.new.trail before step;
      low = c.walk_list.ensures.low ∙ c.loop-at.invariant.low;
      within = omega (arith, ap length step.assignments, length-append c.loop-at.trail.assignments step.more);
      watched = c.in-None.ensures.answer;
    }

pub returns-clause-answer : goal.returns-clause-answer
returns-clause-answer c =
    let t = c.loop-at.trail in
    let all : take c.loop-at.at (lits t.assignments) ≡ lits t.assignments = take_all c.loop-at.at (lits t.assignments) (omega (arith, length-map t.assignments (λ (p : Assignment). p.lit), c.loop-at-test.false, c.len.ensures.value)) in
    let P : List ℤ → Type 0 = λ ls. Each (IsWatched (lits t.assignments) ls) c.args.clauses.now (watch_lits c.loop-at.watches) in
    subst P all c.loop-at.invariant.watched.here
