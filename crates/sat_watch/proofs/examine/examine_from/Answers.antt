use Rattle.std.proofs.Common.{◌≡◌, ℕ, ◌∙◌, subst, arith, inl, inr}
use Rattle.std.proofs.lemmas.Bool.{cases_lt}
use Rattle.std.proofs.lemmas.Option.{slice_get_within}
use Rattle.sat_trail.specs.Trail.{lits}
use Rattle.sat_watch.specs.Scanning.{RestsAt}
use Rattle.sat_watch.proofs.Rests.{RestsAt-later, RestsAt-fewer}
use Rattle.sat_watch.proofs.Units.{ExtendsByUnits-trans}
use Rattle.sat_watch.proofs.examine.examine_from.Goals as goal

pub returns-then-examine-clause-by_units : goal.returns-then-examine-clause-by_units
returns-then-examine-clause-by_units c =
    ExtendsByUnits-trans c.args.clauses.now c.args.trail.now c.loop-place.trail c.examine.new.trail c.loop-place.invariant.by_units c.examine.ensures.by_units

pub loop-place-preserved : goal.loop-place-preserved
loop-place-preserved c =
    let clauses = c.args.clauses.now in
    let before = c.loop-place.invariant.by_units in
    let step = c.examine.ensures.by_units in
    let P : ℕ → Type 0 = λ n. RestsAt clauses (lits c.examine.new.trail.assignments) (lits c.args.trail.now.assignments) n in
    record {
      by_units = ExtendsByUnits-trans clauses c.args.trail.now c.loop-place.trail c.examine.new.trail before step;
      low = c.examine.ensures.low ∙ c.loop-place.invariant.low;
      rests = λ place from lt. elim (cases_lt place c.loop-place.place) [
        | inl earlier ↦ RestsAt-later clauses c.loop-place.trail.assignments c.examine.new.trail.assignments step.more (lits c.args.trail.now.assignments) place step.assignments (c.loop-place.invariant.rests place from earlier)
        | inr ge ↦ (let same : c.loop-place.place ≡ place = omega arith in
            subst P same (RestsAt-fewer clauses (lits c.examine.new.trail.assignments) c.args.trail.now.assignments c.loop-place.trail.assignments before.more c.loop-place.place before.assignments c.if-examine.ensures.answer))
      ];
    }

pub returns-clause-answer : goal.returns-clause-answer
returns-clause-answer c place from clause there =
    let within = slice_get_within c.args.clauses.now place clause there in
    c.loop-place.invariant.rests place from (omega (arith, c.loop-place-test.false)) clause there
