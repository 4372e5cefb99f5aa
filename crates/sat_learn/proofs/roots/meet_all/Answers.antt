use Rattle.std.proofs.Common.{◌<◌, eqb, false, nat_abs, length, map, take, get_or, ap, ◌∙◌, arith, refl, inl, inr}
use Rattle.std.specs.List.{list_any}
use Rattle.std.proofs.lemmas.Bool.{or_left}
use Rattle.std.proofs.lemmas.List.{take_all}
use Rattle.sat_learn.specs.Resolving.{with_marks}
use Rattle.sat_learn.proofs.MarkedLiterals.{has_at, mark_in_range, false_in_range, marked_more}
use Rattle.sat_learn.proofs.roots.meet_all.Goals as goal

pub meet-requires-clause-in_range : goal.meet-requires-clause-in_range
meet-requires-clause-in_range c =
    let lit = c.lit-item.result in
    let there = has_at c.args.clause.now c.loop-lit.lit-index lit lit c.loop-lit-test.true c.lit-item.is in
    let small : nat_abs lit < length c.args.marks.now = elim (c.requires.false_now lit there) [
      | inl e ↦ mark_in_range c.args.marks.now lit e
      | inr e ↦ false_in_range c.args.trail.now c.args.marks.now lit c.requires.trail c.requires.room e
    ] in
    omega (arith, small, c.loop-lit.auto.marks)

pub meet-requires-clause-false_now : goal.meet-requires-clause-false_now
meet-requires-clause-false_now c =
    let lit = c.lit-item.result in
    elim (c.requires.false_now lit (has_at c.args.clause.now c.loop-lit.lit-index lit lit c.loop-lit-test.true c.lit-item.is)) [
      | inl e ↦ inl (c.loop-lit.invariant.marked (nat_abs lit) ∙ or_left (get_or c.args.marks.now (nat_abs lit) false) (list_any (eqb (nat_abs lit)) (map nat_abs (take c.loop-lit.lit-index c.args.clause.now))) e)
      | inr e ↦ inr e
    ]

pub loop-lit-preserved : goal.loop-lit-preserved
loop-lit-preserved c =
    let lit = c.lit-item.result in
    let i = c.loop-lit.lit-index in
    let there = has_at c.args.clause.now i lit lit c.loop-lit-test.true c.lit-item.is in
    let small : nat_abs lit < length c.args.marks.now = elim (c.requires.false_now lit there) [
      | inl e ↦ mark_in_range c.args.marks.now lit e
      | inr e ↦ false_in_range c.args.trail.now c.args.marks.now lit c.requires.trail c.requires.room e
    ] in
    let in_range : nat_abs lit < length c.loop-lit.marks = omega (arith, small, c.loop-lit.auto.marks) in
    record {
      marked = λ v. ap (λ ms. get_or ms v false) c.in_ok-meet.ensures.marks
          ∙ marked_more c.loop-lit.marks c.args.marks.now c.args.clause.now i (nat_abs lit) lit c.loop-lit-test.true c.lit-item.is refl in_range c.loop-lit.invariant.marked v;
      queued = λ place h. c.in_ok-meet.ensures.queued place (c.loop-lit.invariant.queued place h);
    }

pub returns-clause-marks : goal.returns-clause-marks
returns-clause-marks c = λ v. c.loop-lit.invariant.marked v ∙ ap (λ ls. with_marks ls c.args.marks.now v) (take_all c.loop-lit.lit-index c.args.clause.now c.loop-lit-test.false)
