use Rattle.std.proofs.Common.{◌<◌, false, eqb, nat_abs, length, map, take, get_or, refl, ap, sym, ◌∙◌, arith, inl, inr}
use Rattle.std.specs.List.{list_any}
use Rattle.std.proofs.lemmas.Bool.{or_left}
use Rattle.std.proofs.lemmas.List.{take_all}
use Rattle.cnf_base.proofs.Literals.{or-false}
use Rattle.sat_learn.specs.Resolving.{with_marks}
use Rattle.sat_learn.proofs.MarkedLiterals.{marked_more, has_at, mark_in_range, false_in_range}
use Rattle.sat_learn.proofs.analysis.note_all.Goals as goal

pub loop-lit-init : goal.loop-lit-init
loop-lit-init c =
    record {
      tracked = c.requires.tracked;
      marked = λ v. sym (or-false (get_or c.args.marks.now v false));
      hints = refl;
      count = omega arith;
      stays = λ earlier. refl;
    }

pub note-requires-clause-in_range : goal.note-requires-clause-in_range
note-requires-clause-in_range c =
    let t = c.args.trail.now in
    let lit = c.lit-item.result in
    let there = has_at c.args.clause.now c.loop-lit.lit-index lit lit c.loop-lit-test.true c.lit-item.is in
    let room = c.requires.tracked.room in
    let small : nat_abs lit < length c.args.marks.now = elim (c.requires.false_now lit there) [
      | inl e ↦ mark_in_range c.args.marks.now lit e
      | inr e ↦ false_in_range t c.args.marks.now lit c.requires.trail room e
    ] in
    omega (arith, small, c.loop-lit.auto.marks)

pub note-requires-clause-false_now : goal.note-requires-clause-false_now
note-requires-clause-false_now c =
    let lit = c.lit-item.result in
    let there = has_at c.args.clause.now c.loop-lit.lit-index lit lit c.loop-lit-test.true c.lit-item.is in
    elim (c.requires.false_now lit there) [
      | inl e ↦ inl (c.loop-lit.invariant.marked (nat_abs lit) ∙ or_left (get_or c.args.marks.now (nat_abs lit) false) (list_any (eqb (nat_abs lit)) (map nat_abs (take c.loop-lit.lit-index c.args.clause.now))) e)
      | inr e ↦ inr e
    ]

pub loop-lit-preserved : goal.loop-lit-preserved
loop-lit-preserved c =
    let lit = c.lit-item.result in
    let i = c.loop-lit.lit-index in
    let there = has_at c.args.clause.now i lit lit c.loop-lit-test.true c.lit-item.is in
    let room = c.requires.tracked.room in
    let small : nat_abs lit < length c.args.marks.now = elim (c.requires.false_now lit there) [
      | inl e ↦ mark_in_range c.args.marks.now lit e
      | inr e ↦ false_in_range c.args.trail.now c.args.marks.now lit c.requires.trail room e
    ] in
    let in_range : nat_abs lit < length c.loop-lit.marks = omega (arith, small, c.loop-lit.auto.marks) in
    let before = c.loop-lit.invariant.count in
    let more = c.in_ok-note.ensures.count in
    record {
      tracked = c.in_ok-note.ensures.tracked;
      marked = λ v. ap (λ ms. get_or ms v false) c.in_ok-note.ensures.marks
          ∙ marked_more c.loop-lit.marks c.args.marks.now c.args.clause.now i (nat_abs lit) lit c.loop-lit-test.true c.lit-item.is refl in_range c.loop-lit.invariant.marked v;
      hints = c.in_ok-note.ensures.hints ∙ c.loop-lit.invariant.hints;
      count = omega arith;
      stays = λ earlier. c.in_ok-note.ensures.stays (elim (earlier lit there) [
        | inl e ↦ inl (c.loop-lit.invariant.marked (nat_abs lit) ∙ or_left (get_or c.args.marks.now (nat_abs lit) false) (list_any (eqb (nat_abs lit)) (map nat_abs (take i c.args.clause.now))) e)
        | inr e ↦ inr e
      ]) ∙ c.loop-lit.invariant.stays earlier;
    }

pub returns-clause-marks : goal.returns-clause-marks
returns-clause-marks c = λ v. c.loop-lit.invariant.marked v ∙ ap (λ ls. with_marks ls c.args.marks.now v) (take_all c.loop-lit.lit-index c.args.clause.now c.loop-lit-test.false)
