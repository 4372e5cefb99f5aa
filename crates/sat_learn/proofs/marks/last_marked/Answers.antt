use Rattle.std.proofs.Common.{◌≡◌, ℕ, ◌+◌, ◌-◌, ◌<◌, true, false, length, get_or, ap, sym, ◌∙◌, subst, arith}
use Rattle.sat_learn.specs.Resolving.{AreBelow, is_marked}
use Rattle.sat_learn.proofs.MarkedLiterals.{literal_at, place_above, below_step, last_from}
use Rattle.sat_learn.proofs.marks.last_marked.Goals as goal

pub overflow_sub-at : goal.overflow_sub-at
overflow_sub-at c =
    let above = place_above c.args.trail.now c.args.marks.now c.args.place c.requires.below c.requires.some in
    omega arith

pub loop-at-init : goal.loop-at-init
loop-at-init c =
    let above = place_above c.args.trail.now c.args.marks.now c.args.place c.requires.below c.requires.some in
    let same : c.args.place ≡ c.args.place - 1 + 1 = omega arith in
    let B : ℕ → Type 0 = λ n. AreBelow c.args.trail.now.assignments c.args.marks.now n in
    record { before = omega arith; below = subst B same c.requires.below }

pub bounds-marks-var : goal.bounds-marks-var
bounds-marks-var c =
    let t = c.args.trail.now in
    let lt : c.loop-at.at < length t.assignments = omega arith in
    let literal = literal_at t c.loop-at.at c.at.result c.requires.trail lt c.at.ensures in
    omega (arith, literal.variable, c.var.ensures.size, c.requires.room)

pub overflow_sub-at-in-loop-at : goal.overflow_sub-at-in-loop-at
overflow_sub-at-in-loop-at c =
    let t = c.args.trail.now in
    let unmarked : is_marked c.args.marks.now c.at.result ≡ false = ap (λ n. get_or c.args.marks.now n false) (sym c.var.ensures.size) ∙ c.loop-at-test.true in
    let below = below_step t.assignments c.args.marks.now c.loop-at.at c.at.result c.at.ensures unmarked c.loop-at.invariant.below in
    let above = place_above t c.args.marks.now c.loop-at.at below c.requires.some in
    omega arith

pub loop-at-smaller : goal.loop-at-smaller
loop-at-smaller c =
    let t = c.args.trail.now in
    let unmarked : is_marked c.args.marks.now c.at.result ≡ false = ap (λ n. get_or c.args.marks.now n false) (sym c.var.ensures.size) ∙ c.loop-at-test.true in
    let below = below_step t.assignments c.args.marks.now c.loop-at.at c.at.result c.at.ensures unmarked c.loop-at.invariant.below in
    let above = place_above t c.args.marks.now c.loop-at.at below c.requires.some in
    omega arith

pub loop-at-preserved : goal.loop-at-preserved
loop-at-preserved c =
    let t = c.args.trail.now in
    let unmarked : is_marked c.args.marks.now c.at.result ≡ false = ap (λ n. get_or c.args.marks.now n false) (sym c.var.ensures.size) ∙ c.loop-at-test.true in
    let below = below_step t.assignments c.args.marks.now c.loop-at.at c.at.result c.at.ensures unmarked c.loop-at.invariant.below in
    let above = place_above t c.args.marks.now c.loop-at.at below c.requires.some in
    let same : c.loop-at.at ≡ c.loop-at.at - 1 + 1 = omega arith in
    let B : ℕ → Type 0 = λ n. AreBelow t.assignments c.args.marks.now n in
    let before = c.loop-at.invariant.before in
    record { before = omega arith; below = subst B same below }

pub returns-clause-last : goal.returns-clause-last
returns-clause-last c =
    let t = c.args.trail.now in
    let lt : c.loop-at.at < length t.assignments = omega arith in
    let marked : is_marked c.args.marks.now c.at.result ≡ true = ap (λ n. get_or c.args.marks.now n false) (sym c.var.ensures.size) ∙ c.loop-at-test.false in
    last_from t c.args.marks.now c.loop-at.at c.at.result c.requires.trail lt c.at.ensures marked c.loop-at.invariant.below c.requires.some
