use Rattle.std.proofs.Common.{◌≡◌, true, ℤ, neg_ℤ, nat_abs, List, ap, sym, ◌∙◌, subst, arith, inl, inr}
use Rattle.cnf_base.proofs.Literals.{nat_abs-neg_ℤ}
use Rattle.cnf_base.specs.Status.{has}
use Rattle.sat_trail.specs.Trail.{lits}
use Rattle.sat_learn.proofs.Assignments.{true_literal}
use Rattle.sat_learn.proofs.MarkedLiterals.{has_at, false_push}
use Rattle.sat_learn.proofs.ResolveStep.{antecedent_false}
use Rattle.sat_learn.proofs.minimize.+walk.Goals as goal
use Rattle.sat_learn.proofs.minimize.+walk.Goals.{else-loop-other-test, then-loop-other-test+then-var+in_ok-goes+then-not-goes}

pub bounds : goal.bounds
bounds t c =
    let literal = true_literal c.args.premises.now.trail (neg_ℤ c.args.lit) c.requires.explained.trail c.requires.false_now in
    omega (arith, literal.variable, nat_abs-neg_ℤ c.args.lit, c.var-index.ensures.size, c.requires.room_too)

pub bounds-marks-index-then-depth-eq0 : goal.bounds-marks-index-then-depth-eq0
bounds-marks-index-then-depth-eq0 t c =
    let literal = true_literal c.args.premises.now.trail (neg_ℤ c.args.lit) c.requires.explained.trail c.requires.false_now in
    omega (arith, literal.variable, nat_abs-neg_ℤ c.args.lit, c.var-index.ensures.size, c.requires.room)

pub find_antecedent-requires-clause-in_range : goal.find_antecedent-requires-clause-in_range
find_antecedent-requires-clause-in_range t c =
    let literal = true_literal c.args.premises.now.trail (neg_ℤ c.args.lit) c.requires.explained.trail c.requires.false_now in
    omega (arith, literal.variable, nat_abs-neg_ℤ c.args.lit, c.var.ensures.size)

pub bounds-marks-index-in_default : goal.bounds-marks-index-in_default
bounds-marks-index-in_default t c =
    let literal = true_literal c.args.premises.now.trail (neg_ℤ c.args.lit) c.requires.explained.trail c.requires.false_now in
    omega (arith, literal.variable, nat_abs-neg_ℤ c.args.lit, c.var-index.ensures.size, c.requires.room)

pub walk-requires : goal.walk-requires
walk-requires t c =
    let trail = c.args.premises.now.trail in
    let other = c.other-item.result in
    let at = c.level_of_false-level.ensures in
    let of_var : nat_abs at.assignment.lit ≡ c.var.result = ap nat_abs at.negated ∙ nat_abs-neg_ℤ c.args.lit ∙ sym c.var.ensures.size in
    let known = c.in-Some.ensures at.place at.assignment at.stands of_var in
    let inside = has_at c.in-Some.found.lits.now c.loop-other.other-index other other c.loop-other-test.true c.other-item.is in
    let differs : nat_abs other ≡ nat_abs c.args.lit → ⊥ = λ e. c.if-var.true (c.var-in-loop-other.ensures.size ∙ e ∙ sym c.var-in-loop-other-2.ensures.size) in
    let false_now : has (lits trail.assignments) (neg_ℤ other) ≡ true = elim (antecedent_false c.args.premises.now.book.clauses c.args.premises.now.proof_ids.items trail at.place at.assignment c.in-Some.found.lits.now c.in-Some.found.hint other c.requires.explained.trail at.stands known inside) [
      | inl e ↦ absurd (differs (ap nat_abs e ∙ ap nat_abs at.negated ∙ nat_abs-neg_ℤ c.args.lit))
      | inr e ↦ e
    ] in
    (omega (arith, c.decreases, c.if-depth-eq0.false), (c.requires.explained, (c.requires.room, (c.loop-other.auto.visits ∙ c.requires.room_too, (c.loop-other.invariant.visits, (false_now, c.loop-other.invariant.all_false))))))

pub note_visit-requires-clause-in_range : goal.note_visit-requires-clause-in_range
note_visit-requires-clause-in_range t c =
    let literal = true_literal c.args.premises.now.trail (neg_ℤ c.args.lit) c.requires.explained.trail c.requires.false_now in
    omega (arith, literal.variable, nat_abs-neg_ℤ c.args.lit, c.requires.room_too, c.loop-other.auto.visits, c.loop-other-test.auto.visits)

pub bounds-marks-index-else-removable : goal.bounds-marks-index-else-removable
bounds-marks-index-else-removable t c =
    let literal = true_literal c.args.premises.now.trail (neg_ℤ c.args.lit) c.requires.explained.trail c.requires.false_now in
    omega (arith, literal.variable, nat_abs-neg_ℤ c.args.lit, c.var-index.ensures.size, c.requires.room)

pub returns-clause-all_false : goal.returns-clause-all_false
returns-clause-all_false t c =
    let true_lits = lits c.args.premises.now.trail.assignments in
    let F : List ℤ → Type 0 = λ ls. (x : ℤ) → has ls x ≡ true → has true_lits (neg_ℤ x) ≡ true in
    let so_far : F c.loop-other-test.visited.items = elim c.loop-other-test.branch [
      | else-loop-other-test w ↦ subst F (sym (ap (λ v. v.items) w.visited-is)) c.loop-other.invariant.all_false
      | then-loop-other-test+then-var+in_ok-goes+then-not-goes w ↦ subst F (sym (ap (λ v. v.items) w.visited-is)) w.in_ok-goes.ensures.all_false
    ] in
    false_push true_lits c.loop-other-test.visited.items c.note_visit.new.visited.items c.args.lit c.in_ok-note_visit.ensures.visited so_far c.requires.false_now
