use Rattle.std.proofs.Common.{◌+◌, ℤ, ◌≤◌, length, take, List, sym, ◌∙◌, subst, arith}
use Rattle.std.proofs.lemmas.List.{take_all}
use Rattle.cnf_base.specs.declared.clause_status.ClauseStatus.{ClauseStatus}
use Rattle.sat_trail.specs.Trail.{lits}
use Rattle.sat_watch.specs.Scanning.{HasStatus}
use Rattle.sat_watch.proofs.Status.{IsNotSatisfied, weigh_false, weigh_open, weigh_true, weigh_two, with_open_literal-not_satisfied}
use Rattle.sat_watch.proofs.examine.status_of.Goals.{in-False, in-Unset}
use Rattle.sat_watch.proofs.examine.status_of.Goals as goal

pub returns-in-Unresolved : goal.returns-in-Unresolved
returns-in-Unresolved c =
    let true_lits = lits c.args.trail.now.assignments in
    let P : ClauseStatus → Type 0 = λ j. HasStatus true_lits (take c.loop-lit.lit-index c.args.clause.now) j in
    weigh_two true_lits c.args.clause.now c.loop-lit.lit-index (subst P c.in-Unresolved.is c.loop-lit.invariant.0)

pub returns-in-True : goal.returns-in-True
returns-in-True c =
    weigh_true (lits c.args.trail.now.assignments) c.args.clause.now c.loop-lit.lit-index c.lit-item.result c.loop-lit-test.true c.lit-item.is (sym c.value.ensures ∙ c.in-True.is)

pub loop-lit-preserved : goal.loop-lit-preserved
loop-lit-preserved c =
    let true_lits = lits c.args.trail.now.assignments in
    let clause = c.args.clause.now in
    let i = c.loop-lit.lit-index in
    let lit = c.lit-item.result in
    let h = c.loop-lit.invariant in
    let P : ClauseStatus → Type 0 = λ j. HasStatus true_lits (take (i + 1) clause) j × IsNotSatisfied j in
    elim c.match-value.branch [
      | in-False w ↦ subst P (sym w.so_far-is) (weigh_false true_lits clause i lit c.loop-lit.so_far c.loop-lit-test.true c.lit-item.is (sym c.value.ensures ∙ w.in-False.is) h.0 h.1, h.1)
      | in-Unset w ↦ subst P (sym (w.so_far-is ∙ w.with_open_literal-so_far.ensures)) (weigh_open true_lits clause i lit c.loop-lit.so_far c.loop-lit-test.true c.lit-item.is (sym c.value.ensures ∙ w.in-Unset.is) h.0, with_open_literal-not_satisfied c.loop-lit.so_far lit h.1)
    ]

pub returns : goal.returns
returns c =
    let clause = c.args.clause.now in
    let P : List ℤ → Type 0 = λ ls. HasStatus (lits c.args.trail.now.assignments) ls c.loop-lit.so_far in
    let whole : length clause ≤ c.loop-lit.lit-index = (let over = c.loop-lit-test.false in omega arith) in
    subst P (take_all c.loop-lit.lit-index clause whole) c.loop-lit.invariant.0
