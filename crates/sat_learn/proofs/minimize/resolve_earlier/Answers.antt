use Rattle.std.proofs.Common.{◌≡◌, ℕ, ◌<◌, Bool, true, false, ℤ, nat_abs, [], ◌∷◌, ◌++◌, List, set, get_or, ap, sym, ◌∙◌, subst, arith, rules}
use mir.Val.{SFits}
use mir.Syntax.{w64}
use Rattle.std.proofs.lemmas.Int.{to_z-of_z}
use Rattle.cnf_base.proofs.Literals.{nat_abs-neg_ℤ}
use Rattle.sat_learn.specs.declared.premises.Premises.{Premises}
use Rattle.sat_trail.specs.Trail.{Assignment}
use Rattle.sat_learn.specs.Resolving.{is_marked}
use Rattle.sat_learn.specs.Tracking.{IsTracked, IsFirstUip}
use Rattle.sat_learn.proofs.MarkedLiterals.{mark_in_range}
use Rattle.sat_learn.proofs.Steps.{IsStep, step_false, step_resolves}
use Rattle.sat_learn.proofs.Minimization.{antecedent_earlier, track_unmark_earlier, first_uip_stays}
use Rattle.sat_learn.proofs.minimize.resolve_earlier.Goals as goal

pub note_all-requires-clause-false_now : goal.note_all-requires-clause-false_now
note_all-requires-clause-false_now c l inside =
    let at = c.level_of_false.ensures in
    let p = at.assignment in
    let of_lit : nat_abs p.lit ≡ nat_abs c.args.lit = ap nat_abs at.negated ∙ nat_abs-neg_ℤ c.args.lit in
    let found = c.in-Some.found in
    step_false c.args.premises.now at.place p found.lits.now found.hint c.args.marks.now l c.requires.explained.trail at.stands (c.in-Some.ensures at.place p at.stands (of_lit ∙ sym c.var.ensures.size)) (ap (λ n. get_or c.args.marks.now n false) of_lit ∙ c.requires.marked) inside

-- what is known of the literal, which is of a level below the present one, and of its antecedent
record IsEarlierStep (s : Premises) (place : ℕ) (p : Assignment) (var : ℕ) (antecedent : List ℤ) (hint : ℤ) (old mid : List Bool) : Type 0 where
  whole : IsStep s place p var antecedent hint old mid
  below : p.level < s.trail.level
  marked : is_marked old p.lit ≡ true

step : (c : goal.After-var-in-Some) → IsEarlierStep c.args.premises.now c.level_of_false.ensures.place c.level_of_false.ensures.assignment c.var-in-Some.result c.in-Some.found.lits.now c.in-Some.found.hint c.args.marks.now c.note_all.new.marks
step c =
    let at = c.level_of_false.ensures in
    let p = at.assignment in
    let of_lit : nat_abs p.lit ≡ nat_abs c.args.lit = ap nat_abs at.negated ∙ nat_abs-neg_ℤ c.args.lit in
    let marked : is_marked c.args.marks.now p.lit ≡ true = ap (λ n. get_or c.args.marks.now n false) of_lit ∙ c.requires.marked in
    let small = mark_in_range c.args.marks.now p.lit marked in
    record {
      whole = record {
        trail = c.requires.explained.trail;
        stands = at.stands;
        of_var = c.var-in-Some.ensures.size ∙ sym of_lit;
        known = c.in-Some.ensures at.place p at.stands (of_lit ∙ sym c.var.ensures.size);
        room = omega (arith, small, c.note_all.auto.marks);
        noted = c.in_ok-note_all-in-Some.ensures.marks;
      };
      below = omega (arith, at.at_level, c.level.ensures, c.if-level_of_false-level.false);
      marked = marked;
    }

pub returns-in_ok-note_all-in-Some-clause-tracked : goal.returns-in_ok-note_all-in-Some-clause-tracked
returns-in_ok-note_all-in-Some-clause-tracked c =
    let t = c.args.premises.now.trail in
    let at = c.level_of_false.ensures in
    let known = step c in
    let mid = c.note_all.new.marks in
    let after = c.note_all.new.analysis in
    let P : ℕ → Type 0 = λ v. IsTracked t (set mid v false) after.kept.items after.root_lits.items after.open_count in
    subst P (sym known.whole.of_var) (track_unmark_earlier t mid after.kept.items after.root_lits.items after.open_count at.place at.assignment known.whole.trail c.in_ok-note_all-in-Some.ensures.tracked at.stands known.below known.whole.room)

pub returns-in_ok-note_all-in-Some-clause-count : goal.returns-in_ok-note_all-in-Some-clause-count
returns-in_ok-note_all-in-Some-clause-count c =
    let s = c.args.premises.now in
    let at = c.level_of_false.ensures in
    let found = c.in-Some.found in
    let known = step c in
    c.in_ok-note_all-in-Some.ensures.stays (antecedent_earlier s.book.clauses s.proof_ids.items s.trail c.args.marks.now at.place at.assignment found.lits.now found.hint known.whole.trail at.stands known.whole.known known.marked known.below)

pub returns-in_ok-note_all-in-Some-clause-first_uip : goal.returns-in_ok-note_all-in-Some-clause-first_uip
returns-in_ok-note_all-in-Some-clause-first_uip c place first_uip =
    let t = c.args.premises.now.trail in
    let at = c.level_of_false.ensures in
    let known = step c in
    let mid = c.note_all.new.marks in
    let P : ℕ → Type 0 = λ v. IsFirstUip t (set mid v false) place in
    subst P (sym known.whole.of_var) (first_uip_stays t c.args.marks.now mid c.in-Some.found.lits.now at.place at.assignment place known.whole.trail at.stands known.below known.whole.noted first_uip)

pub returns-in_ok-note_all-in-Some-clause-resolves : goal.returns-in_ok-note_all-in-Some-clause-resolves
returns-in_ok-note_all-in-Some-clause-resolves c =
    let at = c.level_of_false.ensures in
    let found = c.in-Some.found in
    let old_hints = c.args.analysis.now.hints.items in
    let new_hints = c.note_all.new.analysis.hints.items in
    let fits : SFits w64 found.hint = search rules in
    let pushed : new_hints ≡ old_hints ++ found.hint ∷ [] = ap (λ v. v.items) c.in_ok-note_all-in-Some.ensures.hints ∙ c.in_ok-push-in-Some.ensures.items ∙ ap (λ z. old_hints ++ z ∷ []) (to_z-of_z w64 found.hint fits) in
    step_resolves c.args.premises.now at.place at.assignment c.var-in-Some.result found.lits.now found.hint c.args.marks.now c.note_all.new.marks old_hints new_hints (step c).whole pushed
