use Rattle.std.proofs.Common.{◌≡◌, ℕ, ◌+◌, ◌-◌, ◌<◌, true, false, eqb, ℤ, neg_ℤ, nat_abs, List, [], ◌∷◌, ◌++◌, length, set, get_or, map, ap, sym, ◌∙◌, subst, arith, rules}
use mir.Val.{SFits, to_z, of_z}
use mir.Syntax.{w64}
use Rattle.std.proofs.lemmas.Int.{to_z-of_z}
use Rattle.std.specs.List.{list_any}
use Rattle.std.specs.Option.{IsSome}
use Rattle.std.proofs.lemmas.Bool.{or_left, or_right}
use Rattle.std.proofs.lemmas.List.{length-set, get_or-set_same}
use Rattle.std.proofs.lemmas.Option.{slice_get_within}
use Rattle.cnf_base.specs.Status.{has}
use Rattle.sat_trail.specs.Trail.{Assignment, lits}
use Rattle.sat_learn.specs.Reasons.{Follows}
use Rattle.sat_learn.specs.Premises.{IsTracedIn}
use Rattle.sat_learn.specs.Resolving.{is_marked}
use Rattle.sat_learn.proofs.Assignments.{true_there, true_literal, one_assignment}
use Rattle.sat_learn.proofs.ResolveStep.{any_from, antecedent_in_range}
use Rattle.sat_learn.proofs.Implications.{traced_first, traced_follows}
use Rattle.sat_learn.proofs.implication.trace.Goals as goal

pub place_of-top-requires : goal.place_of-top-requires
place_of-top-requires c =
    let t = c.args.premises.now.trail in
    let at = c.requires.implied in
    let H : ℤ → Type 0 = λ l. has (lits t.assignments) l ≡ true in
    subst H at.3 (true_there t.assignments at.0 at.1 at.2)

pub antecedent_of-own-requires-clause-forced : goal.antecedent_of-own-requires-clause-forced
antecedent_of-own-requires-clause-forced c =
    let t = c.args.premises.now.trail in
    let at = c.requires.implied in
    let found = c.place_of-top.ensures in
    let one = one_assignment t at.0 c.place_of-top.result at.1 found.0 c.requires.explained.trail at.2 found.1 (ap nat_abs (at.3 ∙ sym found.2)) in
    let S : Assignment → Type 0 = λ p. IsSome p.reason in
    record { assignment = found.0; stands = found.1; forced = subst S one at.4 }

pub bounds-marks-var : goal.bounds-marks-var
bounds-marks-var c =
    let t = c.args.premises.now.trail in
    let found = c.place_of-top.ensures in
    let H : ℤ → Type 0 = λ l. has (lits t.assignments) l ≡ true in
    let literal = true_literal t c.args.lit c.requires.explained.trail (subst H found.2 (true_there t.assignments c.place_of-top.result found.0 found.1)) in
    omega (arith, literal.variable, c.var.ensures.size, c.requires.room)

pub mark_all-requires : goal.mark_all-requires
mark_all-requires c =
    let s = c.args.premises.now in
    let found = c.place_of-top.ensures in
    let own = c.antecedent_of-own.result in
    let marks = set c.args.marks.now c.var.result true in
    antecedent_in_range s.book.clauses s.proof_ids.items s.trail c.place_of-top.result found.0 own.lits.now own.hint marks c.requires.explained.trail (length-set c.args.marks.now c.var.result true ∙ c.requires.room) found.1 (c.antecedent_of-own.ensures found.0 found.1)

pub loop-place-init : goal.loop-place-init
loop-place-init c =
    let s = c.args.premises.now in
    let found = c.place_of-top.ensures in
    let p = found.0 in
    let own = c.antecedent_of-own.result in
    let marks = set c.args.marks.now c.var.result true in
    let fits : SFits w64 own.hint = search rules in
    let H : ℤ → Type 0 = λ l. has (lits s.trail.assignments) l ≡ true in
    let literal = true_literal s.trail c.args.lit c.requires.explained.trail (subst H found.2 (true_there s.trail.assignments c.place_of-top.result p found.1)) in
    let room : c.var.result < length c.args.marks.now = omega (arith, literal.variable, c.var.ensures.size, c.requires.room) in
    let var_is : nat_abs p.lit ≡ c.var.result = ap nat_abs found.2 ∙ sym c.var.ensures.size in
    let set_here : get_or marks (nat_abs p.lit) false ≡ true = ap (λ n. get_or marks n false) var_is ∙ get_or-set_same c.args.marks.now c.var.result true false room in
    let marked : is_marked c.mark_all.new.marks p.lit ≡ true = c.mark_all.ensures (nat_abs p.lit) ∙ or_left (get_or marks (nat_abs p.lit) false) (list_any (eqb (nat_abs p.lit)) (map nat_abs own.lits.now)) set_here in
    let all_marked : (m : ℤ) → has own.lits.now m ≡ true → is_marked c.mark_all.new.marks m ≡ true = λ m inside.
    c.mark_all.ensures (nat_abs m) ∙ or_right (get_or marks (nat_abs m) false) (list_any (eqb (nat_abs m)) (map nat_abs own.lits.now)) (any_from own.lits.now m inside) in
    let ls_are : c.push.new.self.items ≡ p.lit ∷ [] = c.in_ok-push.ensures.items ∙ ap (λ xs. xs ++ c.args.lit ∷ []) c.new-taken.ensures.items ∙ ap (λ l. l ∷ []) (sym found.2) in
    let hints_are : c.push-2.new.self.items ≡ own.hint ∷ [] = c.in_ok-push-2.ensures.items ∙ ap (λ xs. xs ++ to_z w64 (of_z w64 own.hint) ∷ []) c.new-hints.ensures.items ∙ ap (λ z. z ∷ []) (to_z-of_z w64 own.hint fits) in
    record {
      within = omega arith;
      room = c.mark_all.auto.marks ∙ length-set c.args.marks.now c.var.result true ∙ c.requires.room;
      traced = (p, found.2, traced_first s.book.clauses s.proof_ids.items s.trail c.place_of-top.result p own.lits.now own.hint c.mark_all.new.marks c.push.new.self.items c.push-2.new.self.items c.requires.explained.trail found.1 (c.antecedent_of-own.ensures p found.1) marked all_marked ls_are hints_are);
    }

pub resolve_or_take-requires-clause-within : goal.resolve_or_take-requires-clause-within
resolve_or_take-requires-clause-within c =
    let found = c.place_of-top.ensures in
    let lt = slice_get_within c.args.premises.now.trail.assignments c.place_of-top.result found.0 found.1 in
    omega (arith, c.loop-place.invariant.within, c.loop-place-test.true)

pub loop-place-preserved : goal.loop-place-preserved
loop-place-preserved c =
    let s = c.args.premises.now in
    let before = c.loop-place.invariant in
    let next : c.loop-place.place ≡ c.loop-place.place - 1 + 1 = omega (arith, c.loop-place-test.true) in
    let lt : c.loop-place.place - 1 < c.place_of-top.result = omega (arith, before.within, c.loop-place-test.true) in
    let p = before.traced.0 in
    let T : ℕ → Type 0 = λ n. IsTracedIn s c.place_of-top.result p n c.loop-place.marks c.loop-place.taken.items c.loop-place.hints.items in
    record {
      within = omega (arith, before.within);
      room = c.resolve_or_take.auto.marks ∙ before.room;
      traced = (p, before.traced.1, c.in_ok-resolve_or_take.ensures c.place_of-top.result p lt (subst T next before.traced.2));
    }

pub returns-clause-follows : goal.returns-clause-follows
returns-clause-follows c live has_id =
    let s = c.args.premises.now in
    let traced = c.loop-place.invariant.traced in
    let zero : c.loop-place.place ≡ 0 = omega (arith, c.loop-place-test.false) in
    let T : ℕ → Type 0 = λ n. IsTracedIn s c.place_of-top.result traced.0 n c.loop-place.marks c.loop-place.taken.items c.loop-place.hints.items in
    let F : List ℤ → Type 0 = λ hs. Follows live (map neg_ℤ c.loop-place.taken.items) hs in
    subst F (sym c.in_order.ensures) (traced_follows s.book.clauses s.proof_ids.items s.trail.assignments c.place_of-top.result traced.0 c.loop-place.marks c.loop-place.taken.items c.loop-place.hints.items live has_id (subst T zero traced.2))
