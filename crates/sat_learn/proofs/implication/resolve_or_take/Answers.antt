use Rattle.std.proofs.Common.{◌≡◌, ℕ, ◌<◌, false, ℤ, neg_ℤ, nat_abs, [], ◌∷◌, ◌++◌, length, set, get_or, ap, sym, ◌∙◌, subst, arith, rules}
use mir.Val.{SFits}
use mir.Syntax.{w64}
use Rattle.std.proofs.lemmas.Int.{to_z-of_z}
use Rattle.sat_learn.specs.Premises.{IsTracedIn}
use Rattle.sat_learn.specs.Resolving.{is_marked}
use Rattle.sat_learn.proofs.Antecedents.{lit_at}
use Rattle.sat_learn.proofs.Assignments.{assignment_at}
use Rattle.sat_learn.proofs.MarkedLiterals.{literal_at}
use Rattle.sat_learn.proofs.ResolveStep.{antecedent_in_range}
use Rattle.sat_learn.proofs.Implications.{traced_unmarked, traced_taken, traced_resolved}
use Rattle.sat_learn.proofs.implication.resolve_or_take.Goals as goal

pub returns-then-not-marks-var : goal.returns-then-not-marks-var
returns-then-not-marks-var c top p before h =
    let s = c.args.premises.now in
    let q = assignment_at s.trail.assignments c.args.place c.requires.within in
    let M : ℤ → Type 0 = λ l. is_marked c.args.marks.now l ≡ false in
    let unmarked : is_marked c.args.marks.now c.at-lit.result ≡ false = ap (λ n. get_or c.args.marks.now n false) (sym c.var.ensures.size) ∙ c.if-not-marks-var.true in
    traced_unmarked s.book.clauses s.proof_ids.items s.trail.assignments top p c.args.place q.0 c.args.marks.now c.args.taken.now.items c.args.hints.now.items q.1 (subst M (lit_at s.trail.assignments c.args.place q.0 c.at-lit.result q.1 c.at-lit.ensures) unmarked) h

pub mark_all-requires : goal.mark_all-requires
mark_all-requires c =
    let s = c.args.premises.now in
    let q = assignment_at s.trail.assignments c.args.place c.requires.within in
    let found = c.in-Some.found in
    antecedent_in_range s.book.clauses s.proof_ids.items s.trail c.args.place q.0 found.lits.now found.hint c.args.marks.now c.requires.explained.trail c.requires.room q.1 (c.in-Some.ensures c.args.place q.0 q.1 (ap nat_abs (sym (lit_at s.trail.assignments c.args.place q.0 c.at-lit.result q.1 c.at-lit.ensures)) ∙ sym c.var-2.ensures.size))

pub returns-in_ok-push-in-None : goal.returns-in_ok-push-in-None
returns-in_ok-push-in-None c top p before h =
    let s = c.args.premises.now in
    let q = assignment_at s.trail.assignments c.args.place c.requires.within in
    let old = c.args.taken.now.items in
    let lit_is = lit_at s.trail.assignments c.args.place q.0 c.at-lit.result q.1 c.at-lit.ensures in
    let pushed : c.push.new.self.items ≡ old ++ neg_ℤ q.0.lit ∷ [] = c.in_ok-push-in-None.ensures.items ∙ ap (λ l. old ++ l ∷ []) (c.negation.ensures ∙ ap neg_ℤ lit_is) in
    traced_taken s.book.clauses s.proof_ids.items s.trail.assignments top p c.args.place q.0 c.args.marks.now old c.push.new.self.items c.args.hints.now.items q.1 before (c.in-None.ensures c.args.place q.0 q.1 (ap nat_abs (sym (lit_at s.trail.assignments c.args.place q.0 c.at-lit.result q.1 c.at-lit.ensures)) ∙ sym c.var-2.ensures.size)) pushed h

pub returns-in_ok-push-in-Some : goal.returns-in_ok-push-in-Some
returns-in_ok-push-in-Some c top p before h =
    let s = c.args.premises.now in
    let q = assignment_at s.trail.assignments c.args.place c.requires.within in
    let found = c.in-Some.found in
    let old = c.args.hints.now.items in
    let lit_is = lit_at s.trail.assignments c.args.place q.0 c.at-lit.result q.1 c.at-lit.ensures in
    let var_is : c.var-in-Some.result ≡ nat_abs q.0.lit = c.var-in-Some.ensures.size ∙ ap nat_abs lit_is in
    let literal = literal_at s.trail c.args.place c.at-lit.result c.requires.explained.trail c.requires.within c.at-lit.ensures in
    let size = ap nat_abs lit_is in
    let room : nat_abs q.0.lit < length c.mark_all.new.marks = omega (arith, literal.variable, size, c.requires.room, c.mark_all.auto.marks) in
    let fits : SFits w64 found.hint = search rules in
    let pushed : c.push-in-Some.new.self.items ≡ old ++ found.hint ∷ [] = c.in_ok-push-in-Some.ensures.items ∙ ap (λ z. old ++ z ∷ []) (to_z-of_z w64 found.hint fits) in
    let V : ℕ → Type 0 = λ v. IsTracedIn s top p c.args.place (set c.mark_all.new.marks v false) c.args.taken.now.items c.push-in-Some.new.self.items in
    subst V (sym var_is)
    (traced_resolved s.book.clauses s.proof_ids.items s.trail top p c.args.place q.0 found.lits.now found.hint c.args.marks.now c.mark_all.new.marks c.args.taken.now.items old c.push-in-Some.new.self.items c.requires.explained.trail q.1 before (c.in-Some.ensures c.args.place q.0 q.1 (ap nat_abs (sym (lit_at s.trail.assignments c.args.place q.0 c.at-lit.result q.1 c.at-lit.ensures)) ∙ sym c.var-2.ensures.size)) room c.mark_all.ensures pushed h)
