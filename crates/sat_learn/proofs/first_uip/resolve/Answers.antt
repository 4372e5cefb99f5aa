use Rattle.std.proofs.Common.{◌<◌, ◌++◌, ℤ, List, length, get_or, refl, ap, sym, ◌∙◌, subst}
use Rattle.std.specs.List.{All}
use Rattle.std.proofs.lemmas.List.Elements.{All-append, All-push}
use Rattle.std.proofs.lemmas.Option.{slice_get_within}
use Rattle.cnf_base.specs.Dimacs.{IsLiteral}
use Rattle.sat_learn.proofs.Assignments.{true_by}
use Rattle.sat_learn.proofs.LearnedLiterals.{false_literal}
use Rattle.sat_learn.proofs.MarkedLiterals.{has_at, literal_at}
use Rattle.sat_learn.proofs.first_uip.resolve.Goals as goal

pub returns-clause-met : goal.returns-clause-met
returns-clause-met c =
    let t = c.args.premises.now.trail in
    let trail = c.requires.explained.trail in
    let last = c.loop-analysis.invariant.last in
    let kept = c.loop-analysis.analysis.kept.items in
    let P : List ℤ → Type 0 = λ ls. All (IsLiteral t.vars) ls in
    let within : c.loop-analysis.at < length t.assignments = slice_get_within t.assignments c.loop-analysis.at last.assignment last.stands in
    let lit_in_range = literal_at t c.loop-analysis.at c.at-2.result trail within c.at-2.ensures in
    let kept_in_range : All (IsLiteral t.vars) kept = λ k d lt.
    let l = get_or kept k d in
    let between = c.loop-analysis.invariant.tracked.between l (has_at kept k l d lt refl) in
    false_literal t l trail (true_by t l between.level between.false_at) in
    subst P (sym (c.in_ok-extend_from_slice.ensures.items ∙ ap (λ ls. c.push-2.new.self.items ++ ls) c.deref.ensures.value))
    (All-append (IsLiteral t.vars) c.push-2.new.self.items kept
    (subst P (sym c.in_ok-push-2.ensures.items) (All-push (IsLiteral t.vars) c.loop-analysis.met.items c.at-2.result c.loop-analysis.invariant.met lit_in_range))
    kept_in_range)
