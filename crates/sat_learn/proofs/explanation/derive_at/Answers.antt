use Rattle.std.proofs.Common.{rules, ◌≡◌, ℕ, ◌<◌, ℤ, List, Bool, [], ◌∷◌, ◌++◌, true, false, neg_ℤ, nat_abs, length, set, get_or, ap, sym, ◌∙◌, subst, arith, inl, inr}
use mir.Val.{SFits}
use mir.Syntax.{w64}
use Rattle.std.proofs.lemmas.Int.{to_z-of_z}
use Rattle.std.proofs.lemmas.List.{get_or-set_same}
use Rattle.sat_trail.proofs.Levels.{length-upto-le}
use Rattle.sat_learn.specs.Premises.{IsFoundIn}
use Rattle.sat_learn.specs.Reasons.{Follows}
use Rattle.sat_learn.specs.Resolving.{is_marked}
use Rattle.sat_learn.proofs.Antecedents.{lit_at}
use Rattle.sat_learn.proofs.MarkedLiterals.{literal_at}
use Rattle.sat_learn.proofs.RootLevel.{upto_at}
use Rattle.sat_learn.proofs.ResolveStep.{forced_at_root, antecedent_false}
use Rattle.sat_learn.proofs.Explanations.{lit_stands, one_marked, explained_ends}
use Rattle.sat_learn.proofs.explanation.derive_at.Goals as goal

pub antecedent_of-own-requires-clause-forced : goal.antecedent_of-own-requires-clause-forced
antecedent_of-own-requires-clause-forced c =
    let t = c.args.premises.now.trail in
    let at = upto_at 0 0 t.assignments t.level c.args.place c.requires.explained.trail.climbs c.requires.at_root in
    let low = at.2 in
    forced_at_root t c.args.place at.0 c.requires.explained.trail at.1 (omega arith)

pub at-requires : goal.at-requires
at-requires c =
    let few = length-upto-le 0 c.args.premises.now.trail.assignments in
    omega (arith, c.requires.at_root)

pub mark-requires-clause-in_range : goal.mark-requires-clause-in_range
mark-requires-clause-in_range c =
    let t = c.args.premises.now.trail in
    let few = length-upto-le 0 t.assignments in
    let lt : c.args.place < length t.assignments = omega (arith, c.requires.at_root) in
    let literal = literal_at t c.args.place c.at.result c.requires.explained.trail lt c.at.ensures in
    omega (arith, literal.variable, c.requires.room)

pub derive_all-requires-clause-known : goal.derive_all-requires-clause-known
derive_all-requires-clause-known c l inside =
    let t = c.args.premises.now.trail in
    let few = length-upto-le 0 t.assignments in
    let lt : c.args.place < length t.assignments = omega (arith, c.requires.at_root) in
    let literal = literal_at t c.args.place c.at.result c.requires.explained.trail lt c.at.ensures in
    let at = upto_at 0 0 t.assignments t.level c.args.place c.requires.explained.trail.climbs c.requires.at_root in
    let found = c.antecedent_of-own.result in
    let room : nat_abs c.at.result < length c.args.marks.now = omega (arith, literal.variable, c.requires.room) in
    elim (antecedent_false c.args.premises.now.book.clauses c.args.premises.now.proof_ids.items t c.args.place at.0 found.lits.now found.hint l c.requires.explained.trail at.1 (c.antecedent_of-own.ensures at.0 at.1) inside) [
      | inl e ↦ (let same : nat_abs l ≡ nat_abs c.at.result = ap nat_abs (e ∙ sym (lit_at t.assignments c.args.place at.0 c.at.result at.1 c.at.ensures)) in
          inl (ap (λ ms. is_marked ms l) c.in_ok-mark.ensures.marks
          ∙ ap (λ n. get_or (set c.args.marks.now (nat_abs c.at.result) true) n false) same
          ∙ get_or-set_same c.args.marks.now (nat_abs c.at.result) true false room))
      | inr e ↦ inr e
    ]

pub returns-clause-follows : goal.returns-clause-follows
returns-clause-follows c whole live l has_id is =
    let t = c.args.premises.now.trail in
    let at = upto_at 0 0 t.assignments t.level c.args.place c.requires.explained.trail.climbs c.requires.at_root in
    let p = at.0 in
    let there = at.1 in
    let E : ℤ → Type 0 = λ x. Follows live (neg_ℤ x ∷ []) c.push.new.self.items in
    let few = length-upto-le 0 t.assignments in
    let lt : c.args.place < length t.assignments = omega (arith, c.requires.at_root) in
    let literal = literal_at t c.args.place c.at.result c.requires.explained.trail lt c.at.ensures in
    let room : nat_abs c.at.result < length c.args.marks.now = omega (arith, literal.variable, c.requires.room) in
    let lit_is = lit_at t.assignments c.args.place p c.at.result there c.at.ensures in
    let found = c.antecedent_of-own.result in
    let start = c.mark.new.marks in
    let marks_are = c.in_ok-mark.ensures.marks in
    let M : List Bool → Type 0 = λ ms. (v : ℕ) → get_or ms v false ≡ true → v ≡ nat_abs p.lit in
    let alone : M start = subst M (sym marks_are) (λ v k. one_marked c.args.marks.now (nat_abs c.at.result) v c.requires.unmarked k ∙ ap nat_abs lit_is) in
    let here : is_marked start p.lit ≡ true = ap (λ ms. is_marked ms p.lit) marks_are ∙ ap (λ l. get_or (set c.args.marks.now (nat_abs c.at.result) true) (nat_abs l) false) (sym lit_is) ∙ get_or-set_same c.args.marks.now (nat_abs c.at.result) true false room in
    let none : c.mark.new.derivation.hints.items ≡ [] = ap (λ v. v.items) c.in_ok-mark.ensures.hints ∙ c.requires.new.0 in
    let hints = c.derive_all.new.derivation.hints.items in
    let F : List ℤ → Type 0 = λ hs. IsFoundIn c.args.premises.now found.lits.now start hs c.derive_all.new.marks hints in
    let fits : SFits w64 found.hint = search rules in
    let pushed : c.push.new.self.items ≡ hints ++ found.hint ∷ [] = c.in_ok-push.ensures.items ∙ ap (λ z. hints ++ z ∷ []) (to_z-of_z w64 found.hint fits) in
    subst E (lit_stands t.assignments c.args.place p l there is)
    (explained_ends c.args.premises.now.book.clauses c.args.premises.now.proof_ids.items t c.args.place p found.lits.now found.hint start c.derive_all.new.marks hints c.push.new.self.items live c.requires.explained.trail there (c.antecedent_of-own.ensures p there) has_id alone here (subst F none c.in_ok-whole.ensures.found) (c.in_ok-whole.ensures.marked whole) pushed)
