use Rattle.std.proofs.Common.{refl, sym, ◌∙◌, ap, subst}
use Rattle.cnf_base.specs.Meaning.{IsWithin}
use Rattle.sat_incremental.specs.Entries.{Session, IsDerivation, GrowsByLemmas}
use Rattle.sat_incremental.specs.Outcomes.{IsOutcome}
use Rattle.sat_incremental.specs.declared.outcome.Outcome.TheVariants.{Core}
use Rattle.sat_incremental.proofs.Derivations.{grows-nothing}
use Rattle.sat_incremental.proofs.Ease.{ease_derivation, ease_open, ease_refuted, core_refuted}
use Rattle.sat_incremental.proofs.solver.Incremental.solve_under.Goals as goal

pub returns-in-Some-clause-lemmas : goal.returns-in-Some-clause-lemmas
returns-in-Some-clause-lemmas c = (0, grows-nothing _ _ refl)

pub returns-in-Some-clause-derivation : goal.returns-in-Some-clause-derivation
returns-in-Some-clause-derivation c =
    let P : Session → Type 0 = λ s. IsDerivation s.entries in
    subst P c.self.view_is (ease_derivation c.self.inside.search (c.self.invariant c.if-not-self.false))

pub returns-in-Some-clause-outcome : goal.returns-in-Some-clause-outcome
returns-in-Some-clause-outcome c =
    let P : Session → Type 0 = λ s. IsOutcome c.args.assumptions.now s (Core c.in-Some.id) in
    subst P c.self.view_is (core_refuted c.self.inside.search c.in-Some.id c.args.assumptions.now (ease_refuted c.self.inside.search c.in-Some.id (c.self.invariant c.if-not-self.false) c.in-Some.is))

pub ask-requires-clause-search : goal.ask-requires-clause-search
ask-requires-clause-search c = ease_open c.self.inside.search (c.self.invariant c.if-not-self.false) c.in_default.is

pub ask-requires-clause-in_range : goal.ask-requires-clause-in_range
ask-requires-clause-in_range c =
    let P : Session → Type 0 = λ s. IsWithin s.vars c.args.assumptions.now in
    subst P (sym c.self.view_is) c.requires

pub returns-clause-vars : goal.returns-clause-vars
returns-clause-vars c = c.in_ok-outcome.ensures.extends.vars ∙ ap (λ (s : Session). s.vars) c.self.view_is

pub returns-clause-lemmas : goal.returns-clause-lemmas
returns-clause-lemmas c =
    let extends = c.in_ok-outcome.ensures.extends in
    let P : Session → Type 0 = λ s. GrowsByLemmas s.entries extends.number c.ask.new.search.entries in
    (extends.number, subst P c.self.view_is extends.grows)

pub returns-clause-derivation : goal.returns-clause-derivation
returns-clause-derivation c = ease_derivation c.ask.new.search c.in_ok-outcome.ensures.ease

pub returns-clause-spent : goal.returns-clause-spent
returns-clause-spent c is =
    let P : Session → Type 0 = λ s. GrowsByLemmas s.entries c.args.lemmas c.ask.new.search.entries in
    subst P c.self.view_is (c.in_ok-outcome.ensures.spent is)
