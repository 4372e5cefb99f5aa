use Rattle.std.proofs.Common.{sym, ◌∙◌, ap, subst}
use Rattle.cnf_base.specs.Meaning.{IsWithin}
use Rattle.sat_incremental.specs.Entries.{Session, GrowsByClause}
use Rattle.sat_incremental.proofs.Ease.{ease_derivation}
use Rattle.sat_incremental.proofs.solver.Incremental.add.Goals as goal

pub give-requires-clause-ease : goal.give-requires-clause-ease
give-requires-clause-ease c = c.self.invariant c.if-not-self.false

pub give-requires-clause-in_range : goal.give-requires-clause-in_range
give-requires-clause-in_range c =
    let P : Session → Type 0 = λ s. IsWithin s.vars c.args.clause.now in
    subst P (sym c.self.view_is) c.requires

pub returns-clause-vars : goal.returns-clause-vars
returns-clause-vars c = c.in_ok-give.ensures.vars ∙ ap (λ (s : Session). s.vars) c.self.view_is

pub returns-clause-clause : goal.returns-clause-clause
returns-clause-clause c =
    let P : Session → Type 0 = λ s. GrowsByClause s.entries c.args.clause.now c.give.new.search.entries in
    subst P c.self.view_is c.in_ok-give.ensures.grows

pub returns-clause-derivation : goal.returns-clause-derivation
returns-clause-derivation c = ease_derivation c.give.new.search c.in_ok-give.ensures.ease
