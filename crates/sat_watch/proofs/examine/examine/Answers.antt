use Rattle.std.proofs.Common.{◌≡◌, ◌++◌, ◌∷◌, [], ℤ, Some, List, length, refl, ap, sym, ◌∙◌, subst, inl, inr}
use Rattle.std.proofs.lemmas.Option.{slice_get_read}
use Rattle.std.proofs.lemmas.List.Elements.{All-get_or}
use Rattle.cnf_base.specs.Dimacs.{IsLiteral}
use Rattle.sat_trail.specs.Trail.{TrailState, lits}
use Rattle.sat_watch.specs.Book.{IsBookClause}
use Rattle.sat_watch.specs.Scanning.{Rests}
use Rattle.sat_watch.proofs.Rests.{of_literal, Rests-forced, RestsAt-from, unset_from_open}
use Rattle.sat_trail.specs.declared.clause_id.ClauseId.TheVariants as ids
use Rattle.sat_watch.proofs.Units.{lits-append, ExtendsByUnits-one}
use Rattle.sat_watch.proofs.examine.examine.Goals as goal

pub assume-requires-clause-in_range : goal.assume-requires-clause-in_range
assume-requires-clause-in_range c =
    let clause = c.get.result.now in
    let vars = c.args.trail.now.vars in
    let unit = c.in-Unit.ensures in
    let P : List ℤ → Type 0 = λ ls. IsBookClause vars ls in
    let book = subst P (sym c.get.ensures.clause) (All-get_or (IsBookClause vars) c.args.clauses.now c.args.place clause c.requires.in_range c.requires.clauses) in
    (of_literal (IsLiteral vars) clause c.in-Unit.lit book.in_range unit.inside).variable

pub assume-requires-clause-unset : goal.assume-requires-clause-unset
assume-requires-clause-unset c =
    let clause = c.get.result.now in
    let unit = c.in-Unit.ensures in
    unset_from_open (lits c.args.trail.now.assignments) c.in-Unit.lit unit.open_here

pub returns-in-Falsified-clause-answer : goal.returns-in-Falsified-clause-answer
returns-in-Falsified-clause-answer c =
    let clause = c.get.result.now in
    let there = slice_get_read c.args.clauses.now (length c.args.clauses.now) c.args.place clause refl c.requires.in_range c.get.ensures.clause in
    (clause, there, c.in-Falsified.ensures)

pub returns-in-Unit-clause-by_units : goal.returns-in-Unit-clause-by_units
returns-in-Unit-clause-by_units c =
    let clause = c.get.result.now in
    let there = slice_get_read c.args.clauses.now (length c.args.clauses.now) c.args.place clause refl c.requires.in_range c.get.ensures.clause in
    let unit = c.in-Unit.ensures in
    ExtendsByUnits-one c.args.clauses.now c.args.trail.now c.assume.new.self c.args.place clause c.in-Unit.lit there unit c.assume.ensures

pub returns-in-Unit-clause-answer : goal.returns-in-Unit-clause-answer
returns-in-Unit-clause-answer c =
    let clause = c.get.result.now in
    let there = slice_get_read c.args.clauses.now (length c.args.clauses.now) c.args.place clause refl c.requires.in_range c.get.ensures.clause in
    let unit = c.in-Unit.ensures in
    let forced = Rests-forced (lits c.args.trail.now.assignments) (lits c.args.trail.now.assignments) clause c.in-Unit.lit unit in
    let P : List ℤ → Type 0 = λ ls. Rests ls (lits c.args.trail.now.assignments) clause in
    let after : lits c.assume.new.self.assignments ≡ lits c.args.trail.now.assignments ++ c.in-Unit.lit ∷ [] = ap (λ (t : TrailState). lits t.assignments) c.assume.ensures ∙ lits-append c.args.trail.now.assignments (record { lit = c.in-Unit.lit; level = c.args.trail.now.level; reason = Some (ids.Book c.args.place) } ∷ []) in
    RestsAt-from c.args.clauses.now (lits c.assume.new.self.assignments) (lits c.args.trail.now.assignments) clause c.args.place there (subst P (sym after) forced)

pub returns-in-Satisfied-clause-answer : goal.returns-in-Satisfied-clause-answer
returns-in-Satisfied-clause-answer c =
    let clause = c.get.result.now in
    let there = slice_get_read c.args.clauses.now (length c.args.clauses.now) c.args.place clause refl c.requires.in_range c.get.ensures.clause in
    RestsAt-from c.args.clauses.now (lits c.args.trail.now.assignments) (lits c.args.trail.now.assignments) clause c.args.place there (inl c.in-Satisfied.ensures)

pub returns-in-Unresolved-clause-answer : goal.returns-in-Unresolved-clause-answer
returns-in-Unresolved-clause-answer c =
    let clause = c.get.result.now in
    let there = slice_get_read c.args.clauses.now (length c.args.clauses.now) c.args.place clause refl c.requires.in_range c.get.ensures.clause in
    RestsAt-from c.args.clauses.now (lits c.args.trail.now.assignments) (lits c.args.trail.now.assignments) clause c.args.place there (inr c.in-Unresolved.ensures)
