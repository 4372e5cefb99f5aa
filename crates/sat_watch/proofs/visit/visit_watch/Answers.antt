use Rattle.std.proofs.Common.{◌≡◌, ◌≢◌, ◌/◌, ◌<◌, true, ℤ, pos, neg_ℤ, Some, List, [], ◌∷◌, ◌++◌, length, get_or, refl, ap, sym, ◌∙◌, subst, rules}
use Rattle.std.proofs.lemmas.Bool.{both_ways}
use Rattle.std.proofs.lemmas.List.{get_or_default}
use Rattle.std.proofs.lemmas.Option.{slice_get_within}
use Rattle.cnf_base.specs.Status.{has, IsFalseIn}
use Rattle.sat_trail.specs.declared.clause_id.ClauseId.TheVariants as ids
use Rattle.sat_trail.specs.declared.truth.Value.TheVariants.{True, False, Unset}
use Rattle.sat_trail.specs.Trail.{TrailState, lits}
use Rattle.sat_watch.specs.Links.{watch_lits}
use Rattle.sat_watch.specs.Watching.{sibling}
use Rattle.sat_watch.proofs.Start.{in_vars, slot_within}
use Rattle.sat_watch.proofs.Choice.{free_from}
use Rattle.sat_watch.proofs.Units.{lits-append, ExtendsByUnits-one}
use Rattle.sat_watch.proofs.Visits.{IsFreeOf, free_of, StandsIn, stands_in, stands_within, own_lit, other_lit, all_false, unit_by_others}
use Rattle.sat_watch.proofs.Status.{in_last, value_true}
use Rattle.sat_watch.proofs.visit.visit_watch.Goals.{After-value-value, After-index-clause-at, In_default}
use Rattle.sat_watch.proofs.visit.visit_watch.Goals as goal

place_within : (c : After-value-value) → c.args.watch / 2 < length c.args.clauses.now
place_within c = stands_within c.args.clauses.now c.args.heads.now c.args.watches.now c.args.previous c.args.watch c.requires.sizes.two_each c.requires.stands

other_is : (c : After-value-value) → get_or (watch_lits c.args.watches.now) (sibling c.args.watch) (pos 0) ≡ (get_or c.args.watches.now c.sibling.result c.index-watches-sibling.result).lit
other_is c =
    let s = c.requires.stands in
    other_lit c.args.watches.now c.args.watch c.sibling.result (length c.args.clauses.now) c.index-watches-sibling.result c.sibling.ensures c.requires.sizes.two_each
    (slice_get_within c.args.watches.now c.args.watch s.watch s.here)

-- the clause, and the other literal in it
in_clause : (c : After-value-value) (clause : List ℤ) → clause ≡ get_or c.args.clauses.now (c.args.watch / 2) clause → StandsIn c.args.trail.now.vars c.args.clauses.now c.args.watches.now c.args.watch clause
in_clause c clause is =
    stands_in c.args.trail.now.vars c.args.clauses.now c.args.watches.now c.args.watch clause c.requires.clauses c.requires.pairs (place_within c) is

other_in : (c : After-value-value) (clause : List ℤ) → clause ≡ get_or c.args.clauses.now (c.args.watch / 2) clause → has clause (get_or c.args.watches.now c.sibling.result c.index-watches-sibling.result).lit ≡ true
other_in c clause is =
    let P : ℤ → Type 0 = λ l. has clause l ≡ true in subst P (other_is c) (in_clause c clause is).pair.second_in

pub returns-then-eq-clause-answer : goal.returns-then-eq-clause-answer
returns-then-eq-clause-answer c =
    let k = (goal.at.returns-then-eq-clause-answer c).After-value-value in
    let other = (get_or c.args.watches.now c.sibling.result c.index-watches-sibling.result).lit in
    let clause = get_or c.args.clauses.now (c.args.watch / 2) [] in
    let is : clause ≡ get_or c.args.clauses.now (c.args.watch / 2) clause = sym (get_or_default c.args.clauses.now (c.args.watch / 2) clause [] (place_within k)) in
    let is_true : c.value-value.result ≡ True = search rules in
    (refl, refl, (clause, (in_clause k clause is).there, (other, other_in k clause is, value_true (lits c.args.trail.now.assignments) other (sym c.value-value.ensures ∙ is_true))))

pub get-clause-requires : goal.get-clause-requires
get-clause-requires c = place_within (goal.at.get-clause-requires c).After-value-value

pub bounds-watches-watch : goal.bounds-watches-watch
bounds-watches-watch c = slice_get_within c.args.watches.now c.args.watch c.requires.stands.watch c.requires.stands.here

pub bounds-watches-watch-else-eq : goal.bounds-watches-watch-else-eq
bounds-watches-watch-else-eq c = slice_get_within c.args.watches.now c.args.watch c.requires.stands.watch c.requires.stands.here

pub find_free-requires : goal.find_free-requires
find_free-requires c =
    let k = (goal.at.find_free-requires c).After-value-value in
    λ i d lt. ((in_clause k c.get-clause.result.now c.get-clause.ensures.clause).book.in_range i d lt).variable

-- what was found, as it's read
found : (c : After-index-clause-at) → IsFreeOf (lits c.args.trail.now.assignments) c.get-clause.result.now (get_or c.args.watches.now c.sibling.result c.index-watches-sibling.result).lit c.index-clause-at.result
found c =
    let true_lits = lits c.args.trail.now.assignments in
    let clause = c.get-clause.result.now in
    let other = (get_or c.args.watches.now c.sibling.result c.index-watches-sibling.result).lit in
    let P : ℤ → Type 0 = λ l. IsFreeOf true_lits clause other l in
    subst P (sym c.index-clause-at.is) (free_of true_lits clause other c.in-Some.at c.index-clause-at.result c.in-Some.ensures)

nothing_found : (c : In_default) → (l : ℤ) → has c.get-clause.result.now l ≡ true → l ≢ (get_or c.args.watches.now c.sibling.result c.index-watches-sibling.result).lit → IsFalseIn (lits c.args.trail.now.assignments) l
nothing_found c = c.in_default.ensures

pub move_watch-requires-clause-in_range : goal.move_watch-requires-clause-in_range
move_watch-requires-clause-in_range c =
    let k = goal.at.move_watch-requires-clause-in_range c in
    let clause = c.get-clause.result.now in
    let here = in_clause k.After-value-value clause c.get-clause.ensures.clause in
    slot_within c.args.trail.now.vars clause c.index-clause-at.result c.args.heads.now c.requires.sizes.heads_room here.book (found k.After-index-clause-at).inside

pub move_watch-requires-clause-other : goal.move_watch-requires-clause-other
move_watch-requires-clause-other c x here same =
    let k = goal.at.move_watch-requires-clause-other c in
    let true_lits = lits c.args.trail.now.assignments in
    let P : ℤ → Type 0 = λ l. has true_lits (neg_ℤ l) ≡ true in
    let free = free_from c.args.trail.now c.index-clause-at.result c.is_well_formed.ensures (found k.After-index-clause-at).not_false in
    both_ways (has true_lits (neg_ℤ c.index-clause-at.result)) free (subst P (own_lit c.args.watches.now c.args.watch x here ∙ sym same) c.requires.falsified)

pub returns-in-Some-clause-answer : goal.returns-in-Some-clause-answer
returns-in-Some-clause-answer c =
    let k = goal.at.returns-in-Some-clause-answer c in
    let clause = c.get-clause.result.now in
    let f = found k.After-index-clause-at in
    record {
      clause = clause;
      is_clause = (in_clause k.After-value-value clause c.get-clause.ensures.clause).there;
      lit = c.index-clause-at.result;
      inside = f.inside;
      free = free_from c.args.trail.now c.index-clause-at.result c.is_well_formed.ensures f.not_false;
      differs = λ e. f.differs (e ∙ other_is k.After-value-value);
      linked = c.move_watch.ensures.linked;
      moved = c.move_watch.ensures.lits;
      taken_out = c.move_watch.ensures.from;
    }

pub returns-then-eq-2-clause-answer : goal.returns-then-eq-2-clause-answer
returns-then-eq-2-clause-answer c =
    let k = goal.at.returns-then-eq-2-clause-answer c in
    let clause = c.get-clause.result.now in
    let other = (get_or c.args.watches.now c.sibling.result c.index-watches-sibling.result).lit in
    let is_false : c.value-value.result ≡ False = search rules in
    (refl, refl, (clause, (in_clause k.After-value-value clause c.get-clause.ensures.clause).there, all_false (lits c.args.trail.now.assignments) clause other (sym c.value-value.ensures ∙ is_false) (nothing_found k.In_default)))

pub assume-requires-clause-in_range : goal.assume-requires-clause-in_range
assume-requires-clause-in_range c =
    let k = goal.at.assume-requires-clause-in_range c in
    let clause = c.get-clause.result.now in
    let here = in_clause k.After-value-value clause c.get-clause.ensures.clause in
    in_vars c.args.trail.now.vars clause (get_or c.args.watches.now c.sibling.result c.index-watches-sibling.result).lit here.book (other_in k.After-value-value clause c.get-clause.ensures.clause)

pub returns-clause-by_units : goal.returns-clause-by_units
returns-clause-by_units c =
    let k = goal.at.returns-clause-by_units c in
    let clause = c.get-clause.result.now in
    let other = (get_or c.args.watches.now c.sibling.result c.index-watches-sibling.result).lit in
    let is_open : c.value-value.result ≡ Unset = search rules in
    let unit = unit_by_others (lits c.args.trail.now.assignments) clause other (other_in k.After-value-value clause c.get-clause.ensures.clause) (sym c.value-value.ensures ∙ is_open) (nothing_found k.In_default) in
    ExtendsByUnits-one c.args.clauses.now c.args.trail.now c.assume.new.self (c.args.watch / 2) clause other (in_clause k.After-value-value clause c.get-clause.ensures.clause).there unit c.assume.ensures

pub returns-clause-answer : goal.returns-clause-answer
returns-clause-answer c =
    let k = goal.at.returns-clause-answer c in
    let clause = c.get-clause.result.now in
    let other = (get_or c.args.watches.now c.sibling.result c.index-watches-sibling.result).lit in
    let P : List ℤ → Type 0 = λ ls. has ls other ≡ true in
    let after : lits c.assume.new.self.assignments ≡ lits c.args.trail.now.assignments ++ other ∷ [] = ap (λ (t : TrailState). lits t.assignments) c.assume.ensures ∙ lits-append c.args.trail.now.assignments (record { lit = other; level = c.args.trail.now.level; reason = Some (ids.Book (c.args.watch / 2)) } ∷ []) in
    (refl, refl, (clause, (in_clause k.After-value-value clause c.get-clause.ensures.clause).there, (other, other_in k.After-value-value clause c.get-clause.ensures.clause, subst P (sym after) (in_last (lits c.args.trail.now.assignments) other))))
