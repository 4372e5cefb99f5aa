-- A watch that became false, its clause and the clause's other watch.
use Rattle.std.proofs.Common.{◌≡◌, ◌≢◌, ℕ, suc, ◌*◌, ◌/◌, ◌<◌, true, ℤ, pos, Option, None, Some, MatchOption, List, [], ◌∷◌, length, get_or, ap, sym, ◌∙◌, subst, arith, inl, inr}
use Rattle.std.specs.List.{slice_get, All}
use Rattle.std.proofs.lemmas.Bool.{cases_Bool, or_cases}
use Rattle.std.proofs.lemmas.Option.{slice_get-get_or, slice_get_within, get_or_from_slice_get}
use Rattle.cnf_base.specs.Status.{same_lit, has, IsFalseIn, IsFalsifiedIn, IsUnitIn}
use Rattle.cnf_base.proofs.Literals.{same_lit-true, same_lit-apart}
use Rattle.sat_trail.specs.declared.truth.Value.TheVariants.{False, Unset}
use Rattle.sat_trail.specs.Trail.{value_in}
use Rattle.sat_trail.proofs.LiteralValues.{unset_says}
use Rattle.sat_watch.specs.declared.links.Watch.{Watch}
use Rattle.sat_watch.specs.Book.{IsBookClause}
use Rattle.sat_watch.specs.Kept.{IsPair, Each}
use Rattle.sat_watch.specs.Links.{watch_lits, StandsBehind}
use Rattle.sat_watch.specs.Watching.{sibling, IsFreeAt}
use Rattle.sat_watch.proofs.Choice.{has_at}
use Rattle.sat_watch.proofs.Pairs.{at_watch, sibling-within, lit_read}
use Rattle.sat_watch.proofs.Watches.{IsPair-swap}
use Rattle.sat_watch.proofs.Status.{value_false}

-- where a clause has a literal
pub has_place : (ls : List ℤ) (l : ℤ) → has ls l ≡ true → (j : ℕ) × (slice_get ls j ≡ Some l)
has_place [] l h = cc
has_place (m ∷ ms) l h =
    elim (or_cases (same_lit m l) (has ms l) h) [
      | inl e ↦ (0, ap Some (same_lit-true m l e))
      | inr e ↦ (let later = has_place ms l e in (suc later.0, later.1))
    ]

-- another fact of the case in which nothing is found
pub when_none : (found : Option ℕ) (A B : Type 0) (P : ℕ → Type 0) → (A → B) → MatchOption found A P → MatchOption found B P
when_none None A B P f h = f h
when_none (Some n) A B P f h = h

-- the literal that was found, as it's read
pub record IsFreeOf (true_lits clause : List ℤ) (other l : ℤ) : Type 0 where
  pub inside : has clause l ≡ true
  pub not_false : value_in true_lits l ≢ False
  pub differs : l ≢ other

pub free_of : (true_lits clause : List ℤ) (other : ℤ) (place : ℕ) (d : ℤ) → IsFreeAt true_lits clause other place → IsFreeOf true_lits clause other (get_or clause place d)
free_of true_lits clause other place d h =
    let P : ℤ → Type 0 = λ l. IsFreeOf true_lits clause other l in
    let Q : ℤ → Type 0 = λ l. has clause l ≡ true in
    let is = get_or_from_slice_get clause place h.lit d h.there in
    subst P (sym is) (record { inside = subst Q is (has_at clause place d h.within); not_false = h.not_false; differs = h.differs })

-- the clause of a watch
pub record StandsIn (vars : ℕ) (clauses : List (List ℤ)) (watches : List Watch) (w : ℕ) (clause : List ℤ) : Type 0 where
  pub there : slice_get clauses (w / 2) ≡ Some clause
  pub book : IsBookClause vars clause
  pub pair : IsPair clause (get_or (watch_lits watches) w (pos 0)) (get_or (watch_lits watches) (sibling w) (pos 0))

pub stands_in : (vars : ℕ) (clauses : List (List ℤ)) (watches : List Watch) (w : ℕ) (clause : List ℤ) → All (IsBookClause vars) clauses → Each IsPair clauses (watch_lits watches) → w / 2 < length clauses → clause ≡ get_or clauses (w / 2) clause → StandsIn vars clauses watches w clause
stands_in vars clauses watches w clause book pairs lt is =
    let there : slice_get clauses (w / 2) ≡ Some clause = slice_get-get_or clauses (w / 2) clause lt ∙ ap Some (sym is) in
    let P : List ℤ → Type 0 = λ ls. IsBookClause vars ls in
    record {
      there = there;
      book = subst P (sym is) (book (w / 2) clause lt);
      pair = at_watch IsPair (watch_lits watches) clause w IsPair-swap (pairs (w / 2) clause there);
    }

pub stands_within : (clauses : List (List ℤ)) (heads : List (Option ℕ)) (watches : List Watch) (previous : Option ℕ) (w : ℕ) → length watches ≡ 2 * length clauses → StandsBehind heads watches previous w → w / 2 < length clauses
stands_within clauses heads watches previous w two s =
    let lt : w < length watches = slice_get_within watches w s.watch s.here in omega arith

-- the literal of the watch itself, and of the other one
pub own_lit : (watches : List Watch) (w : ℕ) (x : Watch) → slice_get watches w ≡ Some x → get_or (watch_lits watches) w (pos 0) ≡ x.lit
own_lit watches w x here =
    lit_read watches w x (slice_get_within watches w x here) ∙ ap (λ (y : Watch). y.lit) (get_or_from_slice_get watches w x x here)

pub other_lit : (watches : List Watch) (w s n : ℕ) (d : Watch) → s ≡ sibling w → length watches ≡ 2 * n → w < length watches → get_or (watch_lits watches) (sibling w) (pos 0) ≡ (get_or watches s d).lit
other_lit watches w s n d is two lt =
    let within : sibling w < length watches = (let P : ℕ → Type 0 = λ m. sibling w < m in subst P (sym two) (sibling-within w n (omega arith))) in
    lit_read watches (sibling w) d within ∙ ap (λ i. (get_or watches i d).lit) (sym is)

-- all others are false: so the clause is false where the last one is, and unit where it is open
pub all_false : (true_lits clause : List ℤ) (other : ℤ) → value_in true_lits other ≡ False → ((l : ℤ) → has clause l ≡ true → l ≢ other → IsFalseIn true_lits l) → IsFalsifiedIn true_lits clause
all_false true_lits clause other value others l there =
    elim (cases_Bool (same_lit l other)) [
      | inl e ↦ (let P : ℤ → Type 0 = λ x. IsFalseIn true_lits x in subst P (sym (same_lit-true l other e)) (value_false true_lits other value))
      | inr e ↦ others l there (same_lit-apart l other e)
    ]

pub unit_by_others : (true_lits clause : List ℤ) (other : ℤ) → has clause other ≡ true → value_in true_lits other ≡ Unset → ((l : ℤ) → has clause l ≡ true → l ≢ other → IsFalseIn true_lits l) → IsUnitIn true_lits clause other
unit_by_others true_lits clause other there value others =
    record { inside = there; open_here = unset_says true_lits other value; others = others }
