-- The watches at the start of propagation.
use Rattle.std.proofs.Common.{◌≡◌, ℕ, ◌+◌, ◌*◌, ◌/◌, ◌<◌, ◌≤◌, true, ℤ, pos, negsuc, nat_abs, Option, Some, List, [], length, get_or, subst, arith, inl, inr}
use Rattle.std.specs.List.{slice_get, All}
use Rattle.std.proofs.lemmas.Bool.{cases_lt}
use Rattle.std.proofs.lemmas.Option.{slice_get-get_or, get_or_from_slice_get, slice_get_within}
use Rattle.cnf_base.specs.Dimacs.{IsLiteral}
use Rattle.cnf_base.specs.Status.{has}
use Rattle.sat_trail.specs.Trail.{Assignment, TrailState, lits, upto, IsTrail}
use Rattle.sat_watch.specs.declared.links.Watch.{Watch}
use Rattle.sat_watch.specs.Book.{IsBookClause, NoneFalseBelow, NoneUnitBelow}
use Rattle.sat_watch.specs.Kept.{IsPair, IsWatched, first_lit, second_lit, Each, EachBefore, EachFrom}
use Rattle.sat_watch.specs.Links.{AreLinked, watch_lits}
use Rattle.cnf_base.specs.Literal.{lit_index}
use Rattle.sat_watch.specs.Watching.{IsChosen, AreWatchedBelow}
use Rattle.sat_watch.proofs.Pairs.{at_watch, lit_read}
use Rattle.sat_watch.proofs.Rests.{IsQuiet, of_literal}
use Rattle.sat_watch.proofs.Watches.{IsPair-swap, watched_by_choice}

slot_small : (l : ℤ) → lit_index l ≤ 2 * nat_abs l + 1
slot_small (pos n) = omega arith
slot_small (negsuc n) = omega arith

pub in_vars : (vars : ℕ) (clause : List ℤ) (l : ℤ) → IsBookClause vars clause → has clause l ≡ true → nat_abs l ≤ vars
in_vars vars clause l book there = (of_literal (IsLiteral vars) clause l book.in_range there).variable

-- the list of a clause's literal is there
pub slot_within : (vars : ℕ) (clause : List ℤ) (l : ℤ) (heads : List (Option ℕ)) → length heads ≡ 2 * vars + 2 → IsBookClause vars clause → has clause l ≡ true → lit_index l < length heads
slot_within vars clause l heads room book there =
    omega (arith, slot_small l, in_vars vars clause l book there)

pub chosen_in_range : (vars : ℕ) (clauses : List (List ℤ)) (heads : List (Option ℕ)) (watches : List Watch) (assignments : List Assignment) → length heads ≡ 2 * vars + 2 → length watches ≡ 2 * length clauses → All (IsBookClause vars) clauses → Each (IsChosen assignments) clauses (watch_lits watches) → All (λ (w : Watch). lit_index w.lit < length heads) watches
chosen_in_range vars clauses heads watches assignments room two book chosen w d lt =
    let place = w / 2 in
    let clause = get_or clauses place [] in
    let within : place < length clauses = omega arith in
    let there : slice_get clauses place ≡ Some clause = slice_get-get_or clauses place [] within in
    let pair = at_watch IsPair (watch_lits watches) clause w IsPair-swap (chosen place clause there).pair in
    let P : ℤ → Type 0 = λ l. lit_index l < length heads in
    subst P (lit_read watches w d lt) (slot_within vars clause (get_or (watch_lits watches) w (pos 0)) heads room (book place [] within) pair.first_in)

pub begin_below : (clauses : List (List ℤ)) (heads : List (Option ℕ)) (watches : List Watch) (t : TrailState) (from : ℕ) → IsTrail t → AreLinked heads watches → EachBefore from IsPair clauses (watch_lits watches) → ((k : ℕ) → k < t.level → EachBefore from (IsWatched (lits (upto k t.assignments)) (lits (upto k t.assignments))) clauses (watch_lits watches)) → EachFrom from (IsChosen t.assignments) clauses (watch_lits watches) → NoneFalseBelow clauses t → NoneUnitBelow clauses t → AreWatchedBelow clauses heads watches t
begin_below clauses heads watches t from trail linked pairs below chosen none_false none_unit =
    record {
      linked = linked;
      pairs = λ place clause there. elim (cases_lt place from) [
        | inl lt ↦ pairs place clause lt there
        | inr ge ↦ (chosen place clause ge there).pair
      ];
      below = λ k lt place clause there. elim (cases_lt place from) [
        | inl before ↦ below k lt place clause before there
        | inr ge ↦ (let within = slice_get_within clauses place clause there in
            let same = get_or_from_slice_get clauses place clause clause there in
            let C : List ℤ → Type 0 = λ c. IsQuiet (lits (upto k t.assignments)) c in
            let quiet = subst C same (record { not_false = none_false k lt place clause within; not_unit = none_unit k lt place clause within }) in
            watched_by_choice t k clause (first_lit (watch_lits watches) place) (second_lit (watch_lits watches) place) trail (chosen place clause ge there) quiet)
      ];
    }
