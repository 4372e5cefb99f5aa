-- The clauses where the walk along the trail begins.
use Rattle.std.proofs.Common.{◌≡◌, ℕ, ◌≤◌, ℤ, Option, List, ◌++◌, length, take, drop, ap, sym, ◌∙◌, subst, inl, inr}
use Rattle.std.proofs.lemmas.Bool.{cases_lt}
use Rattle.std.proofs.lemmas.List.{append_assoc, take-append-drop}
use Rattle.sat_trail.specs.Trail.{TrailState, lits, IsTrail}
use Rattle.sat_watch.specs.declared.links.Watch.{Watch}
use Rattle.sat_watch.specs.Book.{ExtendsByUnits}
use Rattle.sat_watch.specs.Kept.{IsWatched, first_lit, second_lit, EachBefore, EachFrom}
use Rattle.sat_watch.specs.Links.{watch_lits}
use Rattle.sat_watch.specs.Scanning.{RestsAt}
use Rattle.sat_watch.specs.Watching.{IsChosen, AreWatchedBelow, AreWatchedTo}
use Rattle.sat_watch.proofs.Units.{lits-append}
use Rattle.sat_watch.proofs.Walks.{take_grown, below_grown}
use Rattle.sat_watch.proofs.Watches.{IsWatched-more, IsWatched-fewer, watched_where_rests}

-- those that were looked at before by their watches, and the new ones since they were looked at whole
pub watched_at_begin : (clauses : List (List ℤ)) (heads : List (Option ℕ)) (watches : List Watch) (old new : TrailState) (from start : ℕ) → IsTrail old → ExtendsByUnits clauses old new → start ≤ length old.assignments → AreWatchedBelow clauses heads watches old → EachBefore from (IsWatched (take start (lits old.assignments)) (take start (lits old.assignments))) clauses (watch_lits watches) → EachFrom from (IsChosen old.assignments) clauses (watch_lits watches) → ((place : ℕ) → from ≤ place → RestsAt clauses (lits new.assignments) (lits old.assignments) place) → AreWatchedTo clauses heads watches new start
watched_at_begin clauses heads watches old new from start trail s le below before chosen rests =
    let begun = take start (lits old.assignments) in
    let same : take start (lits new.assignments) ≡ begun = take_grown old.assignments new.assignments s.more start s.assignments le in
    let whole : lits new.assignments ≡ begun ++ (drop start (lits old.assignments) ++ lits s.more) =
    ap lits s.assignments ∙ lits-append old.assignments s.more ∙ ap (λ ls. ls ++ lits s.more) (sym (take-append-drop start (lits old.assignments))) ∙ append_assoc begun (drop start (lits old.assignments)) (lits s.more) in
    record {
      before = below_grown clauses heads watches old new s below;
      here = λ place c there. (let a = first_lit (watch_lits watches) place in
          let b = second_lit (watch_lits watches) place in
          let P : List ℤ → Type 0 = λ ls. IsWatched (lits new.assignments) ls c a b in
          let Q : List ℤ → Type 0 = λ ls. IsWatched ls begun c a b in
          subst P (sym same) (elim (cases_lt place from) [
            | inl lt ↦ subst Q (sym whole) (IsWatched-more begun (drop start (lits old.assignments) ++ lits s.more) begun c a b (before place c lt there))
            | inr ge ↦ IsWatched-fewer (lits new.assignments) begun (drop start (lits old.assignments)) c a b
                (subst P (sym (take-append-drop start (lits old.assignments))) (watched_where_rests old (lits new.assignments) c a b trail (chosen place c ge there) (rests place ge c there)))
          ]));
    }
