-- A new caller keeps a core sound, and a core in which nothing has happened is sound.
use Rattle.std.proofs.Common.{◌≡◌, ◌≢◌, ℕ, ◌+◌, ◌*◌, ◌<◌, ◌≤◌, cond, List, [], ◌∷◌, ◌++◌, length, replicate, refl, sym, subst, ◌∙◌, arith, Some, None, inl, inr, Option}
use Rattle.std.specs.Prelude.{slice_get, nat_lt}
use Rattle.std.proofs.lemmas.Bool.Decides.{nat_tests}
use Rattle.std.proofs.lemmas.Option.{same_Some, slice_get_within, get_or_from_slice_get, none-some}
use Rattle.std.proofs.lemmas.List.{length_push, length-replicate, get_or-replicate}
use Rattle.std.proofs.lemmas.List.Folds.{sum_by-replicate}
use Rattle.std.proofs.lemmas.List.Sums.{sum_by-append}
use Rattle.board_core.specs.declared.entry.Entry.{Entry}
use Rattle.board_core.specs.declared.view.GoalMark.{GoalMark}
use Rattle.board_core.specs.declared.view.View.{View}
use Rattle.board_core.specs.Core.{Core, CanSplit, fresh_view, initial_core, split}
use Rattle.board_core.specs.Good.{IsEntry, Knows, IsSound, times}
use Rattle.board_core.proofs.Places.{get-push_cases}
use Rattle.board_core.proofs.Views.{in_view}

-- a caller that has no entry knows nothing yet
knows-fresh : (history : List Entry) (marks : List (Option GoalMark)) (k : ℕ) → ((n : ℕ) (e : Entry) → IsEntry history n e → e.caller ≢ k) → Knows history marks k fresh_view
knows-fresh history marks k strange = record {
  known = λ e has. absurd (omega (arith, has.1));
  own = λ n e at own. absurd (strange n e at own);
  settled = λ g has. absurd (omega (arith, has.1));
  marked = λ n e at own. absurd (strange n e at own);
  unmarked = λ e is. absurd (none-some e is);
  front = omega arith;
  above = λ n e at own. absurd (strange n e at own);
}

pub split-sound : (c : Core) (k : ℕ) → CanSplit c k → IsSound c → IsSound (split c)
split-sound c k can s =
    let count : length (c.views ++ Some fresh_view ∷ []) ≡ length c.views + 1 = length_push c.views (Some fresh_view) in
    record {
      few = omega (arith, count, can.room);
      posted = λ n e at. (
          let p = s.posted n e at in
          record { number = p.number; caller = omega (arith, p.caller, count); goal = p.goal; low = p.low }
          );
      apart = s.apart;
      once = λ n. (
          let same : times n (c.views ++ Some fresh_view ∷ []) ≡ times n c.views + times n (Some fresh_view ∷ []) = sum_by-append (in_view n) c.views (Some fresh_view ∷ []) in
          let none : times n (Some fresh_view ∷ []) ≡ 0 = refl in
          same ∙ (let plus : times n c.views + times n (Some fresh_view ∷ []) ≡ times n c.views = omega (arith, none) in plus ∙ s.once n)
          );
      named = s.named;
      knows = λ j v at. elim (get-push_cases c.views (Some fresh_view) (Some v) j at) [
        | inl old ↦ s.knows j v old
        | inr is ↦ subst (λ (x : View). Knows c.history c.marks j x) (same_Some fresh_view v is.1)
            (knows-fresh c.history c.marks j (λ n e at own. omega (arith, (s.posted n e at).caller, own, is.0)))
      ];
      left = λ n e at spent. elim (get-push_cases c.views (Some fresh_view) None e.caller spent) [
        | inl old ↦ s.left n e at old
        | inr is ↦ absurd (none-some fresh_view (sym is.1))
      ];
    }

in_replicate : {A : Type 0} (n : ℕ) (x y : A) (k : ℕ) → slice_get (replicate n x) k ≡ Some y → x ≡ y
in_replicate n x y k at =
    let inside : k < n = omega (arith, slice_get_within (replicate n x) k y at, length-replicate n x) in
    sym (get_or-replicate n k x y inside) ∙ get_or_from_slice_get (replicate n x) k y y at

pub initial-sound : (callers goals : ℕ) → callers ≤ 8 → IsSound (initial_core callers goals)
initial-sound callers goals few = record {
  few = omega (arith, few, length-replicate callers (Some fresh_view));
  posted = λ n e at. absurd (none-some e at);
  apart = λ m n e f l at_e at_f same. absurd (none-some e at_e);
  once = λ n. (
      let zeros : times n (replicate callers (Some fresh_view)) ≡ callers * 0 = sum_by-replicate (in_view n) callers (Some fresh_view) in
      zeros ∙ (let none : callers * 0 ≡ cond (nat_lt n 0) 1 0 = grind (arith, nat_tests) in none)
      );
  named = λ g m at. absurd (none-some m (in_replicate goals None (Some m) g at));
  knows = λ k v at. subst (λ (x : View). Knows [] (replicate goals None) k x) (same_Some fresh_view v (in_replicate callers (Some fresh_view) (Some v) k at))
      (knows-fresh [] (replicate goals None) k (λ n e is. absurd (none-some e is)));
  left = λ n e at spent. absurd (none-some e at);
}
