use Rattle.std.proofs.Common.{◌≡◌, ℕ, ℤ, Option, Some, None, List, [], ◌∷◌, ◌++◌, refl, ap, sym, ◌∙◌, subst}
use Rattle.std.specs.Option.{MatchOption}
use Rattle.lrat_text.specs.Standing.{clause_at}
use Rattle.sat_solver.proofs.Growth.{clause_at-append}
use Rattle.sat_incremental.specs.declared.entry.Entry.{Entry}
use Rattle.sat_incremental.specs.declared.entry.Entry.TheVariants.{Given}
use Rattle.sat_incremental.specs.Entries.{live, IsDerivation}
use Rattle.sat_incremental.specs.Searching.{IsSearch, IsRefuted}
use Rattle.sat_incremental.proofs.Derivations.{derivation-given, live-push}
use Rattle.sat_incremental.proofs.give.give.Goals as goal

pub give_open-requires-clause-search : goal.give_open-requires-clause-search
give_open-requires-clause-search c =
    let s = c.args.search.now in
    let M : Option ℕ → Type 0 = λ r. MatchOption r (IsSearch s) (λ id. IsRefuted s id) in
    subst M c.in-None.is c.requires.ease

pub returns-in_ok-push-in-Some-clause-ease : goal.returns-in_ok-push-in-Some-clause-ease
returns-in_ok-push-in-Some-clause-ease c =
    let s = c.args.search.now in
    let id = c.in-Some.field-0 in
    let M : Option ℕ → Type 0 = λ r. MatchOption r (IsSearch s) (λ x. IsRefuted s x) in
    let h = subst M c.in-Some.is c.requires.ease in
    let entry = Given c.args.clause.now in
    let entries_are : c.push.new.self ≡ s.entries ++ entry ∷ [] = c.in_ok-push-in-Some.ensures.ok ∙ ap (λ ls. s.entries ++ Given ls ∷ []) (c.in_ok-own-in-Some.ensures ∙ c.as_slice.ensures) in
    let D : List Entry → Type 0 = λ entries. IsDerivation entries in
    let L : List Entry → Type 0 = λ entries. clause_at (live entries) id ≡ Some [] in
    let P : List (ℕ × List ℤ) → Type 0 = λ ps. clause_at ps id ≡ Some [] in
    let now : IsRefuted (record s { entries = c.push.new.self }) id = record {
      few_vars = h.few_vars;
      derivation = subst D (sym entries_are) (derivation-given s.entries c.args.clause.now h.derivation);
      empty = subst L (sym entries_are) (subst P (sym (live-push s.entries entry)) (clause_at-append (live s.entries) _ id [] h.empty));
    } in
    let N : Option ℕ → Type 0 = λ r. MatchOption r (IsSearch (record s { entries = c.push.new.self })) (λ x. IsRefuted (record s { entries = c.push.new.self }) x) in
    subst N (sym c.in-Some.is) now

pub returns-in_ok-push-in-Some-clause-grows : goal.returns-in_ok-push-in-Some-clause-grows
returns-in_ok-push-in-Some-clause-grows c =
    let s = c.args.search.now in
    ([], c.in_ok-push-in-Some.ensures.ok ∙ ap (λ ls. s.entries ++ Given ls ∷ []) (c.in_ok-own-in-Some.ensures ∙ c.as_slice.ensures), tt)
