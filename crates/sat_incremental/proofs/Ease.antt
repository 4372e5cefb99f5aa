-- What is known of a search between two questions.
use Rattle.std.proofs.Common.{◌≡◌, ℕ, ℤ, Option, Some, None, List, [], sym, subst}
use Rattle.std.specs.Option.{MatchOption}
use Rattle.sat_incremental.specs.declared.search.Search.{Search}
use Rattle.sat_incremental.specs.declared.outcome.Outcome.TheVariants.{Core}
use Rattle.sat_incremental.specs.Entries.{IsDerivation}
use Rattle.sat_incremental.specs.Outcomes.{IsOutcome}
use Rattle.sat_incremental.specs.Searching.{IsSearch, IsRefuted, IsAtEase, session}

derivation_by : (s : Search) (refuted : Option ℕ) → MatchOption refuted (IsSearch s) (λ id. IsRefuted s id) → IsDerivation s.entries
derivation_by s None h = h.derivation
derivation_by s (Some id) h = h.derivation

-- its entries are a derivation
pub ease_derivation : (s : Search) → IsAtEase s → IsDerivation s.entries
ease_derivation s h = derivation_by s s.refuted h

-- before the empty clause has followed
pub ease_open : (s : Search) → IsAtEase s → s.refuted ≡ None → IsSearch s
ease_open s h none = let M : Option ℕ → Type 0 = λ r. MatchOption r (IsSearch s) (λ id. IsRefuted s id) in subst M none h

-- and after
pub ease_refuted : (s : Search) (id : ℕ) → IsAtEase s → s.refuted ≡ Some id → IsRefuted s id
ease_refuted s id h some = let M : Option ℕ → Type 0 = λ r. MatchOption r (IsSearch s) (λ x. IsRefuted s x) in subst M some h

-- the empty clause is a core whatever is assumed
pub core_refuted : (s : Search) (id : ℕ) (assumptions : List ℤ) → IsRefuted s id → IsOutcome assumptions (session s) (Core id)
core_refuted s id assumptions h = ([], h.empty, λ l inside. cc)

-- a search for which the empty clause hasn't followed is at ease
pub ease_search : (s : Search) → IsSearch s → s.refuted ≡ None → IsAtEase s
ease_search s h none = let M : Option ℕ → Type 0 = λ r. MatchOption r (IsSearch s) (λ id. IsRefuted s id) in
    subst M (sym none) h
