-- The greatest invariant among some clauses: all that some subset has which is an invariant.
use Rattle.std.specs.Prelude.{◌≡◌, ◌⊎◌, ◌↔◌, ℤ, List, [], ◌∷◌, All, Contains}
use Rattle.aig_model.specs.LatchClauses.{IsInvariant}
use Rattle.aig_model.specs.declared.parts.Parts.{Parts}

-- some of a list's clauses, in their order
abbrev pub IsPart : List (List ℤ) → List (List ℤ) → Type 0
IsPart [] [] = Unit {0}
IsPart [] (y ∷ all) = Unit {0}
IsPart (x ∷ part) [] = ⊥
IsPart (x ∷ part) (y ∷ all) = ((x ≡ y) × IsPart part all) ⊎ IsPart (x ∷ part) all

-- the clauses of a list that have a property, in their order
pub record ArePicked (P : List ℤ → Type 0) (all picked : List (List ℤ)) : Type 0 where
  pub part : IsPart picked all
  pub hold : All P picked
  pub whole : (clause : List ℤ) → Contains all clause → P clause → Contains picked clause

-- some of the candidates hold at reset, are kept by every legal step before which they hold, and have this clause among them
pub record IsInGreatest (c : Parts) (candidates : List (List ℤ)) (clause : List ℤ) : Type 0 where
  pub subset : List (List ℤ)
  pub among : All (Contains candidates) subset
  pub invariant : IsInvariant c subset
  pub has : Contains subset clause

-- The clauses of all such subsets and no others, in the order of the candidates.
pub record IsGreatest (c : Parts) (candidates clauses : List (List ℤ)) : Type 0 where
  pub part : IsPart clauses candidates
  pub exactly : (clause : List ℤ) → Contains clauses clause ↔ IsInGreatest c candidates clause

-- Candidates, in their order, that have all of these clauses and maybe others.
pub record ContainsGreatest (c : Parts) (candidates clauses : List (List ℤ)) : Type 0 where
  pub part : IsPart clauses candidates
  pub all : (clause : List ℤ) → IsInGreatest c candidates clause → Contains clauses clause
