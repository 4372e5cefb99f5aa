-- The clauses that are tried: over one latch or two of those on which the signals depend.
use Rattle.std.specs.Prelude.{ℕ, zero, suc, ◌≡◌, ◌<◌, ◌≤◌, ◌⊎◌, ℤ, pos, negsuc, List, [], ◌∷◌, ◌++◌, length, All, Contains}
use Rattle.std.specs.List.{flat_map}
use Rattle.std.specs.List.Sorted.{IsStrictlyIncreasing}
use Rattle.aig_model.specs.Dependence.{DependsOnLatch}
use Rattle.aig_model.specs.declared.parts.Parts.{Parts}

-- ---- latches
-- the greatest number of latches that candidates speak of
abbrev pub most_latches : ℕ
most_latches = 24

-- The first of the latches on which the signals depend, in latch order, as many as there may be: one that is left out
-- stands behind all of a full list.
pub record AreFirstDependent (c : Parts) (sig : List ℕ) (latches : List ℕ) : Type 0 where
  pub rising : IsStrictlyIncreasing latches
  pub few : length latches ≤ most_latches
  pub dependent : All (DependsOnLatch c sig) latches
  pub whole : (k : ℕ) → DependsOnLatch c sig k → Contains latches k ⊎ ((length latches ≡ most_latches) × All (λ j. j < k) latches)

-- ---- clauses
-- latch k is true
abbrev pub is_true : ℕ → ℤ
is_true k = pos (suc k)

-- latch k is false
abbrev pub is_false : ℕ → ℤ
is_false k = negsuc k

abbrev pub single_clauses : ℕ → List (List ℤ)
single_clauses k = (is_true k ∷ []) ∷ (is_false k ∷ []) ∷ []

abbrev pub pair_clauses : ℕ → ℕ → List (List ℤ)
pair_clauses j k =
    (is_true j ∷ is_true k ∷ []) ∷ (is_true j ∷ is_false k ∷ []) ∷ (is_false j ∷ is_true k ∷ []) ∷ (is_false j ∷ is_false k ∷ []) ∷ []

-- each latch with each later one of the list
abbrev pub clauses_of_pairs : List ℕ → List (List ℤ)
clauses_of_pairs [] = []
clauses_of_pairs (j ∷ ks) = flat_map (pair_clauses j) ks ++ clauses_of_pairs ks

-- strength 0 has no clause, strength 1 those of one latch, strength 2 also those of two
abbrev pub clauses_over : List ℕ → ℕ → List (List ℤ)
clauses_over latches zero = []
clauses_over latches (suc zero) = flat_map single_clauses latches
clauses_over latches (suc (suc n)) = flat_map single_clauses latches ++ clauses_of_pairs latches

-- the whole list, in its order
pub record AreCandidates (c : Parts) (sig : List ℕ) (strength : ℕ) (clauses : List (List ℤ)) : Type 0 where
  pub latches : List ℕ
  pub dependent : AreFirstDependent c sig latches
  pub list : clauses ≡ clauses_over latches strength
