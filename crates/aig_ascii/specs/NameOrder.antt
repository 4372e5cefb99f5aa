-- Names by their ranks: numbers that rise with the section, and in a section with the position.
use Rattle.std.specs.Prelude.{◌≡◌, ℕ, ◌+◌, ◌*◌, ◌^◌, ◌<◌, List, [], ◌++◌, map, length, get_or, All, AllPairs, ◌≢◌}
use Rattle.std.specs.List.{flat_map}
use Rattle.aig_model.specs.declared.parts.Place.{Place}
use Rattle.aig_model.specs.declared.parts.Place.TheVariants.{Input}
use Rattle.aig_model.specs.declared.parts.Named.{Named}
use Rattle.aig_ascii.specs.declared.writing.names.Ranked.{Ranked}
use Rattle.aig_ascii.specs.CircuitText.{section_of, position_of, symbol_text, AreInOrder}

abbrev pub rank_of : Place → ℕ
rank_of place = 2 ^ 32 * section_of place + position_of place

-- each name is for a place of its own, with a position below 2 ^ 32
pub record HaveOwnPlaces (names : List Named) : Type 0 where
  pub small : All (λ (n : Named). position_of n.place < 2 ^ 32) names
  pub apart : AllPairs (λ (m n : Named). m.place ≢ n.place) names

-- a name that stands nowhere
abbrev pub no_name : Named
no_name = record { place = Input 0; name = [] }

abbrev pub name_at : List Named → ℕ → Named
name_at names index = get_or names index no_name

abbrev pub no_rank : Ranked
no_rank = record { rank = 0; index = 0 }

-- the ranks of the first so many names
pub record AreRanks (names : List Named) (count : ℕ) (ranks : List Ranked) : Type 0 where
  pub size : length ranks ≡ count
  pub each : (k : ℕ) → k < count → get_or ranks k no_rank ≡ record { rank = rank_of (name_at names k).place; index = k }

-- the names that stand at the indices of these ranks
abbrev pub names_by : List Named → List Ranked → List Named
names_by names ranks = map (λ (r : Ranked). name_at names r.index) ranks

-- a line for each name is written at the end, in order
pub record WritesNames (names : List Named) (old new : List ℕ) : Type 0 where
  pub ordered : List Named
  pub order : AreInOrder names ordered
  pub is : new ≡ old ++ flat_map symbol_text ordered
