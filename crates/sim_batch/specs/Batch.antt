-- Batches: 64 lanes that start together, whose inputs are the bits of one stream of random words.
use Rattle.std.specs.Prelude.{◌≡◌, ℕ, ◌+◌, ◌*◌, Bool, true, false, Option, None, Some, List, [], ◌∷◌, ◌++◌, length, map, slice_get}
use Rattle.std.specs.List.{range_with_len}
use Rattle.aig_model.specs.declared.parts.Latch.{Latch}
use Rattle.aig_model.specs.declared.parts.Reset.{Reset}
use Rattle.aig_model.specs.declared.parts.Reset.TheVariants.{Zero, One, Free}
use Rattle.aig_model.specs.declared.parts.Parts.{Parts}
use Rattle.aig_model.specs.declared.trace.Trace.{Trace}
use Rattle.sim_walk.specs.Walk.{Lane}
use Rattle.sim_batch.specs.Seeds.{SeedState}
use Rattle.sim_batch.specs.Words.{lane_bit}

-- ---- the start
-- how many random bits a latch takes
abbrev pub free_bits : Reset → ℕ
free_bits Zero = 0
free_bits One = 0
free_bits Free = 1

abbrev pub free_count : List Latch → ℕ
free_count [] = 0
free_count (l ∷ latches) = free_bits l.reset + free_count latches

abbrev pub start_value : Reset → Bool → Bool
start_value Zero bit = false
start_value One bit = true
start_value Free bit = bit

-- the reset state whose free latches have these bits, one each in latch order, from number n on
abbrev pub reset_state : (ℕ → Bool) → ℕ → List Latch → List Bool
reset_state bits n [] = []
reset_state bits n (l ∷ latches) = start_value l.reset (bits n) ∷ reset_state bits (n + free_bits l.reset) latches

-- ---- the rows
-- the row at step t: one bit an input, in the order of steps and then of inputs, after the first `skip` bits
abbrev pub row_of_bits : (ℕ → Bool) → ℕ → ℕ → ℕ → List Bool
row_of_bits bits skip inputs t = map bits (range_with_len (skip + t * inputs) inputs)

-- ---- the lanes
-- the start of a lane with these bits: from reset the first ones go to the free latches; a seed's state takes none
abbrev pub lane_start : Parts → Option SeedState → (ℕ → Bool) → List Bool
lane_start c None bits = reset_state bits 0 c.latches
lane_start c (Some from) bits = from.state

-- the number of bits before those of the inputs
abbrev pub start_bits : Parts → Option SeedState → ℕ
start_bits c None = free_count c.latches
start_bits c (Some from) = 0

-- the lane with these bits
abbrev pub lane_with : Parts → Option SeedState → (ℕ → Bool) → Lane
lane_with c from bits = record { start = lane_start c from bits; row = row_of_bits bits (start_bits c from) (length c.inputs) }

-- the 64 lanes of a batch from reset, or from a seed
unfoldable pub lanes_of : Parts → ℕ → ℕ → Option SeedState → List Lane
lanes_of c seed batch from = map (λ j. lane_with c from (lane_bit seed batch j)) (range_with_len 0 64)

-- the seed belongs to the circuit
abbrev pub BelongsTo : Parts → Option SeedState → Type 0
BelongsTo c None = Unit {0}
BelongsTo c (Some from) = from.circuit ≡ c

-- ---- traces from reset
-- where the way to a lane's start begins, and the rows that lead there
abbrev pub first_start : Option SeedState → List Bool → List Bool
first_start None own = own
first_start (Some from) own = from.start

abbrev pub first_rows : Option SeedState → List (List Bool)
first_rows None = []
first_rows (Some from) = from.rows.rows

-- the first `count` rows of a lane
abbrev pub lane_rows : Lane → ℕ → List (List Bool)
lane_rows lane count = map lane.row (range_with_len 0 count)

-- lane j's trace up to step t, whole from reset: a seed's rows, and then the lane's
pub record IsLaneTrace (c : Parts) (from : Option SeedState) (lanes : List Lane) (j t : ℕ) (trace : Trace) : Type 0 where
  pub lane : Lane
  pub place : slice_get lanes j ≡ Some lane
  pub start : trace.start ≡ first_start from lane.start
  pub width : trace.rows.width ≡ length c.inputs
  pub rows : trace.rows.rows ≡ first_rows from ++ lane_rows lane (t + 1)
