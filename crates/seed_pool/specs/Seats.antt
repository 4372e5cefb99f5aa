-- Pools and seats, as contracts see them.
use Rattle.std.specs.Prelude.{◌≡◌, ◌≢◌, ℕ, ◌++◌, List, [], All, length, slice_get, Some}
use Rattle.atomic_table.specs.Seated.{TableId}
use Rattle.aig_model.specs.declared.parts.Parts.{Parts}

-- a pool: no other has its table; its seeds are of this circuit; it has so many callers
pub record PoolState : Type 0 where
  pub table : TableId
  pub circuit : Parts
  pub callers : ℕ

-- a seat: the table and the circuit of its pool, what its caller put and took, in order, and of each of its claim steps the cell and the
-- word that it found there
pub record PoolSeatState (S : Type 0) : Type 0 where
  pub table : TableId
  pub circuit : Parts
  pub put : List S
  pub taken : List S
  pub tried : List (ℕ × ℕ)

-- the seats at hand, and how many seats the list was made with
pub record PoolSeatsState (S : Type 0) : Type 0 where
  pub seats : List (PoolSeatState S)
  pub room : ℕ

-- the seat is one of the pool's
pub record IsSeatOf {S : Type 0} (pool : PoolState) (seat : PoolSeatState S) : Type 0 where
  pub table : seat.table ≡ pool.table
  pub circuit : seat.circuit ≡ pool.circuit

-- a caller that has done nothing yet
pub record IsNew {S : Type 0} (seat : PoolSeatState S) : Type 0 where
  pub put : seat.put ≡ []
  pub taken : seat.taken ≡ []
  pub tried : seat.tried ≡ []

-- the seats are all those of the pool, in any order
pub record AreAllOf {S : Type 0} (pool : PoolState) (s : PoolSeatsState S) : Type 0 where
  pub of_pool : All (λ (seat : PoolSeatState S). IsSeatOf pool seat) s.seats
  pub count : length s.seats ≡ pool.callers
  pub room : s.room ≡ pool.callers

-- n claim steps more were made, at the cells from 0 on in order, and none of them found this word
pub record Missed (word n : ℕ) (old new : List (ℕ × ℕ)) : Type 0 where
  pub more : List (ℕ × ℕ)
  pub grew : new ≡ old ++ more
  pub count : length more ≡ n
  pub each : (k : ℕ) (p : ℕ × ℕ) → slice_get more k ≡ Some p → (p.0 ≡ k) × (p.1 ≢ word)

-- claim steps may have been added
abbrev pub Grows : List (ℕ × ℕ) → List (ℕ × ℕ) → Type 0
Grows old new = (more : List (ℕ × ℕ)) × (new ≡ old ++ more)
