-- What stands at the front of some bytes, where a delta must stand.
use Rattle.std.specs.Prelude.{◌≡◌, ◌≤◌, ℕ, true, false, Result, Ok, Err, List, length}
use Rattle.aig_binary.specs.Deltas.{delta_bytes, delta_value, is_cut, is_short}
use Rattle.aig_binary.specs.declared.delta.Delta.{Delta}
use Rattle.aig_binary.specs.declared.delta.NoDelta.{NoDelta}
use Rattle.aig_binary.specs.declared.delta.NoDelta.TheVariants.{Cut, Long}

-- a delta of at most five bytes, and no more than the bytes
pub record IsDelta (bytes : List ℕ) (d : Delta) : Type 0 where
  pub short : is_short bytes ≡ true
  pub value : d.value ≡ delta_value bytes
  pub size : d.size ≡ length (delta_bytes bytes)
  pub within : d.size ≤ length bytes

-- more than five bytes
pub record IsLong (bytes : List ℕ) : Type 0 where
  pub uncut : is_cut bytes ≡ false
  pub long : is_short bytes ≡ false

abbrev pub IsFront : List ℕ → Result Delta NoDelta → Type 0
IsFront bytes (Ok d) = IsDelta bytes d
IsFront bytes (Err Cut) = is_cut bytes ≡ true
IsFront bytes (Err Long) = IsLong bytes
