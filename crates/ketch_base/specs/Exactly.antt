-- Where an answer comes: there and nowhere else, but that out of memory, a fault of its own, may come in its place.
use Rattle.std.specs.Prelude.{◌≡◌, ◌⊎◌, Result, Err, IsOk}

pub record OkExactly {T E : Type 0} (out_of_memory : E) (result : Result T E) (Cause : Type 0) : Type 0 where
  pub only : IsOk result → Cause
  pub comes : Cause → IsOk result ⊎ (result ≡ Err out_of_memory)

pub record ErrExactly {T E : Type 0} (out_of_memory : E) (result : Result T E) (fault : E) (Cause : Type 0) : Type 0 where
  pub only : result ≡ Err fault → Cause
  pub comes : Cause → (result ≡ Err fault) ⊎ (result ≡ Err out_of_memory)

-- the answer of a call that has only this one beside out of memory
abbrev pub Answers : {T E : Type 0} → E → Result T E → Result T E → Type 0
Answers out_of_memory result answer = (result ≡ answer) ⊎ (result ≡ Err out_of_memory)
