-- How a link is numbered.
use Rattle.std.specs.Prelude.{◌≡◌, refl, ℕ, zero, suc, Option, None, Some}

-- 0 stands for none
abbrev pub numbered : ℕ → Option ℕ
numbered zero = None
numbered (suc n) = Some n

-- and back
abbrev pub number_of : Option ℕ → ℕ
number_of None = zero
number_of (Some n) = suc n

pub number_of-numbered : (n : ℕ) → number_of (numbered n) ≡ n
number_of-numbered zero = refl
number_of-numbered (suc n) = refl
