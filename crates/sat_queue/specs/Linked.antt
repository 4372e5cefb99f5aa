-- How the list is kept: the variable after each one and the one before it, in a ring that 0 closes.
use Rattle.std.specs.Prelude.{◌≡◌, ℕ, zero, suc, ◌+◌, ◌≤◌, cond, nat_eq, Option, None, Some, List, [], ◌∷◌, length, reverse, slice_index}
use Rattle.sat_queue.specs.Order.{IsOrder}

-- the variables that are met from one on, up to 0 or so many
abbrev pub walk : List ℕ → ℕ → ℕ → List ℕ
walk next zero v = []
walk next (suc n) v = cond (nat_eq v 0) [] (v ∷ walk next n (slice_index next v))

-- the list that the links hold: the link of 0 leads to the first
abbrev pub list_of : List ℕ → List ℕ
list_of next = walk next (length next) (slice_index next 0)

-- the links lead from one variable through these to another
abbrev pub Leads : List ℕ → ℕ → List ℕ → ℕ → Type 0
Leads links from [] to = slice_index links from ≡ to
Leads links from (v ∷ vs) to = (slice_index links from ≡ v) × Leads links v vs to

-- 0 stands for none
abbrev pub named : ℕ → Option ℕ
named v = cond (nat_eq v 0) None (Some v)

pub record IsRing (next prev list : List ℕ) : Type 0 where
  pub few : length list ≤ 4000000
  pub next_room : length next ≡ length list + 1
  pub prev_room : length prev ≡ length list + 1
  pub order : IsOrder list
  pub forward : Leads next 0 list 0
  pub backward : Leads prev 0 (reverse list) 0
