-- The order in which places are placed: again and again the least one of which all that it uses are placed.
use Rattle.std.specs.Prelude.{ℕ, ◌+◌, ◌-◌, ◌<◌, ◌≤◌, ◌≡◌, Bool, ◌&&◌, nat_eq, nat_lt, nat_le, min, List, length, get_or, take, All, sum, sum_by}
use Rattle.aig_model.specs.Literal.{number}

-- how often a number stands in a list
unfoldable pub times : ℕ → List ℕ → ℕ
times n list = sum_by (λ m. number (nat_eq m n)) list

-- whether a place uses another one
abbrev pub is_user : List ℕ → ℕ → ℕ → Bool
is_user uses place user = nat_eq (get_or uses user 0) (place + 1)

-- whether it is among the users from a place on
abbrev pub is_user_from : ℕ → List ℕ → ℕ → ℕ → Bool
is_user_from first uses place user = nat_le first user && is_user uses place user

-- 1 where a use names a place that isn't placed yet
abbrev pub blocked : List ℕ → ℕ → ℕ
blocked placed named = min 1 named - times (named - 1) placed

-- of how many inputs a place waits for the gate
abbrev pub waits_of : List ℕ → List ℕ → List ℕ → ℕ → ℕ
waits_of left right placed user = blocked placed (get_or left user 0) + blocked placed (get_or right user 0)

-- ---- orders
-- the place waits for nothing, and is the least such one that isn't placed
pub record IsNextPlace (left right placed : List ℕ) (place : ℕ) : Type 0 where
  pub ready : waits_of left right placed place ≡ 0
  pub least : (other : ℕ) → other < length left → times other placed ≡ 0 → waits_of left right placed other ≡ 0 → place ≤ other

-- each place is the next after those before it
abbrev pub IsPlaceOrder : List ℕ → List ℕ → List ℕ → Type 0
IsPlaceOrder left right placed = (k : ℕ) → k < length placed → IsNextPlace left right (take k placed) (get_or placed k 0)

-- ---- a queue of places that are ready
-- what a place leaves of the counts and adds to the queue, where these are its users
pub record Releases (hit : ℕ → Bool) (waits queue remaining longer : List ℕ) : Type 0 where
  pub size : length remaining ≡ length waits
  pub counts : (user : ℕ) → user < length waits → get_or remaining user 0 + number (hit user) ≡ get_or waits user 0
  pub queued : (user : ℕ) → user < length waits → times user longer ≡ times user queue + number (hit user && nat_eq (get_or remaining user 0) 0)
  pub inside : All (λ user. user < length waits) queue → All (λ user. user < length waits) longer
  pub work : sum remaining + length longer ≤ sum waits + length queue

-- places are placed, queued or waiting; the queue has those that are ready
pub record IsPlacing (left right waits queue placed : List ℕ) : Type 0 where
  pub left_size : length left ≡ length waits
  pub right_size : length right ≡ length waits
  pub queue_inside : All (λ place. place < length waits) queue
  pub placed_inside : All (λ place. place < length waits) placed
  pub once : (place : ℕ) → place < length waits → times place queue + times place placed + number (nat_lt 0 (get_or waits place 0)) ≡ 1
  pub counts : (place : ℕ) → place < length waits → get_or waits place 0 ≡ waits_of left right placed place
  pub order : IsPlaceOrder left right placed

-- the queue has, once each, the places below a bound that wait for nothing
pub record Queues (waits : List ℕ) (bound : ℕ) (queue : List ℕ) : Type 0 where
  pub inside : All (λ place. place < bound) queue
  pub once : (place : ℕ) → place < bound → times place queue ≡ number (nat_eq (get_or waits place 0) 0)
