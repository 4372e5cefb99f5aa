-- Gates that stand by their variables, so that the place of a gate stands for it.
use Rattle.std.specs.Prelude.{ℕ, ◌+◌, ◌<◌, ◌≡◌, ◌≢◌, List, [], map, length, get_or, All, AllPairs}
use Rattle.aig_model.specs.Literal.{var}
use Rattle.aig_model.specs.declared.parts.AndGate.{AndGate}
use Rattle.gate_order.specs.PlaceOrder.{IsPlacing}
use Rattle.gate_order.specs.declared.order.sorted.Side.{Side}
use Rattle.gate_order.specs.declared.order.sorted.Side.TheVariants.{Left, Right}

-- the variables of the left sides rise
abbrev pub AreSorted : List AndGate → Type 0
AreSorted gates = AllPairs (λ (g h : AndGate). var g.lhs < var h.lhs) gates

-- a gate that stands nowhere
abbrev pub no_gate : AndGate
no_gate = record { lhs = 0; left = 0; right = 0 }

abbrev pub gate_at : List AndGate → ℕ → AndGate
gate_at gates place = get_or gates place no_gate

abbrev pub gates_at : List AndGate → List ℕ → List AndGate
gates_at gates places = map (gate_at gates) places

-- the gate at a place defines the variable
pub record DefinedAt (gates : List AndGate) (v place : ℕ) : Type 0 where
  pub inside : place < length gates
  pub defines : var ((gate_at gates place).lhs) ≡ v

-- no gate defines it
abbrev pub IsNowhere : List AndGate → ℕ → Type 0
IsNowhere gates v = All (λ (g : AndGate). var g.lhs ≢ v) gates

-- ---- uses: for each gate the place of the gate that it uses on one side, counted from 1, or 0 for none
abbrev pub input : Side → AndGate → ℕ
input Left g = g.left
input Right g = g.right

-- a number names the place of the gate that defines a variable
pub record IsUseOf (gates : List AndGate) (v named : ℕ) : Type 0 where
  pub none : named ≡ 0 → IsNowhere gates v
  pub some : (place : ℕ) → named ≡ place + 1 → DefinedAt gates v place

-- these are the uses of the first so many gates
pub record AreUses (side : Side) (gates : List AndGate) (count : ℕ) (uses : List ℕ) : Type 0 where
  pub size : length uses ≡ count
  pub each : (user : ℕ) → user < count → IsUseOf gates (var (input side (gate_at gates user))) (get_or uses user 0)

-- gates that stand by their variables are placed, as far as they can be
pub record ArePlaced (gates : List AndGate) (placed waits : List ℕ) : Type 0 where
  pub left : List ℕ
  pub right : List ℕ
  pub left_uses : AreUses Left gates (length gates) left
  pub right_uses : AreUses Right gates (length gates) right
  pub size : length waits ≡ length gates
  pub placing : IsPlacing left right waits [] placed
