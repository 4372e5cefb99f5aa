-- What pools and seats are made of.
use Rattle.std.specs.Prelude.{◌≡◌, ℕ, ◌<◌, ◌≤◌, [], None, Some, length}
use Rattle.std.specs.Vec.{vec_capacity}
use Rattle.std.specs.declared.vec.Vec.{Vec}
use Rattle.std.specs.Global.{Global}
use Rattle.atomic_table.specs.Seated.{TableId}
use Rattle.aig_model.specs.declared.parts.Parts.{Parts}
use Rattle.seed_pool.specs.declared.view.View.{View}
use Rattle.seed_pool.specs.declared.view.Terms.{Terms}
use Rattle.seed_pool.specs.Rule.{Sat}
use Rattle.seed_pool.specs.Seats.{PoolState, PoolSeatState}

abbrev pub pool_state : TableId → Terms → PoolState
pool_state table terms = record { table = table; circuit = terms.circuit.value; callers = terms.callers }

pub record IsPoolTable (table : TableId) (terms : Terms) : Type 0 where
  pub words : table.words ≡ 64
  pub slots : table.slots ≡ 64
  pub some : 0 < terms.callers

abbrev pub seat_state : {S : Type 0} → TableId → Parts → View S → PoolSeatState S
seat_state table circuit v = record { table = table; circuit = circuit; put = v.put; taken = v.taken; tried = v.tried }

-- the view is of a pool for this circuit
abbrev pub HasCircuit : {S : Type 0} → Parts → View S → Type 0
HasCircuit circuit v = (t : Terms) × (v.terms ≡ Some t) × (t.circuit.value ≡ circuit)

-- a seat between two calls
pub record IsIdle {S : Type 0} (circuit : Parts) (me : Sat S) : Type 0 where
  pub parts : me.0.parts ≡ 1
  pub slots : me.1 ≡ []
  pub claim : me.0.claim ≡ None
  pub terms : HasCircuit circuit me.0

-- the seats' list has room for as many as it was made with, and the room of what is left in the pool is there
pub record AreSeats {S : Type 0} (seats : Vec (PoolSeatState S) Global) (left : Vec S Global) (room : ℕ) : Type 0 where
  pub few : length seats.items ≤ room
  pub capacity : room ≤ vec_capacity seats
  pub empty : left.items ≡ []
  pub cells : 64 ≤ vec_capacity left
