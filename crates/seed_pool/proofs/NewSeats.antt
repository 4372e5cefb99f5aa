-- The seats of a new pool.
use Rattle.std.proofs.Common.{◌≡◌, [], sym, subst}
use Rattle.atomic_table.specs.Seated.{TableId}
use Rattle.aig_model.specs.declared.parts.Parts.{Parts}
use Rattle.seed_pool.specs.declared.view.View.{View}
use Rattle.seed_pool.specs.Seats.{PoolState, PoolSeatState, IsSeatOf, IsNew}
use Rattle.seed_pool.specs.Inside.{seat_state}

module _ {S : Type 0} where
  pub is_seat_of : (pool : PoolState) (id : TableId) (circuit : Parts) (v : View S) (s : PoolSeatState S) → s ≡ seat_state id circuit v → id ≡ pool.table → circuit ≡ pool.circuit → IsSeatOf pool s
  is_seat_of pool id circuit v s is table same = subst (λ (x : PoolSeatState S). IsSeatOf pool x) (sym is) (record { table = table; circuit = same })

  pub is_new : (id : TableId) (circuit : Parts) (v : View S) (s : PoolSeatState S) → s ≡ seat_state id circuit v → v.put ≡ [] → v.taken ≡ [] → v.tried ≡ [] → IsNew s
  is_new id circuit v s is put taken tried = subst (λ (x : PoolSeatState S). IsNew x) (sym is) (record { put = put; taken = taken; tried = tried })
