use denote.RattleType.{RattleType}
use denote.Param.Send.{IsSend, IsSync, sendable}
use Rattle.std.proofs.Common.{subst}
use Rattle.std.proofs.Crossing.{crosses}
use Rattle.atomic_table.proofs.shared.Seat.TheSendSync as seat
use Rattle.atomic_table.proofs.shared.Shared.TheSendSync as shared
use Rattle.atomic_table.proofs.send_lease.SendLease.TheSendSync as lease
use Rattle.aig_model.specs.contracts.circuit.Circuit as Circuit
use Rattle.seed_pool.specs.contracts.pool.SeedPool as SeedPool
use Rattle.seed_pool.specs.declared.of_circuit.OfCircuit.{Ghosts}
use Rattle.seed_pool.specs.Seats.{IsSeatOf}
use Rattle.board_rows.specs.contracts.pool_rows.Ball as Ball
use Rattle.board_rows.specs.declared.pool_rows.Worker.{Worker}
use Rattle.board_rows.proofs.pool_rows.trade_each.Goals as goal

-- a ball may go to another thread, and threads may share a circuit and a pool
ball_send : IsSend Ball.the_row
ball_send = search (sendable, crosses) depth 20

circuit_sync : IsSync Circuit.the_row
circuit_sync = search (sendable, crosses) depth 40 fits 4000

pool_sync : (T : RattleType) (g : Ghosts T.Denot) → IsSend T → IsSync (SeedPool.the_row T g)
pool_sync T g s = search (sendable, crosses, shared.the_sync, lease.the_sync) depth 20

pub for_each_mut-requires-send-T : goal.for_each_mut-requires-send-T
for_each_mut-requires-send-T g c κs within = search (sendable, crosses, seat.the_send) depth 30

pub for_each_mut-requires-sync-F : goal.for_each_mut-requires-sync-F
for_each_mut-requires-sync-F g c κs within = search (sendable, crosses, ball_send, circuit_sync, pool_sync) depth 30

pub returns-clause-each : goal.returns-clause-each
returns-clause-each g c = λ k d lt.
    let at = (c.for_each_mut.ensures k d lt).1 in
    subst (λ (after : Worker). IsSeatOf c.args.pool.now after.seat) at.left at.call
