use denote.Param.Send.{IsSync, sendable}
use Rattle.std.proofs.Common.{subst, get_or}
use Rattle.std.proofs.Crossing.{crosses}
use Rattle.aig_model.specs.contracts.circuit.Circuit as Circuit
use Rattle.aig_model.specs.contracts.signals.Signals as Signals
use Rattle.goal_board.proofs.Sent.{pass_send, board_sync}
use Rattle.goal_board.specs.Passes.{PassState}
use Rattle.board_rows.specs.Posters.{HasPosted}
use Rattle.board_rows.proofs.post_rows.post_each.Goals as goal

-- threads may share a circuit and its signals
circuit_sync : IsSync Circuit.the_row
circuit_sync = search (sendable, crosses) depth 40 fits 4000

signals_sync : IsSync Signals.the_row
signals_sync = search (sendable, crosses) depth 40 fits 4000

pub for_each_mut-requires-send-T : goal.for_each_mut-requires-send-T
for_each_mut-requires-send-T g c κs within = search (sendable, pass_send) depth 20

pub for_each_mut-requires-sync-F : goal.for_each_mut-requires-sync-F
for_each_mut-requires-sync-F g c κs within = search (sendable, crosses, circuit_sync, signals_sync, board_sync) depth 30

pub returns-clause-each : goal.returns-clause-each
returns-clause-each g c = λ k d lt.
    let at = (c.for_each_mut.ensures k d lt).1 in
    subst (λ (after : PassState). HasPosted c.args.board.now (get_or c.args.passes.now k d) after) at.left (subst (λ (before : PassState). HasPosted c.args.board.now before at.after_call.now) at.argument_is at.call)
