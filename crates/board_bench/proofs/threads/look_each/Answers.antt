use denote.Param.Send.{sendable}
use Rattle.std.proofs.Common.{subst}
use Rattle.std.proofs.Crossing.{crosses}
use Rattle.goal_board.proofs.Sent.{pass_send, board_sync}
use Rattle.board_bench.proofs.Sent.{evidence_send}
use Rattle.board_bench.specs.Callers.{IsReady}
use Rattle.board_bench.specs.declared.caller.Caller.{Caller}
use Rattle.board_bench.proofs.threads.look_each.Goals as goal

pub for_each_mut-requires-send-T : goal.for_each_mut-requires-send-T
for_each_mut-requires-send-T g c κs within = search (sendable, crosses, pass_send, evidence_send) depth 30

pub for_each_mut-requires-sync-F : goal.for_each_mut-requires-sync-F
for_each_mut-requires-sync-F g c κs within = search (sendable, crosses, board_sync) depth 30

pub returns-clause-each : goal.returns-clause-each
returns-clause-each g c = λ k d lt.
    let at = (c.for_each_mut.ensures k d lt).1 in
    subst (λ (after : Caller). IsReady c.args.board.now after) at.left at.call
