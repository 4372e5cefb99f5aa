use denote.Param.Send.{sendable}
use Rattle.std.proofs.Common.{subst, get_or}
use Rattle.std.proofs.Crossing.{crosses}
use Rattle.job_desk.proofs.Sent.{seat_send, desk_sync}
use Rattle.job_desk.specs.Seats.{JobSeatState}
use Rattle.board_rows.specs.Callers.{HasClaimed}
use Rattle.board_rows.proofs.desk_rows.claim_each.Goals as goal

pub for_each_mut-requires-send-T : goal.for_each_mut-requires-send-T
for_each_mut-requires-send-T g c κs within = search (sendable, seat_send) depth 20

pub for_each_mut-requires-sync-F : goal.for_each_mut-requires-sync-F
for_each_mut-requires-sync-F g c κs within = search (sendable, crosses, desk_sync) depth 20

pub returns-clause-each : goal.returns-clause-each
returns-clause-each g c = λ k d lt.
    let at = (c.for_each_mut.ensures k d lt).1 in
    subst (λ (after : JobSeatState). HasClaimed (get_or c.args.seats.now k d) after) at.left (subst (λ (before : JobSeatState). HasClaimed before at.after_call.now) at.argument_is at.call)
