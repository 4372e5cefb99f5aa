-- Threads may share a board, and a pass may go to another thread.
use denote.Param.Send.{IsSend, IsSync, sendable}
use Rattle.std.proofs.Crossing.{crosses}
use Rattle.atomic_table.proofs.shared.Seat.TheSendSync as seat
use Rattle.atomic_table.proofs.shared.Shared.TheSendSync as shared
use Rattle.atomic_table.proofs.send_lease.SendLease.TheSendSync as lease
use Rattle.inv_cert.specs.contracts.certificate.Certificate as Certificate
use Rattle.inv_cert.specs.contracts.evidence.Evidence as Evidence
use Rattle.inv_cert.specs.contracts.kept_set.KeptSet as KeptSet
use Rattle.goal_board.specs.contracts.board.Board as Board
use Rattle.goal_board.specs.contracts.pass.Pass as Pass

pub board_sync : IsSync Board.the_row
board_sync = search (sendable, crosses, shared.the_sync, lease.the_sync) depth 20

-- ---- what a pass has
kept_set_send : IsSend (KeptSet.the_field).row
kept_set_send = search (sendable, crosses) depth 40 fits 4000

kept_set_sync : IsSync (KeptSet.the_field).row
kept_set_sync = search (sendable, crosses) depth 40 fits 4000

certificate_send : IsSend (Certificate.the_field).row
certificate_send = search (sendable, crosses, kept_set_send, kept_set_sync) depth 40 fits 4000

evidence_send : IsSend (Evidence.the_field).row
evidence_send = search (sendable, crosses, certificate_send) depth 40 fits 4000

pub pass_send : IsSend (Pass.the_field).row
pass_send = search (sendable, crosses, seat.the_send, evidence_send) depth 40 fits 4000
