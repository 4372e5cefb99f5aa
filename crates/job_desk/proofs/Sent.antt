-- A seat may go to another thread, and threads may share a desk.
use denote.Param.Send.{IsSend, IsSync, sendable}
use Rattle.std.proofs.Crossing.{crosses}
use Rattle.atomic_table.proofs.shared.Seat.TheSendSync as seat
use Rattle.atomic_table.proofs.shared.Shared.TheSendSync as shared
use Rattle.atomic_table.proofs.send_lease.SendLease.TheSendSync as lease
use Rattle.job_desk.specs.contracts.seat.JobSeat as JobSeat
use Rattle.job_desk.specs.contracts.desk.JobDesk as JobDesk

pub seat_send : IsSend (JobSeat.the_field).row
seat_send = search (sendable, crosses, seat.the_send) depth 20

pub desk_sync : IsSync JobDesk.the_row
desk_sync = search (sendable, crosses, shared.the_sync, lease.the_sync) depth 20
