use Rattle.std.proofs.Common.{arith}
use Rattle.job_desk.proofs.Steps.{joins}
use Rattle.job_desk.proofs.table.join.Goals as goal

pub join_seat-requires : goal.join_seat-requires
join_seat-requires c = (c.requires.seat.0, c.requires.other.0, c.requires.other.1, omega arith, joins _ _ _ _ _ c.requires.seat.1)
