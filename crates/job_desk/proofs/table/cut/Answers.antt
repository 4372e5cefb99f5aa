use Rattle.std.proofs.Common.{arith}
use Rattle.job_desk.proofs.Steps.{splits}
use Rattle.job_desk.proofs.table.cut.Goals as goal

pub split_seat-requires : goal.split_seat-requires
split_seat-requires c = (c.requires.seat, omega arith, splits _ _ _ c.requires.parts c.requires.spare c.requires.makes c.requires.few)
