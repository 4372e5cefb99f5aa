use Rattle.std.proofs.Common.{rules}
use Rattle.cover_run.proofs.Opening.{part_failed, part_long, part_memory, long_not_failed, memory_not_failed}
use Rattle.cover_run.proofs.part.read_part.Goals as goal

pub returns-in-Err-Failed-clause-left : goal.returns-in-Err-Failed-clause-left
returns-in-Err-Failed-clause-left g c =
    part_failed (g.D.Desk.state c.args.desk.now) (g.D.Desk.state c.read_file.new.desk) c.args.file c.args.name.now c.limit_of.result c.limit_of.ensures
    (c.in-Err-Failed.ensures.failed_at (search rules))

pub returns-in-Err-TooLong-clause-left : goal.returns-in-Err-TooLong-clause-left
returns-in-Err-TooLong-clause-left g c =
    part_long (g.D.Desk.state c.args.desk.now) (g.D.Desk.state c.read_file.new.desk) c.args.file c.args.name.now c.limit_of.result c.limit_of.ensures
    (c.in-Err-TooLong.ensures.too_long_at (search rules)) (c.in-Err-TooLong.ensures.no_fault (long_not_failed c.in-Err-TooLong.field-0 c.in-Err-TooLong.field-0-is))

pub returns-in-Err-OutOfMemory-clause-left : goal.returns-in-Err-OutOfMemory-clause-left
returns-in-Err-OutOfMemory-clause-left g c =
    part_memory (g.D.Desk.state c.args.desk.now) (g.D.Desk.state c.read_file.new.desk) c.args.file c.args.name.now c.limit_of.result c.limit_of.ensures
    (c.in-Err-OutOfMemory.ensures.out_of_memory_at (search rules)) (c.in-Err-OutOfMemory.ensures.no_fault (memory_not_failed c.in-Err-OutOfMemory.field-0 c.in-Err-OutOfMemory.field-0-is))
