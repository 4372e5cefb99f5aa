use Rattle.report_check.proofs.seeds.is_line.Goals as goal

pub returns-in-Some : goal.returns-in-Some
returns-in-Some c = rw c.in-Some.is c.is_seed.ensures
