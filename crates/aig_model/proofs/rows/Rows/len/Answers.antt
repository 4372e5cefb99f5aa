use Rattle.std.proofs.Common.{sym}
use Rattle.aig_model.proofs.Tables.{length-rows_of, rows_are_wide}
use Rattle.aig_model.proofs.rows.Rows.len.Goals as goal

pub returns-clause-wide : goal.returns-clause-wide
returns-clause-wide c = rows_are_wide c.self.inside.width c.self.inside.len c.self.inside.bits c.args.self.now c.self.view_is c.self.invariant.0

pub returns-clause-value : goal.returns-clause-value
returns-clause-value c = rw (← c.self.view_is) (sym (length-rows_of c.self.inside.width c.self.inside.len c.self.inside.bits))
