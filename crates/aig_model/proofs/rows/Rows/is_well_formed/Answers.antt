use Rattle.aig_model.proofs.Tables.{rows_are_wide}
use Rattle.aig_model.proofs.rows.Rows.is_well_formed.Goals as goal

pub returns : goal.returns
returns c = rows_are_wide c.self.inside.width c.self.inside.len c.self.inside.bits c.args.self.now c.self.view_is c.self.invariant.0
