use Rattle.board_core.proofs.Parts.{good_after}
use Rattle.board_core.proofs.core_state.CoreState.step.Goals as goal

pub returns-in-Number-clause-good : goal.returns-in-Number-clause-good
returns-in-Number-clause-good c = good_after c.number.result c.args.self.now c.number.new.self _ c.args.event c.in-Number.is c.number.ensures.step

pub returns-in-Mark-clause-good : goal.returns-in-Mark-clause-good
returns-in-Mark-clause-good c = good_after c.mark.result c.args.self.now c.mark.new.self _ c.args.event c.in-Mark.is c.mark.ensures.step

pub returns-in-Look-clause-good : goal.returns-in-Look-clause-good
returns-in-Look-clause-good c = good_after c.look.result c.args.self.now c.look.new.self _ c.args.event c.in-Look.is c.look.ensures.step

pub returns-in-Split-clause-good : goal.returns-in-Split-clause-good
returns-in-Split-clause-good c = good_after c.split.result c.args.self.now c.split.new.self _ c.args.event c.in-Split.is c.split.ensures.step

pub returns-in-Join-clause-good : goal.returns-in-Join-clause-good
returns-in-Join-clause-good c = good_after c.join.result c.args.self.now c.join.new.self _ c.args.event c.in-Join.is c.join.ensures.step
