use Rattle.std.proofs.Common.{subst}
use Rattle.board_core.specs.Core.{core_of}
use Rattle.board_core.specs.Good.{IsSound}
use Rattle.board_core.specs.declared.event.Event.TheVariants.{Split}
use Rattle.board_core.proofs.Kept.{stays_sound}
use Rattle.board_core.proofs.Parts.{split_after}
use Rattle.board_core.proofs.core_state.CoreState.split.Goals as goal

pub invariant_of-self-2 : goal.invariant_of-self-2
invariant_of-self-2 c =
    let after = split_after c.self.inside.history.items c.self.inside.marks.items c.self.inside.views.items c.push.new.self.items c.args.self.now c.self.view_is c.fresh.result c.fresh.ensures c.in_ok-push.ensures.items in
    stays_sound c.args.self.now (core_of c.self.inside.history.items c.self.inside.marks.items c.push.new.self.items) (Split c.args.caller) c.requires after (subst IsSound c.self.view_is c.self.invariant)
