use Rattle.gate_order.specs.UserLists.{AreLinked}
use Rattle.gate_order.proofs.order.users.link.Given as goal

abbrev pub invariant-loop-user : goal.invariant-loop-user
invariant-loop-user l = AreLinked l.uses l.user l.lasts l.earlier
