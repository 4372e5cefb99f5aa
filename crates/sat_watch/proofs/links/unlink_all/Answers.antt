use Rattle.std.proofs.Common.{None, length, arith, inl, inr}
use Rattle.std.proofs.lemmas.Bool.{cases_lt}
use Rattle.std.proofs.lemmas.List.{get_or_past}
use Rattle.cnf_base.specs.Literal.{lit_index}
use Rattle.sat_watch.proofs.Lists.{none_linked}
use Rattle.sat_watch.proofs.links.unlink_all.Goals as goal

pub returns : goal.returns
returns c = none_linked c.loop-head.heads (λ l. elim (cases_lt (lit_index l) (length c.loop-head.heads)) [
  | inl lt ↦ c.loop-head.invariant (lit_index l) (omega (arith, c.loop-head-test.false, c.loop-head.auto.heads))
  | inr ge ↦ get_or_past c.loop-head.heads (lit_index l) None ge
])
