use Rattle.std.proofs.Common.{sym, subst}
use Rattle.aig_model.specs.SignalList.{SignalList}
use Rattle.board_rows.specs.Posters.{IsReached}
use Rattle.board_rows.proofs.turn_rows.gathered.Goals as goal

pub post_both-requires-clause-one : goal.post_both-requires-clause-one
post_both-requires-clause-one c = subst (λ (s : SignalList). IsReached s c.in_ok-one.one) (sym c.in-Ok.ensures.terms.0) c.in_ok-one.ensures

pub post_both-requires-clause-other : goal.post_both-requires-clause-other
post_both-requires-clause-other c = subst (λ (s : SignalList). IsReached s c.in_ok-other.other) (sym c.in-Ok.ensures.terms.0) c.in_ok-other.ensures
