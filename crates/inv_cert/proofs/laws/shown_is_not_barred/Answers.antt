use Rattle.aig_eval.proofs.Replays.{shown_is_reachable}
use Rattle.aig_model.proofs.LatchClauses.{barred_is_unreachable}
use Rattle.inv_cert.proofs.laws.shown_is_not_barred.Goals as goal

pub returns : goal.returns
returns c s goal trace cert shows excludes =
    barred_is_unreachable s.circuit s.lits cert.base.clauses goal excludes.bars (shown_is_reachable s.circuit s.lits trace goal shows)
