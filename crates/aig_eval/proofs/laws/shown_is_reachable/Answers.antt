use Rattle.aig_eval.proofs.Replays as lemmas
use Rattle.aig_eval.proofs.laws.shown_is_reachable.Goals as goal

pub returns : goal.returns
returns c = lemmas.shown_is_reachable
