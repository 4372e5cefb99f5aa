use Rattle.aig_eval.proofs.Replays as lemmas
use Rattle.aig_eval.proofs.laws.shown_at.Goals as goal

pub returns : goal.returns
returns c = lemmas.shown_at
