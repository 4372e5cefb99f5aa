use Rattle.goal_facts.proofs.Truth as lemmas
use Rattle.goal_facts.proofs.laws.found_is_true.Goals as goal

pub returns : goal.returns
returns c = lemmas.found_is_true
