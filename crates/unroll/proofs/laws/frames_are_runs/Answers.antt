use Rattle.unroll.proofs.RunMeaning.{frames_are_runs_lem}
use Rattle.unroll.proofs.laws.frames_are_runs.Goals as goal

pub returns : goal.returns
returns c = frames_are_runs_lem
