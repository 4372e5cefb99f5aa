use Rattle.std.proofs.Common.{ℕ, ◌+◌, subst}
use Rattle.std.specs.Prelude.{option_copied}
use Rattle.sim_batch.specs.Batch.{lanes_of}
use Rattle.sim_batch.specs.SeedOf.{IsBatchSeed}
use Rattle.sim_batch.proofs.SoFar.{visits_all}
use Rattle.sim_lanes.proofs.batch.lane_batch.Goals as goal

pub returns : goal.returns
returns c =
    let walked = c.in_ok-walked.ensures in
    let circuit = c.args.circuit.now in
    let sig = c.args.signals.now.lits in
    let from = option_copied c.args.from in
    let lanes = lanes_of circuit c.args.options.now.seed c.args.batch from in
    record {
      last = walked.last;
      ends = walked.ends;
      are_visits = rw c.into_visits.ensures (visits_all circuit sig lanes (walked.last + 1) c.in_ok-walked.walked.visits.visits walked.so_far);
      is_seed = subst (λ (n : ℕ). IsBatchSeed circuit sig from lanes n c.in_ok-seed.seed) walked.steps c.in_ok-seed.ensures;
    }
