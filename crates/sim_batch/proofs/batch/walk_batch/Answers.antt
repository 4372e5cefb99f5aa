use Rattle.std.proofs.Common.{◌+◌, length, ap, ◌∙◌}
use Rattle.std.specs.Prelude.{option_copied}
use Rattle.sim_batch.specs.Batch.{lanes_of}
use Rattle.sim_batch.proofs.SoFar.{visits_all}
use Rattle.sim_batch.proofs.batch.walk_batch.Goals as goal

pub batch_seed-requires-clause-walked : goal.batch_seed-requires-clause-walked
batch_seed-requires-clause-walked c =
    let walked = c.in_ok-walked.ensures in
    record {
      steps = walked.last + 1;
      size = ap length c.as_slice.ensures.value ∙ walked.size;
      walks_are = rw c.as_slice.ensures.value walked.walks;
    }

pub returns : goal.returns
returns c =
    let walked = c.in_ok-walked.ensures in
    let circuit = c.args.circuit.now in
    let sig = c.args.signals.now.lits in
    let lanes = lanes_of circuit c.args.options.now.seed c.args.batch (option_copied c.args.from) in
    record {
      last = walked.last;
      ends = walked.ends;
      are_visits = rw c.into_visits.ensures (visits_all circuit sig lanes (walked.last + 1) c.in_ok-walked.walked.visits.visits walked.so_far);
      is_seed = c.in_ok-seed.ensures (walked.last + 1) (rw c.as_slice.ensures.value walked.walks);
    }
