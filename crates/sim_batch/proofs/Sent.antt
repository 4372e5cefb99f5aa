-- A seed may go to another thread.
use denote.Param.Send.{IsSend, sendable}
use Rattle.std.proofs.Crossing.{crosses}
use Rattle.sim_batch.specs.contracts.seed.Seed as Seed

pub seed_send : IsSend Seed.the_row
seed_send = search (sendable, crosses) depth 40 fits 4000
