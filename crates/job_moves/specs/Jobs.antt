-- The jobs of a run, in the order of their numbers.
use Rattle.std.specs.Prelude.{ℕ, zero, suc, ◌-◌, nat_lt, if◌then◌else◌}
use Rattle.job_moves.specs.declared.job.Job.{Job}
use Rattle.job_moves.specs.declared.job.Job.TheVariants.{Zero, Sweep, Prove, Walk, Again}

-- behind the first three: the batches from reset, and then the rounds
abbrev pub later_job : ℕ → ℕ → Job
later_job place batches = if nat_lt place batches then Walk place else Again (place - batches)

-- the zero walk, the sweep, the prover, one for each batch from reset, and then the rounds
abbrev pub job_at : ℕ → ℕ → Job
job_at zero batches = Zero
job_at (suc zero) batches = Sweep
job_at (suc (suc zero)) batches = Prove
job_at (suc (suc (suc place))) batches = later_job place batches
