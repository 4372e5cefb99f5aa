-- The moves of each job, in order.
use Rattle.std.specs.Prelude.{◌≡◌, ℕ, Bool, true, false, Option, None, Some}
use Rattle.job_moves.specs.declared.job.Job.{Job}
use Rattle.job_moves.specs.declared.job.Job.TheVariants as jobs
use Rattle.job_moves.specs.declared.moves.Facts.{Facts}
use Rattle.job_moves.specs.declared.moves.Move.{Move}
use Rattle.job_moves.specs.declared.moves.Move.TheVariants.{Zero, Sweep, Prove, Walk, Hop, AgainWalk, AgainHop, End}
use Rattle.job_moves.specs.Jobs.{job_at}

-- the move, where there is a seed
abbrev pub with_seed : Bool → Move → Move
with_seed true move = move
with_seed false move = End

-- the move, where some goal isn't settled
abbrev pub while_open : Bool → Move → Move
while_open true move = End
while_open false move = move

-- the first move of a job: a walk from reset is always done, and a round begins where a seed was taken
abbrev pub first_move : Job → Bool → Bool → Move
first_move jobs.Zero seeded all_settled = Zero
first_move jobs.Sweep seeded all_settled = while_open all_settled Sweep
first_move jobs.Prove seeded all_settled = while_open all_settled Prove
first_move (jobs.Walk b) seeded all_settled = Walk b
first_move (jobs.Again r) seeded all_settled = while_open all_settled (with_seed seeded (AgainWalk r))

-- the one after a move: a walk that ends with a seed is followed by the hop from it
abbrev pub move_after : Move → Bool → Bool → Move
move_after Zero seeded all_settled = End
move_after Sweep seeded all_settled = End
move_after Prove seeded all_settled = End
move_after (Walk b) seeded all_settled = while_open all_settled (with_seed seeded (Hop b))
move_after (Hop b) seeded all_settled = End
move_after (AgainWalk r) seeded all_settled = while_open all_settled (with_seed seeded (AgainHop r))
move_after (AgainHop r) seeded all_settled = End
move_after End seeded all_settled = End

-- the move that comes next
abbrev pub next_after : Option Move → Job → Bool → Bool → Move
next_after None job seeded all_settled = first_move job seeded all_settled
next_after (Some last) job seeded all_settled = move_after last seeded all_settled

abbrev pub next_move : Facts → Move
next_move f = next_after f.last (job_at f.job f.batches) f.seeded f.all_settled
