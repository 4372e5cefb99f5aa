-- The blocks of a report's goals: open ones, and then what the posts make of them.
use Rattle.std.specs.Prelude.{◌≡◌, ◌<◌, ℕ, false, cond, List, length, get_or, set, find, nat_eq, Option, Some, None}
use Rattle.report_text.specs.declared.report.GoalBlock.{GoalBlock}
use Rattle.report_text.specs.declared.report.GoalBlock.TheVariants as blocks
use Rattle.run_report.specs.declared.posts.Basis.{Basis}
use Rattle.run_report.specs.declared.posts.Basis.TheVariants.{Witness, Proof}
use Rattle.run_report.specs.declared.posts.Post.{Post}
use Rattle.run_report.specs.declared.open_goals.OpenBounds.{OpenBounds}
use Rattle.run_report.specs.Report.{is_open}

-- the strength of the proofs for a goal: a spent query of its own leaves none
abbrev pub strength_at : OpenBounds → ℕ → Option ℕ
strength_at bounds goal = cond (get_or bounds.cut goal false) None bounds.strength

-- of a goal that nothing settles
abbrev pub open_block : OpenBounds → ℕ → GoalBlock
open_block bounds goal = blocks.Open bounds.depth bounds.hops (strength_at bounds goal)

-- of a goal that a post settles; the report has one block of clauses
abbrev pub block_by : ℕ → Basis → GoalBlock
block_by number (Witness trace) = blocks.Reached number trace
block_by number (Proof proof) = blocks.Unreachable number 0 proof

abbrev pub block_of_post : Post → GoalBlock
block_of_post p = block_by p.entry.number p.basis

abbrev pub first_post : List Post → ℕ → Option Post
first_post posts goal = find (λ (p : Post). nat_eq p.entry.goal goal) posts

-- the first post of a goal makes its block
abbrev pub settled_by : Option Post → GoalBlock → GoalBlock
settled_by None was = was
settled_by (Some p) was = block_of_post p

-- the blocks after one more post
abbrev pub after_post : List GoalBlock → Post → List GoalBlock
after_post bs p = cond (is_open (get_or bs p.entry.goal (block_of_post p))) (set bs p.entry.goal (block_of_post p)) bs

-- the blocks after these posts, of goals that were open before
pub record AreAfter (opens : List GoalBlock) (posts : List Post) (bs : List GoalBlock) : Type 0 where
  pub size : length bs ≡ length opens
  pub each : (goal : ℕ) (d : GoalBlock) → goal < length opens → get_or bs goal d ≡ settled_by (first_post posts goal) (get_or opens goal d)

-- one for each goal
pub record AreOpen (bounds : OpenBounds) (goals : ℕ) (bs : List GoalBlock) : Type 0 where
  pub size : length bs ≡ goals
  pub each : (goal : ℕ) (d : GoalBlock) → goal < goals → get_or bs goal d ≡ open_block bounds goal
