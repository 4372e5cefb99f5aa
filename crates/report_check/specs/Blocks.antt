-- What a goal's block says of the goal.
use Rattle.std.specs.Prelude.{◌≡◌, ℕ, Bool, true, false, slice_get, Some}
use Rattle.report_text.specs.declared.report.GoalBlock.{GoalBlock}
use Rattle.report_text.specs.declared.report.GoalBlock.TheVariants as blocks
use Rattle.report_text.specs.declared.report.Report.{Report}

abbrev pub is_reached : GoalBlock → Bool
is_reached (blocks.Reached n witness) = true
is_reached (blocks.Unreachable n inv proof) = false
is_reached (blocks.Open depth hops strength) = false

abbrev pub is_unreachable : GoalBlock → Bool
is_unreachable (blocks.Reached n witness) = false
is_unreachable (blocks.Unreachable n inv proof) = true
is_unreachable (blocks.Open depth hops strength) = false

abbrev pub is_open : GoalBlock → Bool
is_open (blocks.Reached n witness) = false
is_open (blocks.Unreachable n inv proof) = false
is_open (blocks.Open depth hops strength) = true

-- the goal has a block, which doesn't leave it open
pub record IsSettled (r : Report) (goal : ℕ) : Type 0 where
  pub block : GoalBlock
  pub at : slice_get r.goals goal ≡ Some block
  pub settled : is_open block ≡ false

-- some goal is left open
pub record HasOpen (r : Report) : Type 0 where
  pub goal : ℕ
  pub block : GoalBlock
  pub at : slice_get r.goals goal ≡ Some block
  pub is_left : is_open block ≡ true
