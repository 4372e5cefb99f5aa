-- What the checks of goals and queries work out first.
use Rattle.std.specs.Prelude.{◌≡◌, ◌<◌, ℕ, zero, suc, Bool, false, if◌then◌else◌, List, length, get_or, slice_get, Option, None, Some}
use Rattle.board_core.specs.declared.entry.Entry.{Entry}
use Rattle.board_core.specs.History.{first_entry}
use Rattle.aig_model.specs.declared.parts.Parts.{Parts}
use Rattle.report_text.specs.declared.report.BlockName.{BlockName}
use Rattle.report_text.specs.declared.report.BlockName.TheVariants as names
use Rattle.report_text.specs.declared.report.Block.{Block}
use Rattle.report_text.specs.declared.report.SeedLine.{SeedLine}
use Rattle.report_text.specs.declared.report.Report.{Report}
use Rattle.report_check.specs.declared.bounds.Bounds.{Bounds}
use Rattle.report_check.specs.Bounds.{sweep_step, hop_step, depth_of, hops_of, strength_of}
use Rattle.report_check.specs.Queries.{ComesBefore}

-- the searches in order: the sweep, and then each batch's hop
abbrev pub search_step : ℕ → BlockName → Option ℕ
search_step zero name = sweep_step name
search_step (suc batch) name = hop_step batch name

abbrev pub search_of : BlockName → ℕ
search_of (names.Sweep step) = 0
search_of (names.Hop batch step) = suc batch
search_of (names.Kept place clauses) = 0
search_of (names.Excludes goal clauses) = 0

abbrev pub step_of : BlockName → ℕ
step_of (names.Sweep step) = step
step_of (names.Hop batch step) = step
step_of (names.Kept place clauses) = 0
step_of (names.Excludes goal clauses) = 0

-- the strength, if the goal's own proof isn't spent
abbrev pub strength_under : Option ℕ → Bool → Option ℕ
strength_under strength cut = if cut then None else strength

-- the bounds of open goals; `cut` is true where a goal's own proof is spent
pub record AreBounds (r : Report) (goals : ℕ) (b : Bounds) : Type 0 where
  pub depth : b.depth ≡ depth_of r
  pub hops : b.hops ≡ hops_of r
  pub size : length b.cut ≡ goals
  pub strength : (goal : ℕ) → goal < goals → strength_under b.strength (get_or b.cut goal false) ≡ strength_of r goal

-- the first entry of each goal
pub record AreFirsts (es : List Entry) (goals : ℕ) (firsts : List (Option Entry)) : Type 0 where
  pub size : length firsts ≡ goals
  pub each : (goal : ℕ) → goal < goals → slice_get firsts goal ≡ Some (first_entry es goal)

-- the seeds' states have one value a latch
abbrev pub HaveStates : Parts → Report → Type 0
HaveStates c r = (batch : ℕ) (line : SeedLine) → slice_get r.seeds batch ≡ Some (Some line) → length line.state ≡ length c.latches

-- each of the first queries stands behind all that are before it
abbrev pub ComeInOrder : List Block → ℕ → Type 0
ComeInOrder blocks count = (j k : ℕ) (a b : Block) → j < k → k < count → slice_get blocks j ≡ Some a → slice_get blocks k ≡ Some b → ComesBefore a.name b.name
