-- The queries of the sweep and of the hops, as a report tells them.
use Rattle.std.specs.Prelude.{ℕ, List, map, Option, option_map}
use Rattle.report_text.specs.declared.report.BlockName.{BlockName}
use Rattle.report_text.specs.declared.report.BlockName.TheVariants as names
use Rattle.report_text.specs.declared.report.Block.{Block}
use Rattle.sweep_search.specs.declared.swept.StepQuery.{StepQuery}
use Rattle.run_report.specs.declared.ends.SearchBlocks.{SearchBlocks}
use Rattle.run_report.specs.declared.searches.Search.{Search}
use Rattle.run_report.specs.declared.searches.Search.TheVariants.{Sweep, Hop}
use Rattle.run_report.specs.Bounds.{sweep_step, hop_step}

abbrev pub name_of : Search → ℕ → BlockName
name_of Sweep step = names.Sweep step
name_of (Hop batch) step = names.Hop batch step

-- the step of a query of this search
abbrev pub step_in : Search → BlockName → Option ℕ
step_in Sweep name = sweep_step name
step_in (Hop batch) name = hop_step batch name

abbrev pub block_of : Search → StepQuery → Block
block_of search q = record { name = name_of search q.step; blocked = q.blocked; proof = q.proof }

abbrev pub blocks_of : Search → List StepQuery → Option StepQuery → SearchBlocks
blocks_of search refuted spent = record { refuted = map (block_of search) refuted; spent = option_map (block_of search) spent }
