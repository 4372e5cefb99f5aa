-- How the check of the refuted queries goes along: which search it has come to, and how many steps of each.
use Rattle.std.specs.Prelude.{◌≡◌, ◌⊎◌, ◌+◌, ◌<◌, ◌≤◌, ℕ, length, get_or, take, set, slice_get, Some}
use Rattle.report_text.specs.declared.report.HopBound.TheVariants as hop_bounds
use Rattle.report_text.specs.declared.report.BlockName.{BlockName}
use Rattle.report_text.specs.declared.report.Block.{Block}
use Rattle.report_text.specs.declared.report.Report.{Report}
use Rattle.report_check.specs.declared.bounds.Bounds.{Bounds}
use Rattle.report_check.specs.declared.walked.Walked.{Walked}
use Rattle.report_check.specs.Bounds.{steps_of}
use Rattle.report_check.specs.Known.{search_step, search_of, step_of}
use Rattle.report_check.specs.Queries.{IsSearch}
use Rattle.report_check.specs.Refutes.{IsNextStep}

-- the query's search isn't before the last one, and its step is the next of this search
pub record IsNext (w : Walked) (name : BlockName) : Type 0 where
  pub later : w.last ≤ search_of name
  pub next : get_or w.steps.items (search_of name) 0 ≡ step_of name

pub record IsAdvanced (old : Walked) (name : BlockName) (new : Walked) : Type 0 where
  pub last : new.last ≡ search_of name
  pub steps : new.steps.items ≡ set old.steps.items (search_of name) (step_of name + 1)

-- the search is that of one of the first queries, or the first one
abbrev pub IsLast : Report → ℕ → ℕ → Type 0
IsLast r place last = (last ≡ 0) ⊎ ((k : ℕ) × (a : Block) × (k < place) × (slice_get r.refutes k ≡ Some a) × (search_of a.name ≡ last))

-- after the first queries: the last search, the number of each search's steps, which run from 0
pub record AreWalked (r : Report) (place : ℕ) (w : Walked) : Type 0 where
  pub size : length w.steps.items ≡ length r.seeds + 1
  pub is_last : IsLast r place w.last
  pub searches : (k : ℕ) (a : Block) → k < place → slice_get r.refutes k ≡ Some a → IsSearch r a.name
  pub ordered : (k : ℕ) (a : Block) → k < place → slice_get r.refutes k ≡ Some a → search_of a.name ≤ w.last
  pub steps : (search : ℕ) → search < length r.seeds + 1 → get_or w.steps.items search 0 ≡ length (steps_of (search_step search) (take place r.refutes))
  pub next : (k : ℕ) (a : Block) → k < place → slice_get r.refutes k ≡ Some a → IsNextStep (take k r.refutes) a.name

-- each step up to the bounds was met
pub record HasAll (b : Bounds) (w : Walked) : Type 0 where
  pub sweep : (depth : ℕ) → b.depth ≡ Some depth → depth < get_or w.steps.items 0 0
  pub hops : (batch hop : ℕ) → slice_get b.hops batch ≡ Some (hop_bounds.To hop) → hop < get_or w.steps.items (batch + 1) 0
