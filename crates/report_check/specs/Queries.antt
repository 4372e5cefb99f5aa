-- Queries that ran out of lemmas.
use Rattle.std.specs.Prelude.{◌≡◌, ◌⊎◌, ◌<◌, ◌≤◌, ◌^◌, ℕ, List, length, slice_get, All, Some}
use Rattle.aig_model.specs.LatchClauses.{IsLatchClause}
use Rattle.aig_model.specs.declared.parts.Parts.{Parts}
use Rattle.cnf_base.specs.Meaning.{CnfFormula}
use Rattle.lrat_text.specs.Spent.{SpentOn}
use Rattle.unroll.specs.declared.start.Start.TheVariants.{Reset, State}
use Rattle.unroll.specs.Queries.{search_formula, kept_formula, excludes_formula}
use Rattle.report_text.specs.declared.report.SeedLine.{SeedLine}
use Rattle.report_text.specs.declared.report.BlockName.{BlockName}
use Rattle.report_text.specs.declared.report.BlockName.TheVariants as names
use Rattle.report_text.specs.declared.report.Block.{Block}
use Rattle.report_text.specs.declared.report.Report.{Report}
use Rattle.report_check.specs.declared.fault.CheckKind.{CheckKind}
use Rattle.report_check.specs.declared.fault.CheckKind.TheVariants as kinds
use Rattle.report_check.specs.Blocks.{IsSettled}

-- ---- what may be asked
-- the batch has a seed
pub record HasSeed (r : Report) (batch : ℕ) : Type 0 where
  pub seed : SeedLine
  pub at : slice_get r.seeds batch ≡ Some (Some seed)

-- a search of a step that the options have, from reset or from the seed of a batch
abbrev pub IsSearch : Report → BlockName → Type 0
IsSearch r (names.Sweep step) = step ≤ r.options.depth
IsSearch r (names.Hop batch step) = (step ≤ r.options.hop) × HasSeed r batch
IsSearch r (names.Kept place clauses) = ⊥
IsSearch r (names.Excludes goal clauses) = ⊥

-- or whether one of some clauses over the latches is kept, or whether they exclude a goal
abbrev pub IsQuestion : Parts → List ℕ → Report → BlockName → Type 0
IsQuestion c sig r (names.Sweep step) = IsSearch r (names.Sweep step)
IsQuestion c sig r (names.Hop batch step) = IsSearch r (names.Hop batch step)
IsQuestion c sig r (names.Kept place clauses) = (place < length clauses) × All (IsLatchClause c) clauses
IsQuestion c sig r (names.Excludes goal clauses) = (goal < 2 ^ length sig) × All (IsLatchClause c) clauses

-- ---- the formula of a query
abbrev pub IsFormulaOf : Parts → List ℕ → Report → List ℕ → BlockName → CnfFormula → Type 0
IsFormulaOf c sig r blocked (names.Sweep step) f = f ≡ search_formula c sig Reset step blocked
IsFormulaOf c sig r blocked (names.Hop batch step) f =
    (seed : SeedLine) × (slice_get r.seeds batch ≡ Some (Some seed)) × (f ≡ search_formula c sig (State seed.state) step blocked)
IsFormulaOf c sig r blocked (names.Kept place clauses) f = f ≡ kept_formula c clauses place
IsFormulaOf c sig r blocked (names.Excludes goal clauses) f = f ≡ excludes_formula c sig clauses goal

-- ---- order: the sweep, the hops by batch, the question whether a clause is kept, those whether goals are excluded, by goal
abbrev pub section_of : BlockName → ℕ
section_of (names.Sweep step) = 0
section_of (names.Hop batch step) = 1
section_of (names.Kept place clauses) = 2
section_of (names.Excludes goal clauses) = 3

abbrev pub item_of : BlockName → ℕ
item_of (names.Sweep step) = 0
item_of (names.Hop batch step) = batch
item_of (names.Kept place clauses) = 0
item_of (names.Excludes goal clauses) = goal

-- so no two are of the sweep, of one batch, of kept clauses or of one goal
abbrev pub ComesBefore : BlockName → BlockName → Type 0
ComesBefore a b = (section_of a < section_of b) ⊎ ((section_of a ≡ section_of b) × (item_of a < item_of b))

-- ---- the conditions
-- a query that may be asked, which leaves out settled goals alone and stands behind those that come before it
pub record IsSpentQuery (c : Parts) (sig : List ℕ) (r : Report) (place : ℕ) (b : Block) : Type 0 where
  pub question : IsQuestion c sig r b.name
  pub left_out : All (IsSettled r) b.blocked
  pub ordered : (earlier : ℕ) (a : Block) → earlier < place → slice_get r.spents earlier ≡ Some a → ComesBefore a.name b.name

-- the proof spends as many lemmas as the options give on the query's formula
pub record IsSpent (c : Parts) (sig : List ℕ) (r : Report) (b : Block) : Type 0 where
  pub formula : CnfFormula
  pub of_query : IsFormulaOf c sig r b.blocked b.name formula
  pub spent : SpentOn formula r.options.lemmas b.proof

pub record SpentMeets (c : Parts) (sig : List ℕ) (r : Report) (place : ℕ) (b : Block) (kind : CheckKind) : Type 0 where
  pub query : kind ≡ kinds.Query → IsSpentQuery c sig r place b
  pub proof : kind ≡ kinds.Proof → IsSpent c sig r b

abbrev pub SpentsMeet : Parts → List ℕ → Report → ℕ → CheckKind → Type 0
SpentsMeet c sig r at kind = (b : Block) → slice_get r.spents at ≡ Some b → SpentMeets c sig r at b kind
