-- Queries that a report tells: spent ones, which ran out of lemmas, and refuted ones, which have no model.
use Rattle.std.specs.Prelude.{◌≡◌, ◌⊎◌, ◌<◌, ◌≤◌, ◌^◌, ℕ, ℤ, List, [], length, slice_get, All, AllPairs, Option, Some, IsSome}
use Rattle.std.specs.List.Sorted.{IsStrictlyIncreasing}
use Rattle.aig_model.specs.declared.parts.Parts.{Parts}
use Rattle.cnf_base.specs.Meaning.{CnfFormula}
use Rattle.lrat_text.specs.declared.proof.LratStep.{LratStep}
use Rattle.lrat_text.specs.Spent.{SpentOn, Earned}
use Rattle.lrat_text.specs.Text.{IsWritable}
use Rattle.unroll.specs.declared.start.Start.{Start}
use Rattle.unroll.specs.declared.start.Start.TheVariants.{Reset, State}
use Rattle.unroll.specs.Queries.{search_formula, kept_formula, excludes_formula}
use Rattle.sim_walk.specs.declared.options.Options.{Options}
use Rattle.board_core.specs.declared.entry.Entry.{Entry}
use Rattle.board_core.specs.History.{first_entry}
use Rattle.report_text.specs.declared.report.BlockName.{BlockName}
use Rattle.report_text.specs.declared.report.BlockName.TheVariants as names
use Rattle.report_text.specs.declared.report.Block.{Block}
use Rattle.report_text.specs.declared.report.SeedLine.{SeedLine}
use Rattle.goal_facts.specs.Invariants.{HoldsGreatestInvariant, IsGreatestInvariant}

-- ---- order: the sweep, the hops by batch, the proof that a clause is kept, the proofs that goals are excluded by goal
abbrev pub section_of : BlockName → ℕ
section_of (names.Sweep step) = 0
section_of (names.Hop batch step) = 1
section_of (names.Kept place clauses) = 2
section_of (names.Excludes goal clauses) = 3

abbrev pub item_of : BlockName → ℕ
item_of (names.Sweep step) = 0
item_of (names.Hop batch step) = batch
item_of (names.Kept place clauses) = 0
item_of (names.Excludes goal clauses) = goal

-- so no two are of the sweep, of one batch, of kept clauses or of one goal
abbrev pub ComesBefore : Block → Block → Type 0
ComesBefore a b = (section_of a.name < section_of b.name) ⊎ ((section_of a.name ≡ section_of b.name) × (item_of a.name < item_of b.name))

-- ---- what a query is
-- the goals that a search leaves out rise, and each has an entry
pub record AreLeftOut (es : List Entry) (goals : List ℕ) : Type 0 where
  pub rising : IsStrictlyIncreasing goals
  pub settled : All (λ goal. IsSome (first_entry es goal)) goals

-- the proof spends the budget on lemmas that the formula's solver earns, and can be written and read back
pub record IsSpent (formula : CnfFormula) (lemmas : ℕ) (proof : List LratStep) : Type 0 where
  pub spent : SpentOn formula lemmas proof
  pub earned : Earned formula proof
  pub written : IsWritable proof

-- a search of a step no later than the greatest, from this start, that ran out of lemmas
pub record IsSpentSearch (c : Parts) (sig : List ℕ) (lemmas : ℕ) (es : List Entry) (start : Start) (greatest step : ℕ) (b : Block) : Type 0 where
  pub near : step ≤ greatest
  pub left_out : AreLeftOut es b.blocked
  pub spent : IsSpent (search_formula c sig start step b.blocked) lemmas b.proof

-- a search from the state of a batch's seed
pub record IsSpentHop (c : Parts) (sig : List ℕ) (o : Options) (es : List Entry) (seeds : List (Option SeedLine)) (batch step : ℕ) (b : Block) : Type 0 where
  pub seed : SeedLine
  pub place : slice_get seeds batch ≡ Some (Some seed)
  pub search : IsSpentSearch c sig o.lemmas es (State seed.state) o.hop step b

-- the question whether one of the clauses is kept, while the greatest invariant is among them
pub record IsSpentKept (c : Parts) (sig : List ℕ) (o : Options) (place : ℕ) (clauses : List (List ℤ)) (b : Block) : Type 0 where
  pub none_blocked : b.blocked ≡ []
  pub holds : HoldsGreatestInvariant c sig o.strength clauses
  pub inside : place < length clauses
  pub spent : IsSpent (kept_formula c clauses place) o.lemmas b.proof

-- the question whether the greatest invariant excludes the goal
pub record IsSpentExcludes (c : Parts) (sig : List ℕ) (o : Options) (goal : ℕ) (clauses : List (List ℤ)) (b : Block) : Type 0 where
  pub none_blocked : b.blocked ≡ []
  pub below : goal < 2 ^ length sig
  pub greatest : IsGreatestInvariant c sig o.strength clauses
  pub spent : IsSpent (excludes_formula c sig clauses goal) o.lemmas b.proof

abbrev pub IsSpentQuery : Parts → List ℕ → Options → List Entry → List (Option SeedLine) → BlockName → Block → Type 0
IsSpentQuery c sig o es seeds (names.Sweep step) b = IsSpentSearch c sig o.lemmas es Reset o.depth step b
IsSpentQuery c sig o es seeds (names.Hop batch step) b = IsSpentHop c sig o es seeds batch step b
IsSpentQuery c sig o es seeds (names.Kept place clauses) b = IsSpentKept c sig o place clauses b
IsSpentQuery c sig o es seeds (names.Excludes goal clauses) b = IsSpentExcludes c sig o goal clauses b

pub record AreSpents (c : Parts) (sig : List ℕ) (o : Options) (es : List Entry) (seeds : List (Option SeedLine)) (spents : List Block) : Type 0 where
  pub ordered : AllPairs ComesBefore spents
  pub each : All (λ (b : Block). IsSpentQuery c sig o es seeds b.name b) spents
