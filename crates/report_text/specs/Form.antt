-- The form of a report: what its text can hold.
use Rattle.std.specs.Prelude.{◌≡◌, ℕ, ℤ, ◌<◌, ◌^◌, List, [], length, Option, Some, None, IfSome}
use Rattle.std.specs.List.{AllByRecursion}
use Rattle.std.specs.List.Sorted.{IsStrictlyIncreasing}
use Rattle.aig_model.specs.declared.trace.Trace.{Trace}
use Rattle.lrat_text.specs.declared.proof.LratStep.{LratStep}
use Rattle.lrat_text.specs.Lrat.{IsLiteral}
use Rattle.lrat_text.specs.Text.{IsWritable, HasProofLiterals}
use Rattle.sim_walk.specs.declared.options.Options.{Options}
use Rattle.board_core.specs.declared.entry.Source.{Source}
use Rattle.board_core.specs.declared.entry.Source.TheVariants as sources
use Rattle.board_core.specs.declared.entry.Entry.{Entry}
use Rattle.report_text.specs.declared.report.HopBound.{HopBound}
use Rattle.report_text.specs.declared.report.HopBound.TheVariants as hop_bounds
use Rattle.report_text.specs.declared.report.GoalBlock.{GoalBlock}
use Rattle.report_text.specs.declared.report.GoalBlock.TheVariants as blocks
use Rattle.report_text.specs.declared.report.SeedLine.{SeedLine}
use Rattle.report_text.specs.declared.report.Inv.{Inv}
use Rattle.report_text.specs.declared.report.BlockName.{BlockName}
use Rattle.report_text.specs.declared.report.BlockName.TheVariants as names
use Rattle.report_text.specs.declared.report.Block.{Block}
use Rattle.report_text.specs.declared.report.Report.{Report}
use Rattle.report_text.specs.Text.{report_text}

-- ---- the ranges of the numbers in a report's text
pub record FitsOptions (o : Options) : Type 0 where
  pub depth : o.depth < 2 ^ 32
  pub batches : o.batches < 2 ^ 32
  pub length : o.length < 2 ^ 32
  pub stall : o.stall < 2 ^ 32
  pub hop : o.hop < 2 ^ 32
  pub seed : o.seed < 2 ^ 64
  pub lemmas : o.lemmas < 2 ^ 64
  pub strength : o.strength < 2 ^ 32
  pub rounds : o.rounds < 2 ^ 32

abbrev pub FitsSource : Source → Type 0
FitsSource sources.Zero = Unit {0}
FitsSource (sources.Walk b) = b < 2 ^ 32
FitsSource sources.Sweep = Unit {0}
FitsSource (sources.Hop b) = b < 2 ^ 32
FitsSource (sources.Again r) = r < 2 ^ 32
FitsSource sources.Proved = Unit {0}

pub record FitsEntry (e : Entry) : Type 0 where
  pub number : e.number < 2 ^ 64
  pub caller : e.caller < 2 ^ 32
  pub goal : e.goal < 2 ^ 32
  pub source : FitsSource e.source
  pub low : e.low < 2 ^ 64

abbrev pub FitsHop : HopBound → Type 0
FitsHop (hop_bounds.To n) = n < 2 ^ 32
FitsHop hop_bounds.Nothing = Unit {0}
FitsHop hop_bounds.NoSeed = Unit {0}

-- the start is as wide as the size line says, and so is each row
pub record FitsTrace (inputs latches : ℕ) (t : Trace) : Type 0 where
  pub start_wide : length t.start ≡ latches
  pub width_is : t.rows.width ≡ inputs
  pub rows_wide : AllByRecursion (λ row. length row ≡ inputs) t.rows.rows
  pub some : 0 < length t.rows.rows

pub record FitsSeedLine (inputs latches : ℕ) (s : SeedLine) : Type 0 where
  pub start_wide : length s.start ≡ latches
  pub width_is : s.rows.width ≡ inputs
  pub rows_wide : AllByRecursion (λ row. length row ≡ inputs) s.rows.rows
  pub count : length s.rows.rows < 2 ^ 32
  pub state_wide : length s.state ≡ latches

abbrev pub FitsSeed : ℕ → ℕ → Option SeedLine → Type 0
FitsSeed inputs latches None = Unit {0}
FitsSeed inputs latches (Some s) = FitsSeedLine inputs latches s

-- the ids, hints and literals of each step are those of the format of proofs
pub record FitsProof (p : List LratStep) : Type 0 where
  pub count : length p < 2 ^ 32
  pub ids : IsWritable p
  pub literals : HasProofLiterals p

abbrev pub FitsClause : List ℤ → Type 0
FitsClause c = AllByRecursion IsLiteral c

pub record FitsClauses (cs : List (List ℤ)) : Type 0 where
  pub count : length cs < 2 ^ 32
  pub each : AllByRecursion FitsClause cs

-- a proof for each clause
pub record FitsInv (i : Inv) : Type 0 where
  pub clauses : FitsClauses i.clauses
  pub size : length i.kept ≡ length i.clauses
  pub kept : AllByRecursion FitsProof i.kept

pub record FitsUnreachable (number inv : ℕ) (p : List LratStep) : Type 0 where
  pub number_fits : number < 2 ^ 64
  pub inv_fits : inv < 2 ^ 32
  pub proof : FitsProof p

pub record FitsOpen (depth : Option ℕ) (hops : List HopBound) (strength : Option ℕ) : Type 0 where
  pub depth_fits : IfSome depth (λ d. d < 2 ^ 32)
  pub hops_fit : AllByRecursion FitsHop hops
  pub strength_fits : IfSome strength (λ s. s < 2 ^ 32)

abbrev pub FitsBlock : ℕ → ℕ → GoalBlock → Type 0
FitsBlock inputs latches (blocks.Reached n witness) = (n < 2 ^ 64) × FitsTrace inputs latches witness
FitsBlock inputs latches (blocks.Unreachable n inv proof) = FitsUnreachable n inv proof
FitsBlock inputs latches (blocks.Open depth hops strength) = FitsOpen depth hops strength

-- goals in rising order
pub record FitsBlocked (goals : List ℕ) : Type 0 where
  pub count : length goals < 2 ^ 32
  pub each : AllByRecursion (λ goal. goal < 2 ^ 32) goals
  pub rising : IsStrictlyIncreasing goals

-- the queries of a search leave goals out, and the others don't
abbrev pub FitsSearch : BlockName → List ℕ → Type 0
FitsSearch (names.Sweep step) goals = (step < 2 ^ 32) × FitsBlocked goals
FitsSearch (names.Hop batch step) goals = (batch < 2 ^ 32) × (step < 2 ^ 32) × FitsBlocked goals
FitsSearch (names.Kept place clauses) goals = ⊥
FitsSearch (names.Excludes goal clauses) goals = ⊥

abbrev pub FitsQuery : BlockName → List ℕ → Type 0
FitsQuery (names.Sweep step) goals = FitsSearch (names.Sweep step) goals
FitsQuery (names.Hop batch step) goals = FitsSearch (names.Hop batch step) goals
FitsQuery (names.Kept place clauses) goals = (place < 2 ^ 32) × FitsClauses clauses × (goals ≡ [])
FitsQuery (names.Excludes goal clauses) goals = (goal < 2 ^ 32) × FitsClauses clauses × (goals ≡ [])

pub record FitsSpent (b : Block) : Type 0 where
  pub query : FitsQuery b.name b.blocked
  pub proof : FitsProof b.proof

-- only searches are refuted in a report
pub record FitsRefute (b : Block) : Type 0 where
  pub query : FitsSearch b.name b.blocked
  pub proof : FitsProof b.proof

-- a section counts its items in 32 bits
pub record IsCounted {A : Type 0} (Fits : A → Type 0) (xs : List A) : Type 0 where
  pub count : length xs < 2 ^ 32
  pub items : AllByRecursion Fits xs

pub record HasForm (r : Report) : Type 0 where
  pub inputs : r.inputs < 2 ^ 32
  pub latches : r.latches < 2 ^ 32
  pub signals : r.signals < 2 ^ 32
  pub options : FitsOptions r.options
  pub history : IsCounted FitsEntry r.history
  pub seeds : IsCounted (FitsSeed r.inputs r.latches) r.seeds
  pub invs : IsCounted FitsInv r.invs
  pub goals : IsCounted (FitsBlock r.inputs r.latches) r.goals
  pub spents : IsCounted FitsSpent r.spents
  pub refutes : IsCounted FitsRefute r.refutes
  pub reached : r.reached < 2 ^ 32
  pub unreachable : r.unreachable < 2 ^ 32
  pub unsettled : r.unsettled < 2 ^ 32

-- no two reports that have the form have one text
abbrev pub OneReport : Type 0
OneReport = (r s : Report) → HasForm r → HasForm s → report_text r ≡ report_text s → r ≡ s
