-- What the ends of the jobs leave in a report: bounds, queries, seeds and clauses.
use Rattle.std.specs.Prelude.{◌≡◌, ◌<◌, ◌++◌, ◌∷◌, ℕ, zero, suc, Bool, true, false, List, [], length, map, get_or, set, Option, Some, None, is_some}
use Rattle.std.specs.List.{enumerate_from, flat_map}
use Rattle.sim_walk.specs.declared.options.Options.{Options}
use Rattle.report_text.specs.declared.report.HopBound.{HopBound}
use Rattle.report_text.specs.declared.report.SeedLine.{SeedLine}
use Rattle.report_text.specs.declared.report.Inv.{Inv}
use Rattle.report_text.specs.declared.report.BlockName.{BlockName}
use Rattle.report_text.specs.declared.report.BlockName.TheVariants as names
use Rattle.report_text.specs.declared.report.Block.{Block}
use Rattle.run_report.specs.declared.ends.BatchEnd.{BatchEnd}
use Rattle.run_report.specs.declared.ends.ProverEnd.{ProverEnd}
use Rattle.run_report.specs.declared.ends.ProverEnd.TheVariants.{NotRun, AllSettled, Spent, Whole}
use Rattle.run_report.specs.declared.ends.Ends.{Ends}
use Rattle.run_report.specs.declared.open_goals.OpenBounds.{OpenBounds}
use Rattle.run_report.specs.Bounds.{sweep_step, proof_step, first_step, whole_up_to, hop_bound}
use Rattle.run_report.specs.Ends.{optional}

-- ---- queries
abbrev pub spents_of : BatchEnd → List Block
spents_of end = optional end.hop.spent

abbrev pub refutes_of : BatchEnd → List Block
refutes_of end = end.hop.refuted

abbrev pub hop_spents : List BatchEnd → List Block
hop_spents ends = flat_map spents_of ends

abbrev pub hop_refutes : List BatchEnd → List Block
hop_refutes ends = flat_map refutes_of ends

abbrev pub prover_blocks : ProverEnd → List Block
prover_blocks NotRun = []
prover_blocks AllSettled = []
prover_blocks (Spent b) = b ∷ []
prover_blocks (Whole inv spents) = spents

abbrev pub all_spents : Ends → List Block
all_spents ends = optional ends.sweep.spent ++ hop_spents ends.batches ++ prover_blocks ends.prover

abbrev pub all_refutes : Ends → List Block
all_refutes ends = ends.sweep.refuted ++ hop_refutes ends.batches

-- ---- bounds
abbrev pub end_bound : Options → ℕ → BatchEnd → HopBound
end_bound o batch end = hop_bound o (optional end.hop.spent) batch end.seed

abbrev pub hops_of : Options → List BatchEnd → List HopBound
hops_of o ends = map (λ p. end_bound o p.0 p.1) (enumerate_from 0 ends)

-- the strength of the proofs for a goal without a spent query of its own
abbrev pub strength_after : Options → ProverEnd → Option ℕ
strength_after o NotRun = None
strength_after o AllSettled = Some o.strength
strength_after o (Spent b) = None
strength_after o (Whole inv spents) = Some o.strength

-- the query of a goal is spent
abbrev pub cut_after : List Bool → BlockName → List Bool
cut_after cut (names.Sweep step) = cut
cut_after cut (names.Hop batch step) = cut
cut_after cut (names.Kept place clauses) = cut
cut_after cut (names.Excludes goal clauses) = set cut goal true

-- the queries that are spent for goals of their own
abbrev pub excludes_blocks : ProverEnd → List Block
excludes_blocks NotRun = []
excludes_blocks AllSettled = []
excludes_blocks (Spent b) = []
excludes_blocks (Whole inv spents) = spents

abbrev pub AreCut : List Block → List Bool → Type 0
AreCut spents cut = (goal : ℕ) → goal < length cut → get_or cut goal false ≡ is_some (first_step (proof_step goal) spents)

pub record AreBounds (o : Options) (goals : ℕ) (ends : Ends) (b : OpenBounds) : Type 0 where
  pub depth : b.depth ≡ whole_up_to o.depth (first_step sweep_step (optional ends.sweep.spent))
  pub hops : b.hops ≡ hops_of o ends.batches
  pub strength : b.strength ≡ strength_after o ends.prover
  pub size : length b.cut ≡ goals
  pub cut : AreCut (excludes_blocks ends.prover) b.cut

-- ---- seeds and clauses
abbrev pub seeds_of : List BatchEnd → List (Option SeedLine)
seeds_of ends = map (λ (end : BatchEnd). end.seed) ends

-- the clauses, where some goal is unreachable
abbrev pub invs_from : ℕ → Option Inv → List Inv
invs_from zero inv = []
invs_from (suc unreachable) None = []
invs_from (suc unreachable) (Some inv) = inv ∷ []

-- what prover blocks name is below the number of goals, and is about one goal
abbrev pub NamesGoal : ℕ → BlockName → Type 0
NamesGoal goals (names.Sweep step) = ⊥
NamesGoal goals (names.Hop batch step) = ⊥
NamesGoal goals (names.Kept place clauses) = ⊥
NamesGoal goals (names.Excludes goal clauses) = goal < goals
