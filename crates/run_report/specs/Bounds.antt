-- The bounds of an open goal: how far the searches and the proofs that the options ask for went.
use Rattle.std.specs.Prelude.{ℕ, zero, suc, if◌then◌else◌, List, [], ◌∷◌, map, Option, Some, None, nat_eq}
use Rattle.std.specs.List.{enumerate_from, filter_map}
use Rattle.sim_walk.specs.declared.options.Options.{Options}
use Rattle.report_text.specs.declared.report.HopBound.{HopBound}
use Rattle.report_text.specs.declared.report.HopBound.TheVariants as hop_bounds
use Rattle.report_text.specs.declared.report.SeedLine.{SeedLine}
use Rattle.report_text.specs.declared.report.BlockName.{BlockName}
use Rattle.report_text.specs.declared.report.BlockName.TheVariants.{Sweep, Hop, Kept, Excludes}
use Rattle.report_text.specs.declared.report.Block.{Block}
use Rattle.report_text.specs.declared.report.Report.{Report}
use Rattle.run_report.specs.Scope.{Scope}

-- the strength that proofs are asked for, of a run with a prover
abbrev pub asked_strength : Scope → Options → Option ℕ
asked_strength scope o = if scope.proves then Some o.strength else None

-- ---- what a spent query cuts off
-- the step of a query of the sweep
abbrev pub sweep_step : BlockName → Option ℕ
sweep_step (Sweep t) = Some t
sweep_step (Hop b t) = None
sweep_step (Kept i clauses) = None
sweep_step (Excludes g clauses) = None

-- the step of a query of this batch's hop
abbrev pub hop_step : ℕ → BlockName → Option ℕ
hop_step batch (Sweep t) = None
hop_step batch (Hop b t) = if nat_eq b batch then Some t else None
hop_step batch (Kept i clauses) = None
hop_step batch (Excludes g clauses) = None

-- a query without whose answer nothing is proved of the goal; where it stands doesn't matter
abbrev pub proof_step : ℕ → BlockName → Option ℕ
proof_step goal (Sweep t) = None
proof_step goal (Hop b t) = None
proof_step goal (Kept i clauses) = Some 0
proof_step goal (Excludes g clauses) = if nat_eq g goal then Some 0 else None

-- the first step that a block names
abbrev pub first_of : List ℕ → Option ℕ
first_of [] = None
first_of (t ∷ ts) = Some t

abbrev pub steps_of : (BlockName → Option ℕ) → List Block → List ℕ
steps_of step blocks = filter_map (λ (b : Block). step b.name) blocks

abbrev pub first_step : (BlockName → Option ℕ) → List Block → Option ℕ
first_step step blocks = first_of (steps_of step blocks)

-- The last step that was searched whole: all that was asked for, or up to the step before the spent one.
abbrev pub whole_up_to : ℕ → Option ℕ → Option ℕ
whole_up_to asked None = Some asked
whole_up_to asked (Some zero) = None
whole_up_to asked (Some (suc t)) = Some t

-- all that was asked for, or nothing where a query is spent
abbrev pub unless_spent : Option ℕ → Option ℕ → Option ℕ
unless_spent asked None = asked
unless_spent asked (Some t) = None

-- ---- the bounds
pub record Bounds : Type 0 where
  pub depth : Option ℕ
  pub hops : List HopBound
  pub strength : Option ℕ

abbrev pub hop_of : Option ℕ → HopBound
hop_of None = hop_bounds.Nothing
hop_of (Some t) = hop_bounds.To t

abbrev pub hop_bound : Options → List Block → ℕ → Option SeedLine → HopBound
hop_bound o spents batch None = hop_bounds.NoSeed
hop_bound o spents batch (Some seed) = hop_of (whole_up_to o.hop (first_step (hop_step batch) spents))

-- Of the sweep, of the hop from each batch's seed, and of the proofs for this goal.
abbrev pub bounds_of : Scope → Report → ℕ → Bounds
bounds_of scope r goal = record {
  depth = whole_up_to r.options.depth (first_step sweep_step r.spents);
  hops = map (λ p. hop_bound r.options r.spents p.0 p.1) (enumerate_from 0 r.seeds);
  strength = unless_spent (asked_strength scope r.options) (first_step (proof_step goal) r.spents);
}
