-- The bounds of an open goal: how far the searches and the proofs that the options ask for went.
use Rattle.std.specs.Prelude.{ℕ, zero, suc, Bool, true, false, if◌then◌else◌, List, [], ◌∷◌, map, Option, Some, None, nat_eq}
use Rattle.std.specs.List.{enumerate_from, filter_map, list_any}
use Rattle.sim_walk.specs.declared.options.Options.{Options}
use Rattle.report_text.specs.declared.report.HopBound.{HopBound}
use Rattle.report_text.specs.declared.report.HopBound.TheVariants as hop_bounds
use Rattle.report_text.specs.declared.report.SeedLine.{SeedLine}
use Rattle.report_text.specs.declared.report.BlockName.{BlockName}
use Rattle.report_text.specs.declared.report.BlockName.TheVariants.{Sweep, Hop, Kept, Excludes}
use Rattle.report_text.specs.declared.report.Block.{Block}
use Rattle.report_text.specs.declared.report.Report.{Report}

-- ---- what a spent query cuts off
-- the step of a query of the sweep
abbrev pub sweep_step : BlockName → Option ℕ
sweep_step (Sweep t) = Some t
sweep_step (Hop b t) = None
sweep_step (Kept i clauses) = None
sweep_step (Excludes g clauses) = None

-- the step of a query of this batch's hop
abbrev pub hop_step : ℕ → BlockName → Option ℕ
hop_step batch (Sweep t) = None
hop_step batch (Hop b t) = if nat_eq b batch then Some t else None
hop_step batch (Kept i clauses) = None
hop_step batch (Excludes g clauses) = None

-- the query asks whether a clause is kept
abbrev pub is_kept_query : BlockName → Bool
is_kept_query (Sweep t) = false
is_kept_query (Hop b t) = false
is_kept_query (Kept i clauses) = true
is_kept_query (Excludes g clauses) = false

-- the query asks whether the goal is excluded
abbrev pub excludes_goal : ℕ → BlockName → Bool
excludes_goal goal (Sweep t) = false
excludes_goal goal (Hop b t) = false
excludes_goal goal (Kept i clauses) = false
excludes_goal goal (Excludes g clauses) = nat_eq g goal

-- the first step that a block names
abbrev pub first_of : List ℕ → Option ℕ
first_of [] = None
first_of (t ∷ ts) = Some t

abbrev pub steps_of : (BlockName → Option ℕ) → List Block → List ℕ
steps_of step blocks = filter_map (λ (b : Block). step b.name) blocks

abbrev pub first_step : (BlockName → Option ℕ) → List Block → Option ℕ
first_step step blocks = first_of (steps_of step blocks)

-- The last step that was searched whole: all that was asked for, or up to the step before the spent one.
abbrev pub whole_up_to : ℕ → Option ℕ → Option ℕ
whole_up_to asked None = Some asked
whole_up_to asked (Some zero) = None
whole_up_to asked (Some (suc t)) = Some t

-- ---- the bounds
abbrev pub hop_of : Option ℕ → HopBound
hop_of None = hop_bounds.Nothing
hop_of (Some t) = hop_bounds.To t

abbrev pub hop_bound : Options → List Block → ℕ → Option SeedLine → HopBound
hop_bound o spents batch None = hop_bounds.NoSeed
hop_bound o spents batch (Some seed) = hop_of (whole_up_to o.hop (first_step (hop_step batch) spents))

-- of the sweep
abbrev pub depth_of : Report → Option ℕ
depth_of r = whole_up_to r.options.depth (first_step sweep_step r.spents)

-- of the hop from each batch's seed
abbrev pub hops_of : Report → List HopBound
hops_of r = map (λ p. hop_bound r.options r.spents p.0 p.1) (enumerate_from 0 r.seeds)

-- of the proofs, where no query whether a clause is kept is spent
abbrev pub kept_strength : Report → Option ℕ
kept_strength r = if list_any (λ (b : Block). is_kept_query b.name) r.spents then None else Some r.options.strength

-- and for this goal, where its own isn't either
abbrev pub strength_of : Report → ℕ → Option ℕ
strength_of r goal = if list_any (λ (b : Block). excludes_goal goal b.name) r.spents then None else kept_strength r
