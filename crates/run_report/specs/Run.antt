-- What the engines find, one after another.
use Rattle.std.specs.Prelude.{◌≡◌, ℕ, List, map}
use Rattle.aig_model.specs.declared.parts.Parts.{Parts}
use Rattle.aig_model.specs.declared.trace.Trace.{Trace}
use Rattle.board_core.specs.declared.entry.Source.TheVariants.{Zero, Sweep}
use Rattle.sim_walk.specs.declared.visit.Visit.{Visit}
use Rattle.sim_walk.specs.Zero.{IsZeroTrace}
use Rattle.sweep_search.specs.declared.swept.FoundGoal.{FoundGoal}
use Rattle.run_report.specs.declared.posts.Basis.TheVariants.{Witness}
use Rattle.run_report.specs.declared.posts.Finding.{Finding}

abbrev pub goals_of : List Finding → List ℕ
goals_of fs = map (λ (f : Finding). f.goal) fs

-- a visit of the zero walk, with the trace that leads to it
pub record IsZeroFinding (c : Parts) (v : Visit) (f : Finding) : Type 0 where
  pub goal : f.goal ≡ v.goal
  pub source : f.source ≡ Zero
  pub witness : Trace
  pub basis : f.basis ≡ Witness witness
  pub trace : IsZeroTrace c v.step witness

-- what the sweep finds
abbrev pub sweep_finding : FoundGoal → Finding
sweep_finding f = record { goal = f.goal; source = Sweep; basis = Witness f.trace }
