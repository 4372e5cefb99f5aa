-- The visits of a batch, one after another, as findings.
use Rattle.std.specs.Prelude.{◌≡◌, ◌++◌, ◌∷◌, [], ◌⊎◌, ℕ, Bool, List}
use Rattle.aig_model.specs.Replays.{Shows}
use Rattle.aig_model.specs.declared.parts.Parts.{Parts}
use Rattle.aig_model.specs.declared.trace.Trace.{Trace}
use Rattle.board_core.specs.declared.entry.Source.TheVariants.{Walk}
use Rattle.sim_walk.specs.declared.visit.Visit.{Visit}
use Rattle.sweep_search.specs.Sweep.{IsMarked}
use Rattle.run_report.specs.declared.posts.Basis.TheVariants.{Witness}
use Rattle.run_report.specs.declared.posts.Finding.{Finding}

-- the finding of a visit, with a trace that shows its goal
pub record AddsOne (c : Parts) (sig : List ℕ) (batch : ℕ) (v : Visit) (old new : List Finding) : Type 0 where
  pub witness : Trace
  pub shows : Shows c sig witness v.goal
  pub after : new ≡ old ++ record { goal = v.goal; source = Walk batch; basis = Witness witness } ∷ []

-- nothing, where the goal is marked
abbrev pub AddsVisit : Parts → List ℕ → ℕ → List Bool → Visit → List Finding → List Finding → Type 0
AddsVisit c sig batch known v old new = (IsMarked known v.goal × (new ≡ old)) ⊎ ((¬ IsMarked known v.goal) × AddsOne c sig batch v old new)
