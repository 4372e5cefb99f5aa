-- What the lines of the sections spell so far, and the uses that wait for a definition.
use Rattle.std.specs.Prelude.{◌≡◌, ℕ, true, List, ◌++◌, map}
use Rattle.aig_model.specs.WellFormed.{latch_lits, left_sides}
use Rattle.aig_model.specs.declared.parts.Latch.{Latch}
use Rattle.aig_model.specs.declared.parts.AndGate.{AndGate}
use Rattle.text_words.specs.Text.{Rest, number}
use Rattle.aig_ascii.specs.Demands.{Demand, demand}
use Rattle.aig_ascii.specs.Sections.{defines, is_known}
use Rattle.aig_ascii.specs.FirstFaults.{first_unmet}
use Rattle.aig_ascii.specs.declared.draft.Use.{Use}
use Rattle.aig_ascii.specs.declared.fault.AagKind.{AagKind}
use Rattle.aig_ascii.specs.declared.fault.AagKind.TheVariants.{Undefined}

pub record Draft : Type 0 where
  pub top : ℕ
  pub inputs : List ℕ
  pub latches : List Latch
  pub gates : List AndGate
  pub pending : List Use

-- the literals that define a variable
abbrev pub definers_of : Draft → List ℕ
definers_of d = d.inputs ++ (latch_lits d.latches ++ left_sides d.gates)

-- each variable that the first literals define, all of them define
abbrev pub Covers : List ℕ → List ℕ → Type 0
Covers all lits = (v : ℕ) → defines lits v ≡ true → defines all v ≡ true

abbrev pub use_of : Rest → Use
use_of f = record { at = f.at; lit = number f }

-- the literals of these uses are known
abbrev pub pending_demands : List ℕ → List Use → List (Demand AagKind)
pending_demands lits uses = map (λ (u : Use). demand u.at Undefined (is_known lits u.lit)) uses

-- the pending uses stand for all of them, whatever is defined beside these literals
abbrev pub StandFor : List ℕ → List Use → List Use → Type 0
StandFor lits pending uses = (all : List ℕ) → Covers all lits → first_unmet (pending_demands all pending) ≡ first_unmet (pending_demands all uses)
