-- The history that a board ends with, with its evidence and the marks of its goals.
use Rattle.std.specs.Prelude.{◌≡◌, ℕ, List, length, slice_get, All, Contains, Option, None, Some}
use Rattle.board_core.specs.declared.entry.Entry.{Entry}
use Rattle.board_core.specs.declared.event.Event.{Event}
use Rattle.board_core.specs.History.{IsLegalHistory, IsInOrder}
use Rattle.board_core.specs.Core.{Core, initial_core}
use Rattle.board_core.specs.Good.{IsEntry, Leads}
use Rattle.inv_cert.specs.Evidences.{Evidence, IsEvidence, kind_of}
use Rattle.goal_board.specs.declared.view.Terms.{Terms}
use Rattle.goal_board.specs.Rule.{IsFound}
use Rattle.goal_board.specs.Passes.{PassState, IsShownBy}

-- the history is legal, what a caller had seen stands before its entry, and each source settles its goal
pub record IsHistory (t : Terms) (history : List Entry) : Type 0 where
  pub legal : IsLegalHistory t.options t.goals history
  pub ordered : IsInOrder history
  pub found : All (IsFound t) history

-- events of the core, each of which may happen, lead from a core in which nothing has happened to one with this history
pub record IsLed (goals : ℕ) (history : List Entry) : Type 0 where
  pub events : List Event
  pub core : Core
  pub led : Leads events (initial_core 1 goals) core
  pub history_is : core.history ≡ history

-- the entry stands at its number, and there is its evidence
pub record IsAtNumber (history : List Entry) (evidence : List Evidence) (e : Entry) (v : Evidence) : Type 0 where
  pub entry : IsEntry history e.number e
  pub evidence_is : slice_get evidence e.number ≡ Some v

-- each post of the pass stands at its number
abbrev pub AreAtNumbers : List Entry → List Evidence → PassState → Type 0
AreAtNumbers history evidence pass =
    (k : ℕ) (e : Entry) (v : Evidence) → slice_get pass.known.entries k ≡ Some e → slice_get pass.evidence k ≡ Some v → IsAtNumber history evidence e v

-- one of the passes posted the entry
pub record IsPostedBy (passes : List PassState) (e : Entry) : Type 0 where
  pub pass : PassState
  pub one : Contains passes pass
  pub its : Contains pass.known.entries e

-- the evidence was checked, is for the board's signals, and of the entry's goal and kind, and has what the source has to show
pub record IsEvidenceOf (t : Terms) (e : Entry) (v : Evidence) : Type 0 where
  pub checked : IsEvidence v
  pub signals_are : v.signals ≡ t.signals.value
  pub goal : v.goal ≡ e.goal
  pub kind : kind_of v.basis ≡ e.kind
  pub shown : IsShownBy t e.source v.basis

-- each entry has evidence, which stands at the entry's place
pub record AreEvidenced (t : Terms) (history : List Entry) (evidence : List Evidence) : Type 0 where
  pub count : length evidence ≡ length history
  pub each : (k : ℕ) (e : Entry) (v : Evidence) → IsEntry history k e → slice_get evidence k ≡ Some v → IsEvidenceOf t e v

-- some entry is for the goal
pub record HasEntry (history : List Entry) (goal : ℕ) : Type 0 where
  pub number : ℕ
  pub entry : Entry
  pub place : IsEntry history number entry
  pub goal_is : entry.goal ≡ goal

-- a mark is the number of an entry for the goal; without one there is no such entry
abbrev pub IsMark : List Entry → ℕ → Option ℕ → Type 0
IsMark history goal None = ¬ HasEntry history goal
IsMark history goal (Some n) = (e : Entry) × IsEntry history n e × (e.goal ≡ goal)

-- one mark for each goal
pub record AreMarks (goals : ℕ) (history : List Entry) (marks : List (Option ℕ)) : Type 0 where
  pub count : length marks ≡ goals
  pub each : (goal : ℕ) (mark : Option ℕ) → slice_get marks goal ≡ Some mark → IsMark history goal mark
