-- Boards and passes, as contracts see them.
use Rattle.std.specs.Prelude.{◌≡◌, ◌≢◌, ℕ, ◌+◌, ◌<◌, ◌≤◌, max, List, [], length, All, AllPairs, Option, Some, None}
use Rattle.atomic_table.specs.Seated.{TableId}
use Rattle.board_core.specs.declared.entry.Entry.{Entry}
use Rattle.board_core.specs.declared.entry.Source.{Source}
use Rattle.board_core.specs.declared.entry.Source.TheVariants.{Zero, Walk, Sweep, Hop, Again, Proved}
use Rattle.board_core.specs.declared.view.GoalMark.{GoalMark}
use Rattle.board_core.specs.declared.view.View.{View as Known}
use Rattle.board_core.specs.History.{kind_of}
use Rattle.board_core.specs.Core.{fresh_view}
use Rattle.inv_cert.specs.Certificates.{CertificateParts}
use Rattle.inv_cert.specs.Evidences.{Evidence}
use Rattle.inv_cert.specs.declared.evidence.Basis.{Basis}
use Rattle.inv_cert.specs.declared.evidence.Basis.TheVariants.{Clauses}
use Rattle.goal_facts.specs.Invariants.{IsGreatestInvariant}
use Rattle.goal_board.specs.declared.view.Terms.{Terms}
use Rattle.goal_board.specs.declared.calls.Look.{Look}
use Rattle.goal_board.specs.declared.calls.Look.TheVariants as looks

-- a board: no other has its table; its terms are the signals, the options, and how many goals and callers there are
pub record BoardState : Type 0 where
  pub table : TableId
  pub terms : Terms

-- a pass: its board's table, terms and number of goals; its caller, what that knows, and the evidence that it posted, in order
pub record PassState : Type 0 where
  pub table : TableId
  pub terms : Option Terms
  pub goals : ℕ
  pub caller : ℕ
  pub known : Known
  pub evidence : List Evidence

-- the passes at hand, and for how many passes and goals the list was made
pub record PassesState : Type 0 where
  pub passes : List PassState
  pub room : ℕ
  pub goals : ℕ

-- a caller's pass before its first call
abbrev pub new_pass : BoardState → ℕ → PassState
new_pass board caller = record {
  table = board.table;
  terms = Some board.terms;
  goals = board.terms.goals;
  caller = caller;
  known = fresh_view;
  evidence = [];
}

-- the pass is one of the board's
pub record IsPassOf (board : BoardState) (pass : PassState) : Type 0 where
  pub table : pass.table ≡ board.table
  pub terms : pass.terms ≡ Some board.terms
  pub goals : pass.goals ≡ board.terms.goals

-- the passes are all those of the board, in any order
pub record AreAllOf (board : BoardState) (s : PassesState) : Type 0 where
  pub of_board : All (IsPassOf board) s.passes
  pub count : length s.passes ≡ board.terms.callers
  pub distinct : AllPairs (λ (a b : PassState). a.caller ≢ b.caller) s.passes
  pub room : s.room ≡ board.terms.callers
  pub goals : s.goals ≡ board.terms.goals

-- the goal is in range, and the caller hasn't posted for it
pub record MayPost (pass : PassState) (goal : ℕ) : Type 0 where
  pub range : goal < pass.goals
  pub new : All (λ (e : Entry). e.goal ≢ goal) pass.known.entries

-- A certificate of the prover: its clauses are all of the greatest invariant among the candidates, in their order, and each proof has at most
-- one step more than the budget has lemmas.
pub record IsProverCert (t : Terms) (cert : CertificateParts) : Type 0 where
  pub greatest : IsGreatestInvariant t.signals.value.circuit t.signals.value.lits t.options.strength cert.base.clauses
  pub kept : All (λ proof. length proof ≤ t.options.lemmas + 1) cert.base.kept
  pub excludes : length cert.excludes ≤ t.options.lemmas + 1

-- What evidence has to show beside its goal.
abbrev pub IsShownBy : Terms → Source → Basis → Type 0
IsShownBy t Zero basis = Unit {0}
IsShownBy t (Walk b) basis = Unit {0}
IsShownBy t Sweep basis = Unit {0}
IsShownBy t (Hop b) basis = Unit {0}
IsShownBy t (Again r) basis = Unit {0}
IsShownBy t Proved basis = (cert : CertificateParts) → basis ≡ Clauses cert → IsProverCert t cert

-- the entry of a post
abbrev pub posted_entry : ℕ → ℕ → Source → ℕ → ℕ → Entry
posted_entry caller goal source number low = record { number = number; caller = caller; goal = goal; kind = kind_of source; source = source; low = low }

-- what a look tells that finds this mark, and how much of the history is seen after it
abbrev pub look_of : Option GoalMark → Look
look_of None = looks.Unsettled
look_of (Some m) = looks.Settled m.kind

abbrev pub front_after : ℕ → Option GoalMark → ℕ
front_after front None = front
front_after front (Some m) = max front (m.number + 1)
