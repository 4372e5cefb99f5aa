-- Callers of a board.
use Rattle.std.specs.Prelude.{◌≡◌, ℕ, ◌*◌, ◌<◌, List}
use Rattle.aig_model.specs.SignalList.{SignalList}
use Rattle.aig_model.specs.Meaning.{Reachable}
use Rattle.inv_cert.specs.Evidences.{Evidence}
use Rattle.goal_board.specs.Passes.{BoardState, PassState, PassesState, IsPassOf}

-- the evidence is for these signals, and of a goal that is reached
pub record IsReached (signals : SignalList) (e : Evidence) : Type 0 where
  pub signals_are : e.signals ≡ signals
  pub reached : Reachable signals.circuit signals.lits e.goal

-- the board's options have a round
abbrev pub HasRounds : BoardState → Type 0
HasRounds board = 0 < board.terms.options.batches * board.terms.options.rounds

-- the pass is the same caller's, and the board's still
pub record HasPosted (board : BoardState) (before after : PassState) : Type 0 where
  pub of_board : IsPassOf board after
  pub caller : after.caller ≡ before.caller

-- passes at hand, of a list that was made for so many callers and goals
abbrev pub passes_at_hand : List PassState → ℕ → ℕ → PassesState
passes_at_hand passes room goals = record { passes = passes; room = room; goals = goals }
