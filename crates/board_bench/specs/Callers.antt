-- Callers of a board, and what they are to post.
use Rattle.std.specs.Prelude.{◌≡◌, ℕ, ◌*◌, ◌<◌, All}
use Rattle.aig_model.specs.SignalList.{SignalList}
use Rattle.aig_model.specs.Meaning.{Reachable}
use Rattle.inv_cert.specs.Evidences.{Evidence}
use Rattle.goal_board.specs.Passes.{BoardState, PassState, IsPassOf}
use Rattle.board_bench.specs.declared.caller.Caller.{Caller}

-- the evidence is for these signals, and of a goal that is reached
pub record IsReached (signals : SignalList) (e : Evidence) : Type 0 where
  pub signals_are : e.signals ≡ signals
  pub reached : Reachable signals.circuit signals.lits e.goal

-- the board's options have a round
abbrev pub HasRounds : BoardState → Type 0
HasRounds board = 0 < board.terms.options.batches * board.terms.options.rounds

-- the caller may post what it has on the board
pub record IsReady (board : BoardState) (c : Caller) : Type 0 where
  pub of_board : IsPassOf board c.pass
  pub reached : All (IsReached board.terms.signals.value) c.evidence.items
  pub rounds : HasRounds board
