-- What a replay of a history keeps of the entries so far.
use Rattle.std.specs.Prelude.{◌↔◌, ℕ, ◌+◌, ◌*◌, ◌<◌, List, length, Bool, false, slice_index_or, IsTrue}
use Rattle.board_core.specs.declared.entry.Entry.{Entry}
use Rattle.board_core.specs.declared.event.Verdict.{Verdict}
use Rattle.board_core.specs.Faults.{HasPosted, AreVerdicts}

-- the place of a goal and one of eight callers
abbrev pub pair_place : ℕ → ℕ → ℕ
pair_place goal caller = goal * 8 + caller

-- of these entries: a verdict for each goal, and for each goal and caller whether the caller posted for it
pub record AreOf (es : List Entry) (vs : List Verdict) (pairs : List Bool) : Type 0 where
  pub verdicts : AreVerdicts es (length vs) vs
  pub posted : (goal caller : ℕ) → goal < length vs → caller < 8 → IsTrue (slice_index_or pairs (pair_place goal caller) false) ↔ HasPosted es caller goal
