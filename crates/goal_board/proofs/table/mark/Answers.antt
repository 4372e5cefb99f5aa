use Rattle.std.proofs.Common.{arith, ◌≡◌, ℕ, ◌+◌, eqb, subst, sym, Some}
use mathlib.Core.Option.{none}
use prog.Atomic.{either}
use Rattle.atomic_table.specs.Table.{Allows, step}
use Rattle.board_core.specs.Core.{word_of, mark_by}
use Rattle.goal_board.specs.Rule.{Marks}
use Rattle.goal_board.proofs.Steps.{Holds, marks_allowed}
use Rattle.goal_board.proofs.table.mark.Goals as goal

pub compare_exchange-requires : goal.compare_exchange-requires
compare_exchange-requires c =
    let e = c.args.entry.now in
    let t = c.args.table.now.shared.key in
    let z = c.args.table.now.shared.table_id in
    let seat = c.args.seat.now in
    let same : word_of (Some (mark_by e)) ≡ c.word_of-word.result = sym c.word_of-word.ensures in (
      c.requires.seat.0,
      omega (arith, c.requires.entry.1, c.requires.table),
      subst (λ (x : ℕ). Allows (Holds t) z.slots seat.id seat.me (e.goal + 1) (λ n. either (eqb n 0) x n) (Marks (step z.slots (e.goal + 1) 0 x none) seat.me)) same
          (marks_allowed t z.slots seat.id seat.me e c.requires.seat.1 c.requires.entry.0),
    )
