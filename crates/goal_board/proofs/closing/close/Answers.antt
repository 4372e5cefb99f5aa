use Rattle.std.proofs.Common.{arith, ◌≡◌, ℕ, ◌+◌, length, get_or, List, ap, sym, ◌∙◌}
use Rattle.goal_board.proofs.LastSeat.{ends}
use Rattle.goal_board.proofs.closing.close.Goals as goal

pub free-requires : goal.free-requires
free-requires c = λ k lt. absurd (omega (arith, lt, c.close_with-closed.ensures.counts.1, c.requires.table.1))

pub returns : goal.returns
returns c =
    let f = c.close_with-closed.ensures.values.2 in
    let s = f.0 in
    let t = c.args.table.shared.key in
    let goals : length c.marks_in-marks.result.items ≡ t.goals = omega (arith, c.marks_in-marks.ensures.count, c.word_count-goals.ensures, c.requires.table.0) in
    ends t s.words s.views c.args.seat.id c.args.seat.me.0 f.1.0 f.1.1 c.requires.seat.1 c.requires.seat.2 c.requires.idle c.marks_in-marks.result.items goals
    (λ g m lt e. c.marks_in-marks.ensures.marks g m (omega (arith, lt, goals, c.marks_in-marks.ensures.count)) (ap (λ (ws : List ℕ). get_or ws (g + 1) 0) (sym f.2) ∙ e))
