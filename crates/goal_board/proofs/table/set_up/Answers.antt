use Rattle.std.proofs.Common.{rules, arith, ◌≤◌, ◌^◌, length}
use lib.Pow.{pow_mono}
use Rattle.goal_board.proofs.Seats.{opens}
use Rattle.goal_board.proofs.table.set_up.Goals as goal

pub of_words-requires : goal.of_words-requires
of_words-requires c =
    let most : 2 ^ length c.args.signals.now.lits ≤ 2 ^ 10 = pow_mono c.is_well_formed.ensures.few in
    opens _ _ (search rules) (omega (arith, c.from-2.ensures, c.requires.some)) (omega (arith, c.from-2.ensures, c.requires.few)) (omega (arith, c.from.ensures, c.goals-goals.ensures, most))
