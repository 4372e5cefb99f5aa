use Rattle.std.proofs.Common.{arith, ◌≡◌, ℕ, ◌+◌, ◌-◌, subst}
use Rattle.goal_board.specs.Rule.{looked, Tells}
use Rattle.goal_board.proofs.Steps.{looks_allowed}
use Rattle.goal_board.proofs.table.load.Goals as goal

pub load-requires : goal.load-requires
load-requires c = (c.requires.seat.0, omega (arith, c.requires.goal, c.requires.table), looks_allowed c.args.table.now.shared.key _ _ c.args.seat.now.me c.args.goal c.requires.seat.1 c.requires.goal)

pub returns-clause-looked : goal.returns-clause-looked
returns-clause-looked c =
    let p = c.load.ensures.2 in
    let same : c.args.goal + 1 - 1 ≡ c.args.goal = omega arith in
    (p.0, p.1, subst (λ (g : ℕ). c.load.new.seat.me ≡ (looked c.args.seat.now.me.0 g p.0, c.args.seat.now.me.1)) same p.2, subst (λ (g : ℕ). Tells c.args.seat.now.me.0 g p.0) same p.3)
