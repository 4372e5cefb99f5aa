use Rattle.std.proofs.Common.{◌≡◌, ℕ, sym, ap, ◌∙◌, subst}
use Rattle.goal_board.specs.Rule.{Sat, looked}
use Rattle.goal_board.specs.Passes.{front_after}
use Rattle.goal_board.specs.Inside.{IsPass}
use Rattle.goal_board.proofs.Posts.{pass_looked}
use Rattle.goal_board.proofs.board.Board.look.Goals as goal

pub invariant_of-pass : goal.invariant_of-pass
invariant_of-pass c =
    let p = c.pass.inside in
    let seen = c.load.ensures.looked in
    let found = c.mark_in-found.ensures.mark seen.0 seen.1 in
    let front : front_after p.front seen.0 ≡ c.front_after-pass-inside.result = ap (front_after p.front) (sym found) ∙ sym c.front_after-pass-inside.ensures in
    subst (λ (m : Sat). IsPass p.posts p.posted.items p.caller c.front_after-pass-inside.result m) (sym seen.2)
    (subst (λ (x : ℕ). IsPass p.posts p.posted.items p.caller x (looked p.seat.me.0 c.args.goal seen.0, p.seat.me.1)) front
    (pass_looked p.posts p.posted.items p.caller p.front p.seat.me c.args.goal seen.0 c.pass.invariant))
