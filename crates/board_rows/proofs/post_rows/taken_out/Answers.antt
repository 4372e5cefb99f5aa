use Rattle.std.proofs.Common.{◌≡◌, List, ◌∙◌}
use Rattle.goal_board.specs.Passes.{PassState}
use Rattle.board_rows.proofs.Listed.{moved_on}
use Rattle.board_rows.proofs.post_rows.taken_out.Goals as goal

pub loop-pass-preserved : goal.loop-pass-preserved
loop-pass-preserved c =
    let at = c.loop-pass in
    record {
      passes = rw c.in_ok-insert.ensures.items (moved_on (λ (l : List PassState). l ≡ c.args.passes.now.passes) at.passes.passes c.pop.new.self.passes at.taken.items c.in-Some.pass c.in-Some.ensures.some at.invariant.passes);
      room = c.pop.ensures.same.0 ∙ at.invariant.room;
      goals = c.pop.ensures.same.1 ∙ at.invariant.goals;
    }
