use Rattle.std.proofs.Common.{All, Some, ap, sym, ◌∙◌, subst}
use Rattle.std.proofs.lemmas.List.Elements.{All-pop, All-push}
use Rattle.goal_board.specs.Passes.{PassState, IsPassOf}
use Rattle.board_bench.specs.Callers.{IsReady, IsReached}
use Rattle.board_bench.specs.declared.caller.Caller.{Caller}
use Rattle.board_bench.proofs.rounds.callers_of.Goals as goal

pub loop-pass-preserved : goal.loop-pass-preserved
loop-pass-preserved c =
    let i = c.loop-pass.invariant in
    let board = c.args.board.now in
    let of = All-pop (IsPassOf board) c.loop-pass.passes.passes c.pop.new.self.passes (Some c.in-Some.pass) c.in-Some.ensures.some i.passes in
    let new : Caller = record { pass = c.in-Some.pass; evidence = c.in_ok-evidence.evidence; posts = 0; looks = 0 } in
    let ready : IsReady board new = record { of_board = of.1; reached = subst (λ s. All (IsReached s) c.in_ok-evidence.evidence.items) (sym c.requires.signals) c.in_ok-evidence.ensures; rounds = c.requires.rounds } in
    record {
      passes = of.0;
      callers = subst (All (IsReady board)) (sym c.in_ok-push.ensures.items) (All-push (IsReady board) c.loop-pass.callers.items new i.callers ready);
    }
