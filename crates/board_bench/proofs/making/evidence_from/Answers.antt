use Rattle.std.proofs.Common.{All, sym, subst}
use Rattle.std.proofs.lemmas.List.Elements.{All-push}
use Rattle.board_bench.specs.Callers.{IsReached}
use Rattle.board_bench.proofs.making.evidence_from.Goals as goal

pub loop-preserved : goal.loop-preserved
loop-preserved c =
    let reached = IsReached c.args.signals.now in
    subst (All reached) (sym c.in_ok-push.ensures.items) (All-push reached c.loop.all.items c.in_ok-evidence.evidence c.loop.invariant c.in_ok-evidence.ensures)
