use Rattle.std.proofs.Common.{sym, subst}
use Rattle.aig_model.specs.declared.parts.Parts.{Parts}
use Rattle.aig_model.specs.Meaning.{Reachable}
use Rattle.aig_eval.proofs.Replays.{shown_is_reachable}
use Rattle.board_rows.proofs.posting.evidence_by.Goals as goal

pub returns-in-Ok : goal.returns-in-Ok
returns-in-Ok c =
    let signals = c.args.signals.now in
    let e = c.in-Ok.evidence in
    record {
      signals_are = c.in-Ok.ensures.value.0;
      reached = subst (λ (p : Parts). Reachable p signals.lits e.goal) (sym c.requires.circuit) (shown_is_reachable c.args.circuit.now signals.lits c.args.trace e.goal c.in-Ok.ensures.shows);
    }
