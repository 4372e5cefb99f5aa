use Rattle.std.proofs.Common.{◌<◌, ◌^◌, inl, inr, arith}
use Rattle.sim_batch.proofs.Overs.{no_visit_stalled, stalled_no_visit}
use Rattle.sim_lanes.proofs.Overs.{live_lives, lives_live}
use Rattle.sim_lanes.proofs.over.is_over.Goals as goal

pub returns-then-lanes-eq0 : goal.returns-then-lanes-eq0
returns-then-lanes-eq0 c = λ drives size are so. (
  λ is. inl (λ lives. lives_live c.args.circuit.now c.args.signals.now.lits drives c.args.step c.args.lanes.now size c.if-lanes-eq0.true are lives),
  λ over. cc,
)

pub returns-else-lanes-eq0 : goal.returns-else-lanes-eq0
returns-else-lanes-eq0 c = λ drives size are so. (
  λ is. (
      let stalled = (c.is_stalled.ensures so.ordered).0 is in
      inr (no_visit_stalled c.args.circuit.now c.args.signals.now.lits drives c.args.step c.args.stall c.args.visits.now so stalled.0 stalled.1)
      ),
  λ over. elim over [
    | inl none ↦ (
        let fits : c.args.lanes.now.live < 2 ^ 64 = omega arith in
        absurd (none (live_lives c.args.circuit.now c.args.signals.now.lits drives c.args.step c.args.lanes.now size fits (omega (arith, c.if-lanes-eq0.false)) are))
        )
    | inr stalled ↦ (c.is_stalled.ensures so.ordered).1 (stalled.enough, stalled_no_visit c.args.circuit.now c.args.signals.now.lits drives c.args.step c.args.stall c.args.visits.now so stalled)
  ],
)
