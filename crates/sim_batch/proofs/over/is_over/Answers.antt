use Rattle.std.proofs.Common.{◌≡◌, true, inl, inr}
use Rattle.sim_batch.proofs.Overs.{lived_lives, lives_lived, no_visit_stalled, stalled_no_visit}
use Rattle.sim_batch.proofs.over.is_over.Goals as goal

pub returns-then-not-some_lived : goal.returns-then-not-some_lived
returns-then-not-some_lived c = λ drives size are so. (
    let dead = c.if-not-some_lived.true in (
      λ yes. inl (λ lives. (
          let lived : c.some_lived.result ≡ true = c.some_lived.ensures.1 (lives_lived c.args.circuit.now c.args.signals.now.lits drives c.args.lanes.now c.args.step size are lives) in
          absurd cc
          )),
      λ over. cc,
    )
    )

pub returns-else-not-some_lived : goal.returns-else-not-some_lived
returns-else-not-some_lived c = λ drives size are so. (
    let alive = c.if-not-some_lived.false in
    let lived : c.some_lived.result ≡ true = cc in (
      λ yes. (
          let stalled = c.is_stalled.ensures.0 yes in
          inr (no_visit_stalled c.args.circuit.now c.args.signals.now.lits drives c.args.step c.args.stall c.args.visits.now so stalled.0 stalled.1)
          ),
      λ over. elim over [
        | inl none ↦ absurd (none (lived_lives c.args.circuit.now c.args.signals.now.lits drives c.args.lanes.now c.args.step size are (c.some_lived.ensures.0 lived)))
        | inr stalled ↦ c.is_stalled.ensures.1 (stalled.enough, stalled_no_visit c.args.circuit.now c.args.signals.now.lits drives c.args.step c.args.stall c.args.visits.now so stalled)
      ],
    )
    )
