use Rattle.std.proofs.Common.{◌∙◌, refl}
use Rattle.sim_batch.proofs.Seeded.{is_seed}
use Rattle.sim_batch.proofs.seed.Seed.from_reached.Goals as goal

pub invariant_of-result : goal.invariant_of-result
invariant_of-result c =
    rw c.of.ensures
    (is_seed c.args.circuit.now c.args.trace.now c.in_ok-start.start c.append_rows.new.rows c.in_ok-state.state _ c.requires c.in_ok-start.ensures
    (c.append_rows.ensures.width ∙ (c.new-rows.ensures.width ∙ c.width.ensures)) (c.in_ok-append_rows.ensures.rows ∙ rw c.new-rows.ensures.rows refl) c.in_ok-state.ensures)
