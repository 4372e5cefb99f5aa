use Rattle.std.proofs.Common.{◌-◌, ◌<◌, ◌≤◌, ℤ, nat_abs, length, ap, sym, ◌∙◌, subst, arith}
use Rattle.sat_solver.proofs.QueueFront.{length-with_front}
use Rattle.sat_solver.proofs.backjump.bring_to_front.Goals as goal

pub loop-index-preserved : goal.loop-index-preserved
loop-index-preserved c =
    let lit = c.index-lits-index.result in
    let index = c.loop-index.index in
    let inside : index - 1 < length c.args.lits.now = omega (arith, c.loop-index-test.true, c.loop-index.auto.index) in
    let P : ℤ → Type 0 = λ l. nat_abs l ≤ length c.args.queue.now in
    let size : nat_abs lit ≤ length c.args.queue.now = subst P (sym c.index-lits-index.is) (c.requires.in_range (index - 1) lit inside).variable in
    let positive : 0 < c.var-var.result = (let nz = c.var-var.ensures.not_zero in omega arith) in
    let within : c.var-var.result ≤ length c.loop-index.queue = omega (arith, c.var-var.ensures.size, c.loop-index.invariant.queue) in
    record {
      queue = ap length c.to_front.ensures
          ∙ length-with_front c.var-var.result c.loop-index.queue c.is_well_formed.ensures positive within
          ∙ c.loop-index.invariant.queue;
      ranks = c.note_front.ensures ∙ c.loop-index.invariant.ranks;
    }
