use Rattle.std.proofs.Common.{ℕ, List, refl, sym, subst, arith, inl}
use Rattle.sat_learn.specs.Learned.{AreAtRoot}
use Rattle.sat_learn.proofs.ResolveStep.{resolves_nothing}
use Rattle.sat_learn.proofs.RootLevel.{roots_clear_past}
use Rattle.sat_learn.proofs.RootQueues.{queued_among}
use Rattle.sat_learn.proofs.roots.resolve_roots.Goals as goal

pub loop-place-init : goal.loop-place-init
loop-place-init c =
    let t = c.args.premises.now.trail in
    let R : List ℕ → Type 0 = λ places. AreAtRoot t.assignments places in
    record {
      within = omega (arith, c.len_upto-before.ensures);
      clear = roots_clear_past 0 t.assignments t.level c.args.marks.now c.len_upto-before.result c.requires.explained.trail.climbs c.len_upto-before.ensures;
      queued = queued_among t c.args.marks.now c.in_ok-queue.queue c.args.met.now c.len_upto-before.result c.requires.met c.in_ok-queue.ensures;
      others = λ v. inl refl;
      resolves = resolves_nothing c.args.premises.now.book.clauses c.args.premises.now.proof_ids.items t.assignments c.args.marks.now c.args.hints.now.items;
      roots = subst R (sym c.new-roots.ensures.items) (λ k d lt. absurd (omega arith));
    }
