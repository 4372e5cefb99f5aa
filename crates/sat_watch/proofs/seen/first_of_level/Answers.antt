use Rattle.std.proofs.Common.{ℕ, ap, sym, ◌∙◌, arith}
use Rattle.sat_watch.specs.declared.mark.Mark.{Mark}
use Rattle.sat_watch.proofs.SeenTrail.{begins_from}
use Rattle.sat_watch.proofs.seen.first_of_level.Goals as goal

pub returns-then-seen-first-clause-begins : goal.returns-then-seen-first-clause-begins
returns-then-seen-first-clause-begins c =
    let s = c.args.seen.now in
    let level : Mark → ℕ = λ m. m.level in
    begins_from s c.loop-first.first c.index-seen-place.result.level c.index-seen-first.result c.requires.rising (omega (arith, c.loop-first-test.true)) (omega (arith, c.requires.in_range, c.loop-first.invariant.at_most))
    (c.loop-first.invariant.same ∙ ap level (sym c.index-seen-place.is)) c.index-seen-first.is
    (λ e. c.if-seen-first.true (ap level (sym c.index-seen-first.is) ∙ e ∙ ap level c.index-seen-place.is))
