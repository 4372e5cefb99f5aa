use Rattle.std.proofs.Common.{List, ℤ, sym, subst}
use Rattle.sat_learn.specs.Resolving.{AreRootsAmong}
use Rattle.sat_learn.proofs.Conflicts.{roots_among}
use Rattle.sat_learn.proofs.resolution.resolve_any_roots.Goals as goal

pub resolve_roots-requires-clause-met : goal.resolve_roots-requires-clause-met
resolve_roots-requires-clause-met c =
    let t = c.args.premises.now.trail in
    let a = c.args.analysis.now in
    let P : List ℤ → Type 0 = λ ls. AreRootsAmong t.assignments c.args.marks.now ls in
    subst P (sym c.deref.ensures.value) (roots_among t c.args.marks.now a.kept.items a.root_lits.items a.open_count c.requires.explained.trail c.requires.tracked)
