use Rattle.std.proofs.Common.{refl, arith}
use Rattle.sat_watch.proofs.Start.{begin_below}
use Rattle.sat_watch.proofs.begin.watch_new.Goals as goal

pub returns-then-serve-clause-below : goal.returns-then-serve-clause-below
returns-then-serve-clause-below c =
    let known = c.requires.known in
    begin_below c.args.clauses.now c.args.heads.now c.args.watches.now c.args.trail.now c.args.watched_count c.is_well_formed.ensures known.linked
    (λ place d lt there. known.pairs place d there) (λ k lt. known.below k (c.if-serve.ensures.at_level refl k lt)) (c.if-serve.ensures.chosen refl)
    c.requires.none_false c.requires.none_unit

pub returns-then-serve-clause-new_clauses : goal.returns-then-serve-clause-new_clauses
returns-then-serve-clause-new_clauses c = c.if-serve.ensures.chosen refl

pub returns-else-serve-clause-below : goal.returns-else-serve-clause-below
returns-else-serve-clause-below c =
    begin_below c.args.clauses.now c.watch_anew.new.heads c.watch_anew.new.watches c.args.trail.now 0 c.is_well_formed.ensures c.watch_anew.ensures.linked
    (λ place d lt there. absurd (omega arith)) (λ k lt place d low there. absurd (omega arith)) (λ place d low there. c.watch_anew.ensures.chosen place d there)
    c.requires.none_false c.requires.none_unit

pub returns-else-serve-clause-new_clauses : goal.returns-else-serve-clause-new_clauses
returns-else-serve-clause-new_clauses c place d low there = c.watch_anew.ensures.chosen place d there
