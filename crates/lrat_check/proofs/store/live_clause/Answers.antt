use Rattle.lrat_check.proofs.Blank.{blank}
use Rattle.lrat_check.proofs.LiveClauses.{clause_at-none, clause_at-alive, clause_at-dead}
use Rattle.lrat_check.proofs.store.live_clause.Goals as goal

pub returns-in_default-clause-none : goal.returns-in_default-clause-none
returns-in_default-clause-none c = clause_at-none c.args.arena.now c.args.entries.now c.args.id c.in_default.ensures.none

pub returns-then-entry-clause-some : goal.returns-then-entry-clause-some
returns-then-entry-clause-some c =
    clause_at-alive c.args.arena.now c.args.entries.now c.args.id c.in-Some.place blank c.requires.rising c.in-Some.ensures.found (c.in-Some.ensures.id blank) c.if-entry.true

pub returns-else-entry-clause-none : goal.returns-else-entry-clause-none
returns-else-entry-clause-none c =
    clause_at-dead c.args.arena.now c.args.entries.now c.args.id c.in-Some.place blank c.requires.rising c.in-Some.ensures.found (c.in-Some.ensures.id blank) c.if-entry.false
