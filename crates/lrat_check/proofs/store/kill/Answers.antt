use Rattle.std.proofs.Common.{sym}
use Rattle.lrat_check.proofs.Blank.{blank}
use Rattle.lrat_check.proofs.LiveClauses.{is_alive-none, is_alive-at, killed-none, killed-at}
use Rattle.lrat_check.proofs.store.kill.Goals as goal

pub returns-in_default-clause-was : goal.returns-in_default-clause-was
returns-in_default-clause-was c = sym (is_alive-none c.args.id c.args.entries.now c.in_default.ensures.none)

pub returns-in_default-clause-after : goal.returns-in_default-clause-after
returns-in_default-clause-after c = sym (killed-none c.args.id c.args.entries.now c.in_default.ensures.none)

pub returns-clause-was : goal.returns-clause-was
returns-clause-was c = sym (is_alive-at c.args.id c.args.entries.now c.in-Some.place blank c.requires c.in-Some.ensures.found (c.in-Some.ensures.id blank))

pub returns-clause-after : goal.returns-clause-after
returns-clause-after c = sym (killed-at c.args.id c.args.entries.now c.in-Some.place blank c.requires c.in-Some.ensures.found (c.in-Some.ensures.id blank))
