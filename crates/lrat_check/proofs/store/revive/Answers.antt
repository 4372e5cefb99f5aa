use Rattle.std.proofs.Common.{sym}
use Rattle.lrat_check.proofs.Blank.{blank}
use Rattle.lrat_check.proofs.LiveClauses.{revived-none, revived-at}
use Rattle.lrat_check.proofs.store.revive.Goals as goal

pub returns-in_default : goal.returns-in_default
returns-in_default c = sym (revived-none c.args.id c.args.entries.now c.in_default.ensures.none)

pub returns-in-Some : goal.returns-in-Some
returns-in-Some c = sym (revived-at c.args.id c.args.entries.now c.in-Some.place blank c.requires c.in-Some.ensures.found (c.in-Some.ensures.id blank))
