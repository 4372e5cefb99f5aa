use Rattle.std.proofs.Common.{◌∙◌}
use Rattle.std.proofs.lemmas.Iterator.Adapters.{fact_from_collect, YieldsList-from_vec}
use Rattle.std.proofs.lemmas.Result.{IfOk-at_ok}
use Rattle.std.specs.HashSet.{IsFromIterResult}
use Rattle.std.specs.Prelude.{nat_eq}
use Rattle.run_io.proofs.Finding.{same_members}
use Rattle.run_io.proofs.numbered.NumberedCalls.new.Goals as goal

pub returns-clause-failing : goal.returns-clause-failing
returns-clause-failing c =
    let numbers = c.args.failing.items in
    let made = IfOk-at_ok (IsFromIterResult nat_eq numbers) c.in_ok-failing.was (fact_from_collect (IsFromIterResult nat_eq) c.collect.result c.collect.ensures.ran (YieldsList-from_vec numbers c.into_iter.ensures.rest (c.into_iter.ensures.len ∙ c.args.failing.ok.0))) in
    same_members c.in_ok-failing.failing.keys numbers made.0
