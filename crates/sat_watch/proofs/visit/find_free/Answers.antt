use Rattle.std.proofs.Common.{arith, inl, inr}
use Rattle.std.proofs.lemmas.Bool.{cases_lt}
use Rattle.std.proofs.lemmas.Option.{slice_get_within}
use Rattle.sat_watch.proofs.Visits.{has_place, when_none}
use Rattle.sat_watch.proofs.visit.find_free.Goals as goal

pub returns-in-None : goal.returns-in-None
returns-in-None c =
    when_none c.find_between-in-None.result _ _ _ (λ first l there apart.
    (let at = has_place c.args.clause.now l there in
    elim (cases_lt at.0 c.min-start.result) [
      | inl before ↦ first at.0 l (omega arith) before at.1 apart
      | inr past ↦ c.in-None.ensures at.0 l past (slice_get_within c.args.clause.now at.0 l at.1) at.1 apart
    ])) c.find_between-in-None.ensures
