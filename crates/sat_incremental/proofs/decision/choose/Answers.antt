use Rattle.std.proofs.Common.{refl, sym, subst}
use Rattle.sat_trail.specs.Trail.{TrailState, lits}
use Rattle.sat_watch.specs.Book.{BookState, NoneFalse}
use Rattle.sat_incremental.specs.declared.assumptions.Pending.{Pending}
use Rattle.sat_incremental.specs.Assuming.{AreIn, IsPending}
use Rattle.sat_incremental.proofs.Growth.{continues_same}
use Rattle.sat_incremental.proofs.decision.choose.Goals as goal

pub returns-in-Failed-clause-continues : goal.returns-in-Failed-clause-continues
returns-in-Failed-clause-continues c = continues_same _ _ refl refl refl refl

pub returns-in-Failed-clause-step : goal.returns-in-Failed-clause-step
returns-in-Failed-clause-step c =
    let P : Pending → Type 0 = λ p. IsPending c.args.assumptions.now (lits c.args.search.now.premises.trail.assignments) p in
    subst P c.in-Failed.is c.first_pending.ensures

pub assume-requires-clause-assumed : goal.assume-requires-clause-assumed
assume-requires-clause-assumed c =
    let P : Pending → Type 0 = λ p. IsPending c.args.assumptions.now (lits c.args.search.now.premises.trail.assignments) p in
    (subst P c.in-Open.is c.first_pending.ensures).0

pub assume-requires-clause-open_now : goal.assume-requires-clause-open_now
assume-requires-clause-open_now c =
    let P : Pending → Type 0 = λ p. IsPending c.args.assumptions.now (lits c.args.search.now.premises.trail.assignments) p in
    (subst P c.in-Open.is c.first_pending.ensures).1

pub decide-requires-clause-assumed : goal.decide-requires-clause-assumed
decide-requires-clause-assumed c =
    let P : Pending → Type 0 = λ p. IsPending c.args.assumptions.now (lits c.args.search.now.premises.trail.assignments) p in
    subst P c.in-AllTrue.is c.first_pending.ensures

pub returns-else-decide-clause-step : goal.returns-else-decide-clause-step
returns-else-decide-clause-step c =
    let now = c.args.search.now in
    let e = c.if-decide.ensures in
    let P : Pending → Type 0 = λ p. IsPending c.args.assumptions.now (lits now.premises.trail.assignments) p in
    let B : BookState → Type 0 = λ b. NoneFalse b.clauses (lits c.decide.new.search.premises.trail.assignments) in
    let T : TrailState → Type 0 = λ t. NoneFalse now.premises.book.clauses (lits t.assignments) in
    let A : TrailState → Type 0 = λ t. AreIn c.args.assumptions.now (lits t.assignments) in
    let same = sym (e.trail refl) in
    (subst B (sym e.book) (subst T same c.requires.none_false), e.all refl, subst A same (subst P c.in-AllTrue.is c.first_pending.ensures))
