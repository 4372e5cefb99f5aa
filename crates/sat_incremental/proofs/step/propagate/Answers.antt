use Rattle.std.proofs.Common.{refl, sym, subst}
use Rattle.sat_trail.specs.Trail.{lits}
use Rattle.sat_watch.specs.Book.{BookState, ScanIs}
use Rattle.sat_watch.specs.Ready.{IsReady}
use Rattle.sat_watch.proofs.Readiness.{ready_after, settled_quiet}
use Rattle.sat_solver.proofs.States.{sound_propagated, passed_propagated}
use Rattle.sat_incremental.specs.Entries.{given, live}
use Rattle.sat_incremental.proofs.Assumed.{assumed_propagated}
use Rattle.sat_incremental.proofs.Growth.{continues_same}
use Rattle.sat_incremental.proofs.step.propagate.Goals as goal

pub returns-clause-query : goal.returns-clause-query
returns-clause-query c =
    let search = c.args.search.now in
    let q = c.requires.query in
    let s = q.search in
    let e = c.propagate-scan.ensures in
    let book = c.propagate-scan.new.self in
    let trail = c.propagate-scan.new.trail in
    let R : BookState → Type 0 = λ b. IsReady b trail in
    record {
      search = record {
        few = s.few;
        few_vars = s.few_vars;
        derivation = s.derivation;
        sound = sound_propagated search.vars (live search.entries) (given search.entries) search.premises.proof_ids.items search.premises.book book search.premises.trail trail s.sound e.book e.by_units;
        ready = subst R (sym e.book) (ready_after search.premises.book search.premises.trail trail s.ready e.by_units e.marked);
        passed = passed_propagated search.queue search.from search.premises.book.clauses search.premises.trail trail s.passed e.by_units;
        queue_vars = s.queue_vars;
        ranks_vars = s.ranks_vars;
        phases_vars = s.phases_vars;
        analyzer_vars = s.analyzer_vars;
        gathered = s.gathered;
        gathered_vars = s.gathered_vars;
      };
      assumed = assumed_propagated c.args.assumptions.now search.premises.book.clauses search.premises.trail trail q.assumed e.by_units;
      within = q.within;
    }

pub returns-clause-settled : goal.returns-clause-settled
returns-clause-settled c is =
    let search = c.args.search.now in
    let e = c.propagate-scan.ensures in
    let book = c.propagate-scan.new.self in
    let trail = c.propagate-scan.new.trail in
    let R : BookState → Type 0 = λ b. IsReady b trail in
    let A : BookState → Type 0 = λ b. ScanIs b.clauses (lits trail.assignments) c.propagate-scan.result in
    settled_quiet book trail c.propagate-scan.result
    (subst R (sym e.book) (ready_after search.premises.book search.premises.trail trail c.requires.query.search.ready e.by_units e.marked))
    c.is_well_formed-2.ensures
    (subst A (sym e.book) e.answer)
    is

pub returns-clause-continues : goal.returns-clause-continues
returns-clause-continues c = continues_same _ _ refl refl refl refl
