use Rattle.std.proofs.Common.{sym, subst}
use Rattle.sat_trail.specs.Trail.{lits}
use Rattle.sat_watch.specs.Book.{BookState, ScanIs}
use Rattle.sat_watch.specs.Ready.{IsReady}
use Rattle.sat_watch.proofs.Readiness.{ready_after, settled_quiet}
use Rattle.sat_solver.specs.Ledger.{earlier, live}
use Rattle.sat_solver.proofs.States.{sound_propagated, passed_propagated}
use Rattle.sat_solver.proofs.step.propagate.Goals as goal

pub returns-clause-state : goal.returns-clause-state
returns-clause-state c formula lemmas t =
    let search = c.args.search.now in
    let s = t.search in
    let e = c.propagate-scan.ensures in
    let book = c.propagate-scan.new.self in
    let trail = c.propagate-scan.new.trail in
    let R : BookState → Type 0 = λ b. IsReady b trail in
    record {
      search = record {
        few_clauses = s.few_clauses;
        few_steps = s.few_steps;
        ledger = s.ledger;
        sound = sound_propagated formula.vars (live formula search.steps) (earlier formula search.steps) search.premises.proof_ids.items search.premises.book book search.premises.trail trail s.sound e.book e.by_units;
        queue_vars = s.queue_vars;
        phases_vars = s.phases_vars;
        analyzer_vars = s.analyzer_vars;
        considered_vars = s.considered_vars;
        ranks_vars = s.ranks_vars;
        few_conflicts = s.few_conflicts;
      };
      ready = subst R (sym e.book) (ready_after search.premises.book search.premises.trail trail c.requires e.by_units e.marked);
      passed = passed_propagated search.queue search.from search.premises.book.clauses search.premises.trail trail t.passed e.by_units;
      within = t.within;
      few = t.few;
    }

pub returns-clause-settled : goal.returns-clause-settled
returns-clause-settled c is =
    let search = c.args.search.now in
    let e = c.propagate-scan.ensures in
    let book = c.propagate-scan.new.self in
    let trail = c.propagate-scan.new.trail in
    let R : BookState → Type 0 = λ b. IsReady b trail in
    let A : BookState → Type 0 = λ b. ScanIs b.clauses (lits trail.assignments) c.propagate-scan.result in
    settled_quiet book trail c.propagate-scan.result
    (subst R (sym e.book) (ready_after search.premises.book search.premises.trail trail c.requires e.by_units e.marked))
    c.is_well_formed-2.ensures
    (subst A (sym e.book) e.answer)
    is
