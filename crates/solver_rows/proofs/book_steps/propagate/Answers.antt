use Rattle.std.proofs.Common.{List, ℤ, ap, sym, subst}
use Rattle.sat_trail.specs.Trail.{lits}
use Rattle.sat_watch.specs.Book.{BookState, ScanIs}
use Rattle.sat_watch.specs.Ready.{IsReady}
use Rattle.sat_watch.proofs.Readiness.{ready_after, settled_quiet}
use Rattle.solver_rows.proofs.book_steps.propagate.Goals as goal

ready : (c : goal.After-vars) → IsReady c.propagate-scan.new.self c.propagate-scan.new.trail
ready c =
    let P : BookState → Type 0 = λ b. IsReady b c.propagate-scan.new.trail in
    subst P (sym c.propagate-scan.ensures.book) (ready_after c.args.book.now c.args.trail.now c.propagate-scan.new.trail c.requires c.propagate-scan.ensures.by_units c.propagate-scan.ensures.marked)

pub returns-clause-ready : goal.returns-clause-ready
returns-clause-ready c = ready c

pub returns-clause-settled : goal.returns-clause-settled
returns-clause-settled c quiet =
    let new = c.propagate-scan.new.trail in
    let P : List (List ℤ) → Type 0 = λ cs. ScanIs cs (lits new.assignments) c.propagate-scan.result in
    let same = ap (λ (b : BookState). b.clauses) c.propagate-scan.ensures.book in
    settled_quiet c.propagate-scan.new.self new c.propagate-scan.result (ready c) c.vars.ensures.well_formed (subst P (sym same) c.propagate-scan.ensures.answer) quiet
