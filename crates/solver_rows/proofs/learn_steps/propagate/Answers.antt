use Rattle.std.proofs.Common.{◌≡◌, [], List, ℤ, ap, sym, subst}
use Rattle.sat_trail.specs.Trail.{lits}
use Rattle.sat_watch.specs.Book.{BookState, ScanIs}
use Rattle.sat_watch.specs.Ready.{IsReady}
use Rattle.sat_watch.proofs.Readiness.{ready_after, settled_quiet}
use Rattle.sat_learn.specs.Reasons.{AreReasons}
use Rattle.sat_learn.proofs.Reasons.{reasons_extended}
use Rattle.solver_rows.proofs.learn_steps.propagate.Goals as goal

ready : (c : goal.After-vars) → IsReady c.propagate-scan.new.self c.propagate-scan.new.trail
ready c =
    let P : BookState → Type 0 = λ b. IsReady b c.propagate-scan.new.trail in
    subst P (sym c.propagate-scan.ensures.book) (ready_after c.args.book.now c.args.trail.now c.propagate-scan.new.trail c.requires.ready c.propagate-scan.ensures.by_units c.propagate-scan.ensures.marked)

clauses_stay : (c : goal.After-vars) → c.propagate-scan.new.self.clauses ≡ c.args.book.now.clauses
clauses_stay c = ap (λ (b : BookState). b.clauses) c.propagate-scan.ensures.book

pub returns-clause-ready : goal.returns-clause-ready
returns-clause-ready c = ready c

pub returns-clause-reasons : goal.returns-clause-reasons
returns-clause-reasons c =
    let P : List (List ℤ) → Type 0 = λ cs. AreReasons cs [] c.propagate-scan.new.trail.assignments in
    subst P (sym (clauses_stay c)) (reasons_extended c.args.book.now.clauses c.args.trail.now c.propagate-scan.new.trail c.propagate-scan.ensures.by_units c.requires.reasons)

pub returns-clause-answer : goal.returns-clause-answer
returns-clause-answer c =
    let P : List (List ℤ) → Type 0 = λ cs. ScanIs cs (lits c.propagate-scan.new.trail.assignments) c.propagate-scan.result in
    subst P (sym (clauses_stay c)) c.propagate-scan.ensures.answer

pub returns-clause-settled : goal.returns-clause-settled
returns-clause-settled c quiet =
    let new = c.propagate-scan.new.trail in
    let P : List (List ℤ) → Type 0 = λ cs. ScanIs cs (lits new.assignments) c.propagate-scan.result in
    settled_quiet c.propagate-scan.new.self new c.propagate-scan.result (ready c) c.vars.ensures.well_formed (subst P (sym (clauses_stay c)) c.propagate-scan.ensures.answer) quiet
