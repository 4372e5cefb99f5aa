use Rattle.std.proofs.Common.{◌<◌, ℕ, refl, sym, ◌∙◌, subst, arith}
use Rattle.cnf_base.specs.Meaning.{IsWithin}
use Rattle.sat_trail.specs.Trail.{lits}
use Rattle.sat_watch.specs.declared.scan.Scan.{Scan}
use Rattle.sat_watch.specs.Book.{NoneFalse, ScanIs}
use Rattle.sat_incremental.proofs.Growth.{continues_then, step_then}
use Rattle.sat_incremental.proofs.step.take_step.Goals as goal

pub choose-requires-clause-in_range : goal.choose-requires-clause-in_range
choose-requires-clause-in_range c =
    let P : ℕ → Type 0 = λ n. IsWithin n c.args.assumptions.now in
    subst P (sym c.propagate.ensures.continues.vars) c.requires.in_range

pub choose-requires-clause-none_false : goal.choose-requires-clause-none_false
choose-requires-clause-none_false c =
    let now = c.propagate.new.search in
    let P : Scan → Type 0 = λ scan. ScanIs now.premises.book.clauses (lits now.premises.trail.assignments) scan in
    (subst P c.in-Quiet.is c.propagate.ensures.answer).0

pub returns-in-Quiet-clause-continues : goal.returns-in-Quiet-clause-continues
returns-in-Quiet-clause-continues c = continues_then _ _ _ c.propagate.ensures.continues c.choose.ensures.continues

pub returns-in-Quiet-clause-step : goal.returns-in-Quiet-clause-step
returns-in-Quiet-clause-step c = step_then c.args.assumptions.now c.args.lemmas c.args.search.now c.propagate.new.search c.choose.new.search c.choose.result c.propagate.ensures.no_more c.choose.ensures.step

pub returns-then-level-eq0-clause-step : goal.returns-then-level-eq0-clause-step
returns-then-level-eq0-clause-step c =
    let now = c.propagate.new.search in
    let P : Scan → Type 0 = λ scan. ScanIs now.premises.book.clauses (lits now.premises.trail.assignments) scan in
    (sym c.level.ensures ∙ c.if-level-eq0.true, subst P c.in-Conflict.is c.propagate.ensures.answer)

pub learn-requires-clause-above : goal.learn-requires-clause-above
learn-requires-clause-above c = let differs = c.if-level-eq0.false in omega (arith, c.level.ensures)

pub learn-requires-clause-conflict : goal.learn-requires-clause-conflict
learn-requires-clause-conflict c =
    let now = c.propagate.new.search in
    let P : Scan → Type 0 = λ scan. ScanIs now.premises.book.clauses (lits now.premises.trail.assignments) scan in
    subst P c.in-Conflict.is c.propagate.ensures.answer

pub learn-requires-clause-room : goal.learn-requires-clause-room
learn-requires-clause-room c = let differs = c.if-search-lemmas.false in omega (arith, c.propagate.ensures.query.within)

pub returns-in_ok-learn-in-Conflict-clause-continues : goal.returns-in_ok-learn-in-Conflict-clause-continues
returns-in_ok-learn-in-Conflict-clause-continues c = continues_then _ _ _ c.propagate.ensures.continues c.in_ok-learn-in-Conflict.ensures.continues

pub returns-in_ok-learn-in-Conflict-clause-step : goal.returns-in_ok-learn-in-Conflict-clause-step
returns-in_ok-learn-in-Conflict-clause-step c = let less = c.in_ok-learn-in-Conflict.ensures.less in let no_more = c.propagate.ensures.no_more in omega arith
