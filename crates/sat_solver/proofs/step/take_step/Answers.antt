use Rattle.std.proofs.Common.{◌<◌, refl, sym, ◌∙◌, subst, arith}
use Rattle.sat_trail.specs.Trail.{TrailState, lits}
use Rattle.sat_watch.specs.declared.scan.Scan.{Scan}
use Rattle.sat_watch.specs.Book.{BookState, NoneFalse, ScanIs}
use Rattle.sat_solver.proofs.step.take_step.Goals as goal

pub decide-requires-clause-passed : goal.decide-requires-clause-passed
decide-requires-clause-passed c = (c.propagate.ensures.state c.args.formula.now c.args.lemmas c.requires).passed

pub returns-then-level-eq0 : goal.returns-then-level-eq0
returns-then-level-eq0 c =
    let now = c.propagate.new.search in
    let P : Scan → Type 0 = λ scan. ScanIs now.premises.book.clauses (lits now.premises.trail.assignments) scan in
    (c.propagate.ensures.state c.args.formula.now c.args.lemmas c.requires, sym c.level.ensures ∙ c.if-level-eq0.true, subst P c.in-Conflict.is c.propagate.ensures.answer)

pub returns-then-len-lemmas : goal.returns-then-len-lemmas
returns-then-len-lemmas c =
    let now = c.propagate.new.search in
    let P : Scan → Type 0 = λ scan. ScanIs now.premises.book.clauses (lits now.premises.trail.assignments) scan in
    let above : 0 < now.premises.trail.level = (let differs = c.if-level-eq0.false in omega (arith, c.level.ensures)) in
    (c.propagate.ensures.state c.args.formula.now c.args.lemmas c.requires, sym c.len.ensures ∙ c.if-len-lemmas.true, above, (c.in-Conflict.id, subst P c.in-Conflict.is c.propagate.ensures.answer))

pub learn-requires-clause-state : goal.learn-requires-clause-state
learn-requires-clause-state c = c.propagate.ensures.state c.args.formula.now c.args.lemmas c.requires

pub returns-then-decide : goal.returns-then-decide
returns-then-decide c =
    let formula = c.args.formula.now in
    let lemmas = c.args.lemmas in
    let less = c.if-decide.ensures.less refl lemmas in
    let no_more = c.propagate.ensures.no_more lemmas in
    (c.if-decide.ensures.state formula lemmas (c.propagate.ensures.state formula lemmas c.requires), omega arith)

pub returns-else-decide : goal.returns-else-decide
returns-else-decide c =
    let formula = c.args.formula.now in
    let lemmas = c.args.lemmas in
    let now = c.propagate.new.search in
    let P : Scan → Type 0 = λ scan. ScanIs now.premises.book.clauses (lits now.premises.trail.assignments) scan in
    let B : BookState → Type 0 = λ b. NoneFalse b.clauses (lits c.decide.new.search.premises.trail.assignments) in
    let T : TrailState → Type 0 = λ t. NoneFalse now.premises.book.clauses (lits t.assignments) in
    let quiet = subst P c.in-Quiet.is c.propagate.ensures.answer in (
      c.if-decide.ensures.state formula lemmas (c.propagate.ensures.state formula lemmas c.requires),
      subst B (sym c.if-decide.ensures.book) (subst T (sym (c.if-decide.ensures.trail refl)) quiet.0),
      c.if-decide.ensures.all refl,
    )
