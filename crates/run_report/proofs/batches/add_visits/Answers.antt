use Rattle.std.proofs.Common.{◌≡◌, ◌<◌, List, length, get_or, take, sym, ap, subst, ◌∙◌, arith}
use Rattle.std.proofs.lemmas.List.{get_or_default, take_all}
use Rattle.sim_walk.specs.declared.visit.Visit.{Visit}
use Rattle.run_report.proofs.Walking.{AreAdded, added_all, added_none, added_step, visit_at, visit_below}
use Rattle.run_report.proofs.batches.add_visits.Goals as goal

pub add_visit-requires-clause-visit : goal.add_visit-requires-clause-visit
add_visit-requires-clause-visit c =
    let d : Visit = record { goal = 0; lane = 0; step = 0 } in
    let items = c.as_slice-visit-items.result.now in
    let vs = c.args.visits.now in
    let k = c.loop-visit.visit-index in
    let v : Visit = get_or items k d in
    let inside : k < length vs = omega (arith, ap length c.as_slice-visit-items.ensures, c.loop-visit-test.true) in
    let here : v ≡ get_or vs k v = sym (ap (λ (xs : List Visit). get_or xs k v) (sym c.as_slice-visit-items.ensures) ∙ get_or_default items k v d c.loop-visit-test.true) in
    visit_at c.args.circuit.now c.args.signals.now.lits c.args.options.now c.args.batch vs k v c.requires.visits inside here

pub add_visit-requires-clause-inside : goal.add_visit-requires-clause-inside
add_visit-requires-clause-inside c =
    let d : Visit = record { goal = 0; lane = 0; step = 0 } in
    let items = c.as_slice-visit-items.result.now in
    let vs = c.args.visits.now in
    let k = c.loop-visit.visit-index in
    let v : Visit = get_or items k d in
    let inside : k < length vs = omega (arith, ap length c.as_slice-visit-items.ensures, c.loop-visit-test.true) in
    let here : v ≡ get_or vs k v = sym (ap (λ (xs : List Visit). get_or xs k v) (sym c.as_slice-visit-items.ensures) ∙ get_or_default items k v d c.loop-visit-test.true) in
    let visit = visit_at c.args.circuit.now c.args.signals.now.lits c.args.options.now c.args.batch vs k v c.requires.visits inside here in
    omega (arith, visit_below c.args.circuit.now c.args.signals.now.lits c.args.options.now c.args.batch v visit, c.requires.marks.size)

pub loop-visit-init : goal.loop-visit-init
loop-visit-init c = added_none c.args.circuit.now c.args.signals.now.lits c.args.options.now c.args.batch c.args.known.now c.args.findings.now

pub loop-visit-preserved : goal.loop-visit-preserved
loop-visit-preserved c =
    let d : Visit = record { goal = 0; lane = 0; step = 0 } in
    let items = c.as_slice-visit-items.result.now in
    let vs = c.args.visits.now in
    let k = c.loop-visit.visit-index in
    let v : Visit = get_or items k d in
    let inside : k < length vs = omega (arith, ap length c.as_slice-visit-items.ensures, c.loop-visit-test.true) in
    let here : v ≡ get_or vs k v = sym (ap (λ (xs : List Visit). get_or xs k v) (sym c.as_slice-visit-items.ensures) ∙ get_or_default items k v d c.loop-visit-test.true) in
    added_step c.args.circuit.now c.args.signals.now.lits c.args.options.now c.args.batch c.args.known.now vs k v c.args.findings.now c.loop-visit.findings c.add_visit.new.findings
    c.requires.visits c.requires.batch inside here c.loop-visit.invariant c.in_ok-add_visit.ensures

pub returns : goal.returns
returns c =
    let vs = c.args.visits.now in
    let k = c.loop-visit.visit-index in
    let whole : take k vs ≡ vs = take_all k vs (omega (arith, ap length c.as_slice-visit-items.ensures, c.loop-visit-test.false)) in
    added_all c.args.circuit.now c.args.signals.now.lits c.args.options.now c.args.batch c.args.known.now vs c.args.findings.now c.loop-visit.findings c.requires.visits c.requires.marks
    (subst (λ (xs : List Visit). AreAdded c.args.circuit.now c.args.signals.now.lits c.args.options.now c.args.batch c.args.known.now xs c.args.findings.now c.loop-visit.findings) whole c.loop-visit.invariant)
