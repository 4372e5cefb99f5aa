use Rattle.std.proofs.Common.{◌≡◌, ◌+◌, ◌<◌, List, length, get_or, take, refl, sym, ap, subst, ◌∙◌, arith}
use Rattle.std.specs.List.{AllZip}
use Rattle.std.proofs.lemmas.List.{get_or_default}
use Rattle.board_core.specs.declared.entry.Source.TheVariants.{Zero}
use Rattle.sim_walk.specs.declared.visit.Visit.{Visit}
use Rattle.run_report.specs.declared.posts.Basis.TheVariants.{Witness}
use Rattle.run_report.specs.declared.posts.Finding.{Finding}
use Rattle.run_report.specs.Run.{IsZeroFinding}
use Rattle.run_report.proofs.Searching.{visits_more}
use Rattle.run_report.proofs.findings.visited.Goals as goal

pub loop-visit-preserved : goal.loop-visit-preserved
loop-visit-preserved c =
    let d : Visit = record { goal = 0; lane = 0; step = 0 } in
    let items = c.as_slice-visit-items.result.now in
    let vs = c.args.visits.now in
    let k = c.loop-visit.visit-index in
    let v : Visit = get_or items k d in
    let f : Finding = record { goal = v.goal; source = Zero; basis = Witness c.in_ok-witness.witness } in
    let inside : k < length vs = omega (arith, ap length c.as_slice-visit-items.ensures, c.loop-visit-test.true) in
    let here : v ≡ get_or vs k v = sym (ap (λ (xs : List Visit). get_or xs k v) (sym c.as_slice-visit-items.ensures) ∙ get_or_default items k v d c.loop-visit-test.true) in
    let one : IsZeroFinding c.args.circuit.now v f = record { goal = refl; source = refl; witness = c.in_ok-witness.witness; basis = refl; trace = c.in_ok-witness.ensures.trace } in
    subst (λ (fs : List Finding). AllZip (IsZeroFinding c.args.circuit.now) (take (k + 1) vs) fs) (sym c.in_ok-push.ensures.ok)
    (visits_more c.args.circuit.now vs c.loop-visit.findings k v f inside here c.loop-visit.invariant one)
