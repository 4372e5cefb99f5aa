use Rattle.std.proofs.Common.{rules, ◌≡◌, Some, ap, ◌∙◌, slice_get}
use Rattle.std.proofs.lemmas.Option.{slice_get-get_or}
use Rattle.inv_prover.specs.Dependents.{Marked}
use Rattle.inv_prover.proofs.Marking.{by_next, dependence_more}
use Rattle.inv_prover.proofs.latches.mark_next.Goals as goal

pub returns-clause-dependence : goal.returns-clause-dependence
returns-clause-dependence c circuit sig here h =
    let latch = c.args.latch.now in
    let old = c.args.marks.now in
    let marked : Marked old latch.lit = search rules in
    let at : slice_get circuit.latches here.0 ≡ Some latch = slice_get-get_or circuit.latches here.0 latch here.1 ∙ ap Some here.2 in
    dependence_more circuit sig old c.mark.new.marks latch.next c.mark.ensures.only (by_next circuit sig old here.0 latch at marked h) h
