use Rattle.std.proofs.Common.{rules}
use Rattle.inv_prover.specs.Dependents.{Marked, MarksDependence}
use Rattle.inv_prover.proofs.Marking.{by_left, by_right, dependence_more}
use Rattle.inv_prover.proofs.latches.mark_inputs.Goals as goal

pub returns-clause-dependence : goal.returns-clause-dependence
returns-clause-dependence c circuit sig here h =
    let gate = c.args.gate.now in
    let old = c.args.marks.now in
    let mid = c.mark-left.new.marks in
    let marked : Marked old gate.lhs = search rules in
    let first : MarksDependence circuit sig mid = dependence_more circuit sig old mid gate.left c.mark-left.ensures.only (by_left circuit sig old gate here marked h) h in
    dependence_more circuit sig mid c.mark-right.new.marks gate.right c.mark-right.ensures.only
    (by_right circuit sig mid gate here (c.mark-left.ensures.more.keeps gate.lhs marked) first) first
