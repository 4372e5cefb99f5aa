use Rattle.std.proofs.Common.{arith, sym, ◌∙◌}
use Rattle.lrat_check.proofs.Negations.{true_has, not_true_has, tautology_found, plain_more, negations_more}
use Rattle.lrat_check.proofs.walk.assume_negations.Goals as goal

pub returns-in-True-clause-tautology : goal.returns-in-True-clause-tautology
returns-in-True-clause-tautology c =
    sym (tautology_found c.loop-lit.assumed c.args.lits.now c.loop-lit.lit-index c.lit-item.result (omega arith) c.lit-item.is c.loop-lit.invariant.so_far
    (true_has c.loop-lit.assumed c.lit-item.result c.in-True.ensures.value))

pub loop-lit-preserved : goal.loop-lit-preserved
loop-lit-preserved c = record {
  so_far = negations_more c.loop-lit.assumed c.assume.new.self c.args.lits.now c.loop-lit.lit-index c.lit-item.result (omega arith) c.lit-item.is c.loop-lit.invariant.so_far c.in_ok-assume.ensures.ok;
  plain = plain_more c.loop-lit.assumed c.args.lits.now c.loop-lit.lit-index c.lit-item.result (omega arith) c.lit-item.is c.loop-lit.invariant.so_far
      (not_true_has c.loop-lit.assumed c.lit-item.result (λ e. c.in_default.not-True (c.truth.ensures.value ∙ e))) c.truth.ensures.not_zero c.loop-lit.invariant.plain;
}
