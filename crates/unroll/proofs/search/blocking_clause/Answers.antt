use Rattle.std.proofs.Common.{sym, ◌∙◌, subst, arith}
use Rattle.cnf_base.specs.Meaning.{IsWithin}
use Rattle.unroll.proofs.Within.{goal_within, item_within}
use Rattle.unroll.proofs.search.blocking_clause.Goals as goal

pub negation-requires : goal.negation-requires
negation-requires c =
    let all = subst (IsWithin 4000000) (sym (c.deref-lit-items.ensures.value ∙ c.in_ok-shown.ensures))
    (goal_within 4000000 c.args.before c.args.lits.now c.args.goal c.requires) in
    omega (arith, item_within 4000000 c.deref-lit-items.result.now c.loop-lit.lit-index c.lit-item.result (omega arith) c.lit-item.is all)
