use Rattle.std.proofs.Common.{◌≡◌, All, sym, ap, ◌∙◌, subst}
use Rattle.cnf_base.specs.Meaning.{CnfFormula, IsWithin}
use Rattle.unroll.specs.Building.{HasLit}
use Rattle.unroll.proofs.Within.{blocking_within}
use Rattle.unroll.proofs.search.block.Goals as goal

pub add-requires : goal.add-requires
add-requires c =
    let n = c.loop-goal.formula.vars in
    let same : n ≡ c.args.formula.now.vars = ap (λ (f : CnfFormula). f.vars) c.loop-goal.invariant in
    let room = subst (λ m. All (HasLit m c.args.before) c.args.lits.now) (sym same) c.requires.lits in
    subst (IsWithin n) (sym (c.deref.ensures.value ∙ c.in_ok-clause.ensures)) (blocking_within n c.args.before c.args.lits.now _ room)
