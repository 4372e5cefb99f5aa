use Rattle.std.proofs.Common.{◌∷◌, [], List, Bool, true, set, ap, sym, ◌∙◌, subst, arith}
use Rattle.aig_model.specs.Marks.{Defines}
use Rattle.aig_model.proofs.Marks.{defines_one}
use Rattle.aig_model.proofs.definers.define.Goals as goal

pub returns-clause-ok : goal.returns-clause-ok
returns-clause-ok c =
    let old = c.args.defined.now in
    let lit = c.args.lit in
    let written = c.set.ensures ∙ ap (λ v. set old v true) c.var.ensures in
    subst (λ (new : List Bool). Defines old new (lit ∷ [])) (sym written)
    (defines_one old lit (c.requires 0 0 (omega arith)) (c.is_new.ensures.0 c.if-not-is_new.false))
