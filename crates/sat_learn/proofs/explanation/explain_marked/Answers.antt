use Rattle.std.proofs.Common.{ℤ, List, sym, subst}
use Rattle.sat_learn.specs.Premises.{IsExplanationIn}
use Rattle.sat_learn.proofs.explanation.explain_marked.Goals as goal

pub returns-clause-follows : goal.returns-clause-follows
returns-clause-follows c =
    let P : List ℤ → Type 0 = λ hs. IsExplanationIn c.args.premises.now c.args.place hs in
    subst P (sym c.from_vec.ensures) (c.in_ok-whole.ensures.follows c.if-not-whole.false)
