use Rattle.std.proofs.Common.{◌++◌, ap, ◌∙◌, arith}
use Rattle.aig_model.specs.WellFormed.{latch_lits, left_sides}
use Rattle.aig_ascii.specs.Sections.{defines}
use Rattle.aig_ascii.proofs.Defined.{defines-between, marks-more}
use Rattle.aig_ascii.proofs.draft.Draft.add_input.Goals as goal

pub invariant_of-self-2 : goal.invariant_of-self-2
invariant_of-self-2 c =
    let d = c.self.inside in
    let rest = latch_lits d.latches ++ left_sides d.gates in (
      c.self.invariant.0,
      marks-more d.defined c.grow.new.bits c.set.new.self (d.inputs ++ rest) (c.push.new.self ++ rest) c.args.lit c.var-place.result c.self.invariant.1 c.grow.ensures.same c.var-place.ensures
          (omega (arith, c.in_ok-grow.ensures.reaches)) c.set.ensures
          (λ v. ap (λ xs. defines (xs ++ rest) v) c.in_ok-push.ensures.ok ∙ defines-between d.inputs rest c.args.lit v),
    )
