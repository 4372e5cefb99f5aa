use Rattle.std.proofs.Common.{◌≡◌, [], ◌∷◌, ◌++◌, ap, ◌∙◌, arith}
use Rattle.std.proofs.lemmas.List.{map-append}
use Rattle.aig_model.specs.WellFormed.{latch_lits, left_sides}
use Rattle.aig_ascii.specs.Sections.{defines}
use Rattle.aig_ascii.proofs.Defined.{defines-more, marks-more}
use Rattle.aig_ascii.proofs.draft.Draft.add_latch.Goals as goal

pub invariant_of-self-2 : goal.invariant_of-self-2
invariant_of-self-2 c =
    let d = c.self.inside in
    let gates = left_sides d.gates in
    let lits : latch_lits c.push.new.self ≡ latch_lits d.latches ++ c.args.latch.lit ∷ [] = ap latch_lits c.in_ok-push.ensures.ok ∙ map-append _ d.latches (c.args.latch ∷ []) in (
      c.self.invariant.0,
      marks-more d.defined c.grow.new.bits c.set.new.self (d.inputs ++ (latch_lits d.latches ++ gates)) (d.inputs ++ (latch_lits c.push.new.self ++ gates)) c.args.latch.lit c.var-place.result c.self.invariant.1
          c.grow.ensures.same c.var-place.ensures (omega (arith, c.in_ok-grow.ensures.reaches)) c.set.ensures
          (λ v. ap (λ xs. defines (d.inputs ++ (xs ++ gates)) v) lits ∙ defines-more d.inputs (latch_lits d.latches) gates c.args.latch.lit v),
    )
