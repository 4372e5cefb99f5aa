use Rattle.std.proofs.Common.{ℕ, Bool, get_or, subst}
use Rattle.aig_model.specs.Literal.{is_negated}
use Rattle.sim_lanes.specs.LaneValues.{IsSigned}
use Rattle.sim_lanes.proofs.LaneSteps.{literal_word}
use Rattle.sim_lanes.proofs.values.value.Goals as goal

pub returns : goal.returns
returns c =
    let values = c.args.values.now in
    literal_word values c.args.lit c.signed.result c.requires
    (subst (λ (v : ℕ). IsSigned (get_or values v 0) (is_negated c.args.lit) c.signed.result) c.var.ensures
    (subst (λ (b : Bool). IsSigned (get_or values c.var.result 0) b c.signed.result) c.is_negated.ensures c.signed.ensures))
