use Rattle.lrat_check.specs.Assumptions.{sign_at}
use Rattle.lrat_check.proofs.AssumedSigns.{AreSignsOf-assumed}
use Rattle.lrat_check.proofs.assumed.Assumed.assume.Goals as goal

pub invariant_of-self-in-Ok : goal.invariant_of-self-in-Ok
invariant_of-self-in-Ok c =
    AreSignsOf-assumed (sign_at c.self.inside.signs) (sign_at c.set.new.self) c.self.inside.trail.items c.push.new.self.items c.args.lit c.new.result c.args.negated c.is_positive.result c.var.result
    c.new.ensures c.in_ok-push.ensures.items c.var.ensures.size c.var.ensures.not_zero c.is_positive.ensures c.self.invariant (rw c.self.view_is c.requires) c.in-Ok.ensures.ok
