use Rattle.inv_cert.proofs.Resets.{holds}
use Rattle.inv_cert.proofs.reset.holds_at_reset.Goals as goal

pub returns-clause-holds : goal.returns-clause-holds
returns-clause-holds c = (
  λ yes. holds c.args.circuit.now c.args.clause.now c.falsify.new.state c.requires.latches c.falsify.ensures.falsified (c.satisfies.ensures.0 yes),
  λ always. c.satisfies.ensures.1 (always c.falsify.new.state c.falsify.ensures.reset),
)
