use Rattle.aig_binary.proofs.Groups.{all-left, one-group}
use Rattle.aig_binary.proofs.delta.push_delta.Goals as goal

pub loop-left-init : goal.loop-left-init
loop-left-init c = all-left c.args.text.now.items c.args.delta c.ranges.delta.fits

pub loop-left-preserved : goal.loop-left-preserved
loop-left-preserved c =
    one-group _ c.loop-left.text.items c.loop-left.left c.loop-left.invariant c.loop-left-test.true c.push.new.self.items c.in_ok-push.ensures.items
