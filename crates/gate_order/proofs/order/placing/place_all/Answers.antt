use Rattle.std.proofs.Common.{arith}
use Rattle.gate_order.proofs.Placing.{placing_start, placing_more, work_less, left_waits, right_waits, place_inside}
use Rattle.gate_order.proofs.order.placing.place_all.Goals as goal

pub loop-place-init : goal.loop-place-init
loop-place-init c =
    rw c.in_ok-placed.ensures.items
    (placing_start c.args.left.now c.args.right.now c.args.waits.now c.in_ok-queue.queue c.requires.left_size c.requires.right_size c.requires.counts c.in_ok-queue.ensures)

pub release-requires-clause-place : goal.release-requires-clause-place
release-requires-clause-place c =
    omega (arith, place_inside _ _ _ _ _ c.loop-place.invariant c.in-Some.place _ c.in-Some.ensures.rest c.in-Some.ensures.least, c.loop-place.invariant.left_size)

pub release-requires-clause-waiting : goal.release-requires-clause-waiting
release-requires-clause-waiting c = left_waits _ _ _ _ _ c.loop-place.invariant c.in-Some.place _ c.in-Some.ensures.rest c.in-Some.ensures.least

pub release-requires-in-Some-clause-place : goal.release-requires-in-Some-clause-place
release-requires-in-Some-clause-place c =
    omega (arith, place_inside _ _ _ _ _ c.loop-place.invariant c.in-Some.place _ c.in-Some.ensures.rest c.in-Some.ensures.least, c.loop-place.invariant.right_size)

pub release-requires-in-Some-clause-waiting : goal.release-requires-in-Some-clause-waiting
release-requires-in-Some-clause-waiting c =
    right_waits _ _ _ _ _ c.loop-place.invariant c.in-Some.place _ c.in-Some.ensures.rest c.in-Some.ensures.least _ _ c.in_ok-release.ensures

pub loop-place-smaller : goal.loop-place-smaller
loop-place-smaller c =
    work_less _ _ _ _ _ c.loop-place.invariant c.in-Some.place _ c.in-Some.ensures.rest c.in-Some.ensures.least _ _ c.in_ok-release.ensures _ _ c.in_ok-release-2.ensures

pub loop-place-preserved : goal.loop-place-preserved
loop-place-preserved c =
    rw c.in_ok-push.ensures.items
    (placing_more _ _ _ _ _ c.loop-place.invariant c.in-Some.place _ c.in-Some.ensures.rest c.in-Some.ensures.least _ _ c.in_ok-release.ensures _ _ c.in_ok-release-2.ensures)
