use Rattle.std.proofs.Common.{◌≡◌, ◌+◌, ℕ, length, List, sym, subst, arith}
use Rattle.gate_order.specs.PlaceOrder.{Queues}
use Rattle.gate_order.proofs.Queued.{queues_none, queues_more_ready, queues_more_waiting}
use Rattle.gate_order.proofs.order.placing.first_ready.Goals as goal
use Rattle.gate_order.proofs.order.placing.first_ready.Goals.{then-count-eq0+in_ok-push, else-count-eq0}

pub loop-place-init : goal.loop-place-init
loop-place-init c = rw c.new-queue.ensures (queues_none c.args.waits.now)

pub loop-place-preserved : goal.loop-place-preserved
loop-place-preserved c =
    let bound = c.loop-place.place in
    let P : List ℕ → Type 0 = λ queue. Queues c.args.waits.now (bound + 1) queue in
    elim c.if-count-eq0.branch [
      | then-count-eq0+in_ok-push w ↦
          subst P (sym w.queue-is) (queues_more_ready c.args.waits.now c.loop-place.queue _ bound c.loop-place.invariant w.if-count-eq0.true w.in_ok-push.ensures)
      | else-count-eq0 w ↦
          subst P (sym w.queue-is) (queues_more_waiting c.args.waits.now c.loop-place.queue bound c.loop-place.invariant w.if-count-eq0.false)
    ]

pub returns : goal.returns
returns c =
    let all : c.loop-place.place ≡ length c.args.waits.now = omega arith in
    subst (λ (bound : ℕ). Queues c.args.waits.now bound c.loop-place.queue) all c.loop-place.invariant
