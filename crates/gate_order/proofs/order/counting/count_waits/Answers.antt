use Rattle.std.proofs.Common.{◌+◌, ℕ, List, get_or, length, ap, ◌∙◌, arith}
use Rattle.std.proofs.lemmas.List.{length_push}
use Rattle.gate_order.proofs.Uses.{counts_more}
use Rattle.gate_order.proofs.order.counting.count_waits.Goals as goal

pub loop-place-preserved : goal.loop-place-preserved
loop-place-preserved c =
    let pushed = c.in_ok-push.ensures.items in
    record {
      size = ap length pushed ∙ (length_push c.loop-place.waits.items (c.from.result + c.from-in-loop-place.result) ∙ ap (λ n. n + 1) c.loop-place.invariant.size);
      counts = λ k h. ap (λ (l : List ℕ). get_or l k 0) pushed
          ∙ counts_more c.args.left.now c.args.right.now c.loop-place.waits.items c.loop-place.place c.from.result c.from-in-loop-place.result
          c.loop-place.invariant.size c.loop-place.invariant.counts c.from.ensures c.from-in-loop-place.ensures k h;
    }

pub returns-clause-size : goal.returns-clause-size
returns-clause-size c = omega (arith, c.loop-place.invariant.size)

pub returns-clause-counts : goal.returns-clause-counts
returns-clause-counts c = λ k h. c.loop-place.invariant.counts k (omega (arith, h))
