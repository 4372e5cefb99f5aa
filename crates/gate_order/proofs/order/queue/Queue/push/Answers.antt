use Rattle.std.proofs.Common.{ℕ}
use Rattle.std.specs.declared.cmp.Reverse.{Reverse}
use Rattle.std.proofs.lemmas.List.Sorted.{IsPermutation-map}
use Rattle.gate_order.proofs.order.queue.Queue.push.Goals as goal

pub returns : goal.returns
returns c =
    rw (← c.self.view_is) (IsPermutation-map (λ (r : Reverse ℕ). r.0) _ _ c.in_ok-push.ensures.permutation)
