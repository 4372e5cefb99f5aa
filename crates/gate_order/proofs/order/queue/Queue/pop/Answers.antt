use Rattle.std.proofs.Common.{ℕ}
use Rattle.std.specs.declared.cmp.Reverse.{Reverse}
use Rattle.std.proofs.lemmas.List.Sorted.{IsPermutation-map}
use Rattle.gate_order.proofs.Queued.{least_from_top}
use Rattle.gate_order.proofs.order.queue.Queue.pop.Goals as goal

pub returns-clause-least : goal.returns-clause-least
returns-clause-least c = least_from_top c.in_ok-place.field-0 _ (c.in_ok-place.ensures.below_top c.self.invariant)

pub returns-clause-rest : goal.returns-clause-rest
returns-clause-rest c = rw (← c.self.view_is) (IsPermutation-map (λ (r : Reverse ℕ). r.0) _ _ c.in_ok-place.ensures.permutation)
