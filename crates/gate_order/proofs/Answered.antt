-- What an answer says: when it comes, and that there is no other.
use Rattle.std.proofs.Common.{◌≡◌, ℕ, inl, inr, List, Result, Ok, Err, IfOk, IfErr, ap, subst, refl}
use Rattle.std.specs.List.Sorted.{IsPermutation}
use Rattle.aig_model.specs.WellFormed.{IsOrdered}
use Rattle.aig_model.specs.declared.parts.AndGate.{AndGate}
use Rattle.gate_order.specs.declared.order.fault.OrderFault.{OrderFault}
use Rattle.gate_order.specs.declared.order.fault.OrderFault.TheVariants.{Cycle, OutOfMemory}
use Rattle.gate_order.specs.GateOrder.{DefineApart, IsGateOrder, IsAcyclic, IsCycle, IsFault}
use Rattle.ketch_base.specs.Exactly.{OkExactly, ErrExactly}
use Rattle.gate_order.proofs.Depends.{order_again, is_cycle_again, acyclic_from_order, order_or_cycle, one_cycle}
use Rattle.gate_order.proofs.OrderedGates.{ordered_gates}

module _ (gates : List AndGate) (define : DefineApart gates) where
  pub answer_ordered : (r : Result (List AndGate) OrderFault) → IfOk r (IsGateOrder gates) → IfOk r IsOrdered
  answer_ordered (Ok ordered) ok = ordered_gates gates define ordered ok
  answer_ordered (Err fault) ok = tt

  pub answer_ok : (r : Result (List AndGate) OrderFault) → IfOk r (IsGateOrder gates) → IfErr r (IsFault gates) → OkExactly OutOfMemory r (IsAcyclic gates)
  answer_ok (Ok ordered) ok err = record { only = λ _. acyclic_from_order gates ordered ok; comes = λ acyclic. inl refl }
  answer_ok (Err (Cycle lhs)) ok err = record { only = λ never. (cc); comes = λ acyclic. absurd (acyclic err.depends.on err.depends.cycle) }
  answer_ok (Err OutOfMemory) ok err = record { only = λ never. (cc); comes = λ acyclic. inr refl }

  pub answer_cycle : (r : Result (List AndGate) OrderFault) → IfOk r (IsGateOrder gates) → IfErr r (IsFault gates) → (lhs : ℕ) → ErrExactly OutOfMemory r (Cycle lhs) (IsCycle gates lhs)
  answer_cycle (Ok ordered) ok err lhs = record { only = λ never. (cc); comes = λ is. absurd (order_or_cycle gates ordered lhs ok is) }
  answer_cycle (Err (Cycle named)) ok err lhs =
      record {
        only = λ e. let at : named ≡ lhs = cc in subst (IsCycle gates) at err;
        comes = λ is. inl (ap (λ n. Err (Cycle n)) (one_cycle gates named lhs err is));
      }
  answer_cycle (Err OutOfMemory) ok err lhs = record { only = λ never. (cc); comes = λ is. inr refl }

-- ---- what an answer on sorted gates says of the gates themselves
module _ (gates sorted : List AndGate) (same : IsPermutation gates sorted) where
  pub order_of_sorted : (r : Result (List AndGate) OrderFault) → IfOk r (IsGateOrder sorted) → IfOk r (IsGateOrder gates)
  order_of_sorted (Ok ordered) ok = order_again gates sorted ordered same ok
  order_of_sorted (Err fault) ok = tt

  pub fault_of_sorted : (r : Result (List AndGate) OrderFault) → IfErr r (IsFault sorted) → IfErr r (IsFault gates)
  fault_of_sorted (Ok ordered) err = tt
  fault_of_sorted (Err (Cycle lhs)) err = is_cycle_again gates sorted lhs same err
  fault_of_sorted (Err OutOfMemory) err = tt
