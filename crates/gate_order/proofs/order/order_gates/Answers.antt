use Rattle.std.proofs.Common.{IfOk, IfErr}
use Rattle.gate_order.specs.GateOrder.{IsGateOrder, IsFault}
use Rattle.gate_order.proofs.Answered.{answer_ordered, answer_ok, answer_cycle}
use Rattle.gate_order.proofs.order.order_gates.Goals as goal

is_order : (c : goal.After-order_or_fault) → IfOk c.order_or_fault.result (IsGateOrder c.args.gates.now)
is_order c = rw (← c.as_slice.ensures) c.order_or_fault.ensures.order

is_fault : (c : goal.After-order_or_fault) → IfErr c.order_or_fault.result (IsFault c.args.gates.now)
is_fault c = rw (← c.as_slice.ensures) c.order_or_fault.ensures.cycle

pub returns-clause-ordered : goal.returns-clause-ordered
returns-clause-ordered c = answer_ordered _ c.requires _ (is_order c)

pub returns-clause-ok : goal.returns-clause-ok
returns-clause-ok c = answer_ok _ c.requires _ (is_order c) (is_fault c)

pub returns-clause-cycle : goal.returns-clause-cycle
returns-clause-cycle c = answer_cycle _ c.requires _ (is_order c) (is_fault c)
