use Rattle.std.proofs.Common.{◌≡◌, ◌+◌, ℕ, length, sym, ap, ◌∙◌, subst, arith}
use Rattle.std.proofs.lemmas.List.{get_or_read}
use Rattle.aig_model.specs.Literal.{var}
use Rattle.gate_order.specs.SortedGates.{AreUses, IsUseOf, gate_at, no_gate, input}
use Rattle.gate_order.proofs.Uses.{uses_more}
use Rattle.gate_order.proofs.order.sorted.list_uses.Goals as goal

pub loop-gate-preserved : goal.loop-gate-preserved
loop-gate-preserved c =
    let sorted = c.args.sorted.now in
    let i = c.loop-gate.gate-index in
    let named = c.use_of.result in
    let read : c.gate-item.result ≡ gate_at sorted i = get_or_read sorted i c.gate-item.result (omega arith) c.gate-item.is no_gate in
    let input_is : c.input.result ≡ input c.args.side (gate_at sorted i) = c.input.ensures ∙ ap (input c.args.side) read in
    let is : IsUseOf sorted (var (input c.args.side (gate_at sorted i))) named = subst (λ (lit : ℕ). IsUseOf sorted (var lit) named) input_is c.use_of.ensures in
    subst (AreUses c.args.side sorted (i + 1)) (sym c.in_ok-push.ensures.items)
    (uses_more c.args.side sorted c.loop-gate.uses.items i named c.loop-gate.invariant is)

pub returns : goal.returns
returns c =
    let all : c.loop-gate.gate-index ≡ length c.args.sorted.now = omega arith in
    subst (λ (n : ℕ). AreUses c.args.side c.args.sorted.now n c.loop-gate.uses.items) all c.loop-gate.invariant
