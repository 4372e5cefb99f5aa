use Rattle.std.proofs.Common.{◌≡◌, ◌+◌, ◌<◌, true, false, refl, length, sym, ◌∙◌, ap, subst, arith}
use Rattle.std.proofs.lemmas.List.{get_or_default}
use Rattle.aig_model.specs.Literal.{var}
use Rattle.aig_model.specs.declared.parts.AndGate.{AndGate}
use Rattle.gate_order.specs.SortedGates.{gate_at, no_gate}
use Rattle.gate_order.specs.StandingGates.{IsAboveInputs, StandSoFar}
use Rattle.gate_order.proofs.Standing.{one_more, all_stand, one_low}
use Rattle.gate_order.proofs.order.standing.stand_in_order.Goals as goal

pub loop-gate-preserved : goal.loop-gate-preserved
loop-gate-preserved c =
    let gates = c.args.gates.now in
    let i = c.loop-gate.gate-index in
    let before = c.loop-gate.last in
    let here : c.gate-item.result ≡ gate_at gates i = c.gate-item.is ∙ get_or_default gates i c.gate-item.result no_gate c.loop-gate-test.true in
    let above = c.if-not-is_above.ensures.0 refl in
    let rises : before < var (gate_at gates i).lhs = omega (arith, above.0, ap (λ (g : AndGate). var g.lhs) here) in
    let more = one_more gates i before c.loop-gate.invariant rises (subst IsAboveInputs here above.1) in
    let last : var (gate_at gates i).lhs ≡ c.var-last.result = sym (c.var-last.ensures ∙ ap (λ (g : AndGate). var g.lhs) here) in
    subst (StandSoFar gates (i + 1)) last more

not_false : ¬ (false ≡ true)
not_false e = cc

pub returns-then-not-is_above : goal.returns-then-not-is_above
returns-then-not-is_above c =
    let gates = c.args.gates.now in
    let i = c.loop-gate.gate-index in
    let here : c.gate-item.result ≡ gate_at gates i = c.gate-item.is ∙ get_or_default gates i c.gate-item.result no_gate c.loop-gate-test.true in (
      λ never. (cc),
      λ stand. absurd (one_low gates i c.loop-gate.last c.loop-gate.invariant c.loop-gate-test.true (λ (above : (c.loop-gate.last < var (gate_at gates i).lhs) × IsAboveInputs (gate_at gates i)).
          not_false (c.if-not-is_above.ensures.1 (omega (arith, above.0, ap (λ (g : AndGate). var g.lhs) here), subst IsAboveInputs (sym here) above.1))) stand),
    )

pub returns : goal.returns
returns c =
    let gates = c.args.gates.now in
    let all : c.loop-gate.gate-index ≡ length gates = omega arith in
    let stand = all_stand gates c.loop-gate.last (subst (λ n. StandSoFar gates n c.loop-gate.last) all c.loop-gate.invariant) in
    (λ _. stand, λ _. refl)
