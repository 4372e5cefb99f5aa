use Rattle.std.proofs.Common.{ℕ, ◌+◌, ◌*◌, ◌-◌, ◌++◌, ◌∷◌, [], sym, ap, ◌∙◌, subst}
use Rattle.std.proofs.lemmas.Result.{err_from_is_err_and}
use Rattle.text_words.specs.Text.{Rest}
use Rattle.aig_ascii.specs.FirstFaults.{first_unmet, Fails}
use Rattle.aig_ascii.proofs.FirstFaults.{says-err}
use Rattle.aig_binary.specs.Sections.{gate_demands, gate_at, gates_demands, gates_at, behind_gate, behind_gates}
use Rattle.aig_binary.proofs.Counted.{SameDemands, first-fails, first-met, one-item, gates-step, gates_at-step, behind-step}
use Rattle.aig_binary.proofs.gates.read_gates.Goals as goal

pub returns-in_err-gate-clause-demands : goal.returns-in_err-gate-clause-demands
returns-in_err-gate-clause-demands c =
    let p = err_from_is_err_and c.from_residual.result c.from_residual.ensures.1 in
    let e = c.in_err-gate.field-0.0 in
    let end = c.args.first + c.args.count in
    let v = c.loop-var.var in
    let r = c.loop-var.bytes in
    says-err c.from_residual.result p.0 e _ p.1 p.2
    (first-fails e (gates_demands v (end - v) r) (gate_demands (2 * v) r) (gates_demands (v + 1) (end - (v + 1)) (behind_gate r)) (gates_demands c.args.first c.args.count c.args.bytes.now) (gates-step v end r c.loop-var-test.true) c.loop-var.invariant.demands
    (subst (λ (x : ℕ). Fails e (first_unmet (gate_demands x r))) c.new-lhs.ensures c.in_err-gate.ensures.demands))

pub loop-var-preserved : goal.loop-var-preserved
loop-var-preserved c =
    let end = c.args.first + c.args.count in
    let v = c.loop-var.var in
    let r = c.loop-var.bytes in
    let kept = c.loop-var.invariant in
    let read = c.in_ok-gate.ensures in
    let inside = c.loop-var-test.true in
    let met = first-met (gates_demands v (end - v) r) (gate_demands (2 * v) r) (gates_demands (v + 1) (end - (v + 1)) (behind_gate r)) (gates_demands c.args.first c.args.count c.args.bytes.now) (gates-step v end r inside) kept.demands
    (ap (λ (x : ℕ). first_unmet (gate_demands x r)) (sym c.new-lhs.ensures) ∙ read.demands) in
    let items = one-item c.loop-var.gates c.push.new.self (gates_at v (end - v) r) (gates_at (v + 1) (end - (v + 1)) (behind_gate r)) (gates_at c.args.first c.args.count c.args.bytes.now) (gate_at (2 * v) r) kept.gates
    (c.in_ok-push.ensures.ok ∙ ap (λ x. c.loop-var.gates ++ x ∷ []) (read.gate ∙ ap (λ (x : ℕ). gate_at x r) c.new-lhs.ensures)) (gates_at-step v end r inside) in
    let after = sym (behind-step v end r inside) ∙ kept.next in
    record {
      demands = subst (λ (x : Rest). SameDemands (gates_demands (v + 1) (end - (v + 1)) x) (gates_demands c.args.first c.args.count c.args.bytes.now)) (sym read.next) met;
      gates = ap (λ (x : Rest). c.push.new.self ++ gates_at (v + 1) (end - (v + 1)) x) read.next ∙ items;
      next = ap (λ (x : Rest). behind_gates (end - (v + 1)) x) read.next ∙ after;
    }
