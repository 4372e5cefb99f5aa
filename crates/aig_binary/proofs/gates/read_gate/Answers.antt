use Rattle.std.proofs.Common.{◌≡◌, ◌-◌, ℕ, None, sym, ap, ◌∙◌, subst}
use Rattle.std.proofs.lemmas.Result.{err_from_is_err_and}
use Rattle.aig_ascii.specs.FirstFaults.{first_unmet, Fails}
use Rattle.aig_ascii.proofs.FirstFaults.{says-err, fails-front}
use Rattle.aig_binary.specs.Deltas.{behind_delta}
use Rattle.aig_binary.specs.Sections.{delta_demands, left_at}
use Rattle.aig_binary.proofs.Counted.{second-fails, gate-met}
use Rattle.aig_binary.proofs.gates.read_gate.Goals as goal

pub returns-in_err-first-clause-demands : goal.returns-in_err-first-clause-demands
returns-in_err-first-clause-demands c =
    let p = err_from_is_err_and c.from_residual.result c.from_residual.ensures.1 in
    let e = c.in_err-first.field-0.0 in
    let lhs = c.args.lhs in
    let r = c.args.bytes.now in
    says-err c.from_residual.result p.0 e _ p.1 p.2
    (fails-front e (delta_demands 1 lhs r) (delta_demands 0 (left_at lhs r) (behind_delta r))
    (subst (λ (n : ℕ). Fails e (first_unmet (delta_demands 1 n r))) c.value-side.ensures c.in_err-first.ensures.demands))

pub returns-in_err-second-clause-demands : goal.returns-in_err-second-clause-demands
returns-in_err-second-clause-demands c =
    let p = err_from_is_err_and c.from_residual-in_err-second.result c.from_residual-in_err-second.ensures.1 in
    let e = c.in_err-second.field-0.0 in
    let lhs = c.args.lhs in
    let r = c.args.bytes.now in
    let first = c.in_ok-first.ensures in
    let met : first_unmet (delta_demands 1 lhs r) ≡ None = ap (λ (n : ℕ). first_unmet (delta_demands 1 n r)) (sym c.value-side.ensures) ∙ first.demands in
    says-err c.from_residual-in_err-second.result p.0 e _ p.1 p.2
    (second-fails e lhs c.in_ok-first.first _ r c.delta.new.self met first.value (ap (λ n. n - c.in_ok-first.first) c.value-side.ensures) first.next c.in_err-second.ensures.demands)

pub returns-clause-demands : goal.returns-clause-demands
returns-clause-demands c =
    let lhs = c.args.lhs in
    let r = c.args.bytes.now in
    let first = c.in_ok-first.ensures in
    let met : first_unmet (delta_demands 1 lhs r) ≡ None = ap (λ (n : ℕ). first_unmet (delta_demands 1 n r)) (sym c.value-side.ensures) ∙ first.demands in
    gate-met lhs c.in_ok-first.first _ r c.delta.new.self met first.value (ap (λ n. n - c.in_ok-first.first) c.value-side.ensures) first.next c.in_ok-second.ensures.demands
