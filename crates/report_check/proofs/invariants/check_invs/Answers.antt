use Rattle.std.proofs.Common.{◌≡◌, ℕ, List, length, sym, ap, ◌∙◌, subst, arith, Option, Some, slice_get}
use Rattle.std.specs.Prelude.{MatchOption}
use Rattle.report_text.specs.declared.report.Inv.{Inv}
use Rattle.report_check.specs.declared.fault.CheckKind.{CheckKind}
use Rattle.report_check.specs.Invariants.{InvMeets}
use Rattle.report_check.specs.Order.{IsFirstKind}
use Rattle.report_check.proofs.Items.{all_below, item_at, more_below}
use Rattle.report_check.proofs.invariants.check_invs.Goals as goal

pub loop-place-preserved : goal.loop-place-preserved
loop-place-preserved c =
    let invs = c.args.report.now.invs in
    let place = c.loop-place.place in
    let inv = c.inv-item.result in
    let at : slice_get invs place ≡ Some inv = item_at invs c.as_slice-inv-items.result.now place inv c.as_slice-inv-items.ensures c.loop-place-test.true ∙ ap (λ (i : Inv). Some i) (sym c.inv-item.is) in
    let met : (q : CheckKind) → InvMeets c.args.circuit.now inv q =
    subst (λ (fault : Option CheckKind). MatchOption fault ((kind : CheckKind) → InvMeets c.args.circuit.now inv kind) (IsFirstKind (InvMeets c.args.circuit.now inv))) c.in_default.is c.in_ok-kind.ensures in
    more_below (λ (k : ℕ) (i : Inv). (q : CheckKind) → InvMeets c.args.circuit.now i q) invs place inv at c.loop-place.invariant met

pub returns : goal.returns
returns c = λ at kind i here.
    all_below (λ (k : ℕ) (x : Inv). (q : CheckKind) → InvMeets c.args.circuit.now x q) c.args.report.now.invs c.loop-place.place
    (omega (arith, ap (λ (xs : List Inv). length xs) c.as_slice-inv-items.ensures, c.loop-place-test.false)) c.loop-place.invariant at i here kind
