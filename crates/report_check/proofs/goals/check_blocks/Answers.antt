use Rattle.std.proofs.Common.{◌≡◌, ◌≤◌, ℕ, List, length, sym, ap, ◌∙◌, subst, arith, Option, Some, slice_get}
use Rattle.std.specs.Prelude.{MatchOption}
use Rattle.report_text.specs.declared.report.GoalBlock.{GoalBlock}
use Rattle.report_check.specs.declared.fault.CheckKind.{CheckKind}
use Rattle.report_check.specs.Goals.{GoalMeets}
use Rattle.report_check.specs.Order.{IsFirstKind}
use Rattle.report_check.proofs.FirstKinds.{goals_met}
use Rattle.report_check.proofs.Items.{all_below, item_at, more_below}
use Rattle.report_check.proofs.goals.check_blocks.Goals as goal

pub loop-place-preserved : goal.loop-place-preserved
loop-place-preserved c =
    let parts = c.args.circuit.now in
    let sig = c.args.signals.now.lits in
    let r = c.args.report.now in
    let place = c.loop-place.place in
    let b = c.block-item.result in
    let at : slice_get r.goals place ≡ Some b = item_at r.goals c.as_slice-block-items.result.now place b c.as_slice-block-items.ensures c.loop-place-test.true ∙ ap (λ (x : GoalBlock). Some x) (sym c.block-item.is) in
    let met : (q : CheckKind) → GoalMeets parts sig r place b q =
    subst (λ (fault : Option CheckKind). MatchOption fault ((kind : CheckKind) → GoalMeets parts sig r place b kind) (IsFirstKind (GoalMeets parts sig r place b))) c.in_default.is c.in_ok-kind.ensures in
    more_below (λ (k : ℕ) (x : GoalBlock). (q : CheckKind) → GoalMeets parts sig r k x q) r.goals place b at c.loop-place.invariant met

pub returns : goal.returns
returns c =
    let r = c.args.report.now in
    let all : length r.goals ≤ c.loop-place.place = omega (arith, ap (λ (xs : List GoalBlock). length xs) c.as_slice-block-items.ensures, c.loop-place-test.false) in
    goals_met c.args.circuit.now c.args.signals.now.lits r c.requires.count
    (all_below (λ (k : ℕ) (x : GoalBlock). (q : CheckKind) → GoalMeets c.args.circuit.now c.args.signals.now.lits r k x q) r.goals c.loop-place.place all c.loop-place.invariant)
