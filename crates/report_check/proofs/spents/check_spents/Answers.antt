use Rattle.std.proofs.Common.{◌≡◌, ◌≤◌, ℕ, List, length, refl, sym, ap, ◌∙◌, subst, arith, Option, Some, slice_get}
use Rattle.std.specs.Prelude.{MatchOption}
use Rattle.report_text.specs.declared.report.Block.{Block}
use Rattle.report_check.specs.declared.fault.CheckKind.{CheckKind}
use Rattle.report_check.specs.declared.fault.CheckKind.TheVariants as kinds
use Rattle.report_check.specs.Order.{IsFirstKind}
use Rattle.report_check.specs.Queries.{SpentMeets}
use Rattle.report_check.proofs.Items.{all_below, first_in, item_at, more_below}
use Rattle.report_check.proofs.spents.check_spents.Goals as goal

pub spent_fault-requires-clause-ordered : goal.spent_fault-requires-clause-ordered
spent_fault-requires-clause-ordered c = λ j k a b less below at_j at_k. ((c.loop-place.invariant k b below at_k kinds.Query).query refl).ordered j a less at_j

pub returns-in-Some : goal.returns-in-Some
returns-in-Some c =
    let parts = c.args.circuit.now in
    let sig = c.args.signals.now.lits in
    let r = c.args.report.now in
    let place = c.loop-place.place in
    let b = c.block-item.result in
    let at : slice_get r.spents place ≡ Some b = item_at r.spents c.as_slice-block-items.result.now place b c.as_slice-block-items.ensures c.loop-place-test.true ∙ ap (λ (x : Block). Some x) (sym c.block-item.is) in
    let first : IsFirstKind (SpentMeets parts sig r place b) c.in-Some.kind =
    subst (λ (fault : Option CheckKind). MatchOption fault ((kind : CheckKind) → SpentMeets parts sig r place b kind) (IsFirstKind (SpentMeets parts sig r place b))) c.in-Some.is c.in_ok-kind.ensures in
    (refl, first_in (λ (k : ℕ) (x : Block) (q : CheckKind). SpentMeets parts sig r k x q) r.spents place b c.in-Some.kind at c.loop-place.invariant first)

pub loop-place-preserved : goal.loop-place-preserved
loop-place-preserved c =
    let parts = c.args.circuit.now in
    let sig = c.args.signals.now.lits in
    let r = c.args.report.now in
    let place = c.loop-place.place in
    let b = c.block-item.result in
    let at : slice_get r.spents place ≡ Some b = item_at r.spents c.as_slice-block-items.result.now place b c.as_slice-block-items.ensures c.loop-place-test.true ∙ ap (λ (x : Block). Some x) (sym c.block-item.is) in
    let met : (q : CheckKind) → SpentMeets parts sig r place b q =
    subst (λ (fault : Option CheckKind). MatchOption fault ((kind : CheckKind) → SpentMeets parts sig r place b kind) (IsFirstKind (SpentMeets parts sig r place b))) c.in_default.is c.in_ok-kind.ensures in
    more_below (λ (k : ℕ) (x : Block). (q : CheckKind) → SpentMeets parts sig r k x q) r.spents place b at c.loop-place.invariant met

pub returns : goal.returns
returns c = λ at kind b here.
    let all : length c.args.report.now.spents ≤ c.loop-place.place = omega (arith, ap (λ (xs : List Block). length xs) c.as_slice-block-items.ensures, c.loop-place-test.false) in
    all_below (λ (k : ℕ) (x : Block). (q : CheckKind) → SpentMeets c.args.circuit.now c.args.signals.now.lits c.args.report.now k x q) c.args.report.now.spents c.loop-place.place all c.loop-place.invariant at b here kind
