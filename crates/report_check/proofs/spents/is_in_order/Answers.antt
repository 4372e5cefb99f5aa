use Rattle.std.proofs.Common.{◌≡◌, ◌≢◌, ℕ, ◌+◌, ◌-◌, ◌<◌, List, get_or, sym, subst, arith, Some, slice_get}
use Rattle.std.specs.Prelude.{◌↔◌}
use Rattle.std.proofs.lemmas.Option.{slice_get-get_or}
use Rattle.report_text.specs.declared.report.Block.{Block}
use Rattle.report_check.specs.Known.{ComeInOrder}
use Rattle.report_check.specs.Queries.{ComesBefore}
use Rattle.report_check.proofs.Asking.{next_in_order}
use Rattle.report_check.proofs.spents.is_in_order.Goals as goal

-- counted from the place itself
behind_last : (xs : List Block) (place : ℕ) (last b : Block) → place ≢ 0 → slice_get xs (place - 1) ≡ Some last → slice_get xs place ≡ Some b → ComeInOrder xs place
    → ComesBefore last.name b.name ↔ ComeInOrder xs (place + 1)
behind_last xs place last b some at_last at_b ordered =
    let is : place - 1 + 1 ≡ place = omega (arith, some) in
    subst (λ (n : ℕ). ComesBefore last.name b.name ↔ ComeInOrder xs (n + 1)) is
    (next_in_order xs (place - 1) last b at_last (subst (λ (n : ℕ). slice_get xs n ≡ Some b) (sym is) at_b) (subst (λ (n : ℕ). ComeInOrder xs n) (sym is) ordered))

pub returns-else-place-eq0 : goal.returns-else-place-eq0
returns-else-place-eq0 c =
    let xs = c.args.blocks.now in
    let place = c.args.place in
    let last : Block = get_or xs (place - 1) c.index-blocks-place.result in
    let b : Block = get_or xs place c.index-blocks-place-else-place-eq0.result in
    let at_last : slice_get xs (place - 1) ≡ Some last = slice_get-get_or xs (place - 1) c.index-blocks-place.result (omega (arith, c.requires.inside)) in
    let at : slice_get xs place ≡ Some b = slice_get-get_or xs place c.index-blocks-place-else-place-eq0.result c.requires.inside in
    let behind : ComesBefore last.name b.name ↔ ComeInOrder xs (place + 1) = behind_last xs place last b c.if-place-eq0.false at_last at c.requires.ordered in
    (λ yes. behind.0 (c.comes_before.ensures.0 yes), λ ordered. c.comes_before.ensures.1 (behind.1 ordered))
