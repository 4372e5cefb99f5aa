use Rattle.std.proofs.Common.{◌≡◌, ◌≢◌, ◌+◌, ◌*◌, get_or, false, true, refl, sym, ◌∙◌, subst}
use Rattle.aig_binary.specs.BinaryOrder.{IsMisplaced}
use Rattle.aig_binary.proofs.Misplaced.{one-more, here-misplaced, input-of}
use Rattle.aig_binary.proofs.order.misplaced_input.Goals as goal

pub returns-then-not-is_lit_of : goal.returns-then-not-is_lit_of
returns-then-not-is_lit_of c =
    let l = c.loop-place in
    let v = c.args.first in
    let here : get_or c.args.inputs.now l.place 0 ≡ c.index-inputs-place.result = input-of c.args.inputs.now l.place c.index-inputs-place.result c.loop-place-test.true c.index-inputs-place.is in
    let wrong : get_or c.args.inputs.now l.place 0 ≢ 2 * (v + l.place) = λ same. let clash : false ≡ true = (c.if-not-is_lit_of.ensures).1 (sym here ∙ same) in cc in
    subst (λ n. IsMisplaced v c.args.inputs.now n) here (here-misplaced c.args.inputs.now v l.place l.invariant (c.loop-place-test.true) wrong)

pub loop-place-preserved : goal.loop-place-preserved
loop-place-preserved c =
    let l = c.loop-place in
    let v = c.args.first in
    let here : get_or c.args.inputs.now l.place 0 ≡ c.index-inputs-place.result = input-of c.args.inputs.now l.place c.index-inputs-place.result c.loop-place-test.true c.index-inputs-place.is in
    one-more c.args.inputs.now v l.place l.invariant (c.loop-place-test.true) (here ∙ (c.if-not-is_lit_of.ensures).0 refl)
