use Rattle.std.proofs.Common.{◌≡◌, ◌≢◌, ◌+◌, ◌*◌, get_or, false, true, refl, sym, ◌∙◌, subst, arith}
use Rattle.std.proofs.lemmas.List.{length-map}
use Rattle.aig_model.specs.WellFormed.{latch_lits}
use Rattle.aig_model.specs.declared.parts.Latch.{Latch}
use Rattle.aig_binary.specs.BinaryOrder.{IsMisplaced}
use Rattle.aig_binary.proofs.Misplaced.{one-more, here-misplaced, lit-of}
use Rattle.aig_binary.proofs.order.misplaced_latch.Goals as goal

pub returns-then-not-is_lit_of : goal.returns-then-not-is_lit_of
returns-then-not-is_lit_of c =
    let l = c.loop-place in
    let v = c.args.first in
    let here : get_or (latch_lits c.args.latches.now) l.place 0 ≡ c.index-latches-place.result.lit = lit-of (λ (x : Latch). x.lit) c.args.latches.now l.place c.index-latches-place.result c.loop-place-test.true c.index-latches-place.is in
    let wrong : get_or (latch_lits c.args.latches.now) l.place 0 ≢ 2 * (v + l.place) = λ same. let clash : false ≡ true = (c.if-not-is_lit_of.ensures).1 (sym here ∙ same) in cc in
    subst (λ n. IsMisplaced v (latch_lits c.args.latches.now) n) here (here-misplaced (latch_lits c.args.latches.now) v l.place l.invariant (omega (arith, length-map c.args.latches.now (λ (x : Latch). x.lit), c.loop-place-test.true)) wrong)

pub loop-place-preserved : goal.loop-place-preserved
loop-place-preserved c =
    let l = c.loop-place in
    let v = c.args.first in
    let here : get_or (latch_lits c.args.latches.now) l.place 0 ≡ c.index-latches-place.result.lit = lit-of (λ (x : Latch). x.lit) c.args.latches.now l.place c.index-latches-place.result c.loop-place-test.true c.index-latches-place.is in
    one-more (latch_lits c.args.latches.now) v l.place l.invariant (omega (arith, length-map c.args.latches.now (λ (x : Latch). x.lit), c.loop-place-test.true)) (here ∙ (c.if-not-is_lit_of.ensures).0 refl)
