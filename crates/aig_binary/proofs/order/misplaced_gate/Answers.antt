use Rattle.std.proofs.Common.{◌≡◌, ◌≢◌, ◌+◌, ◌*◌, get_or, false, true, refl, sym, ◌∙◌, subst, arith}
use Rattle.std.proofs.lemmas.List.{length-map}
use Rattle.aig_model.specs.WellFormed.{left_sides}
use Rattle.aig_model.specs.declared.parts.AndGate.{AndGate}
use Rattle.aig_binary.specs.BinaryOrder.{IsMisplaced}
use Rattle.aig_binary.proofs.Misplaced.{one-more, here-misplaced, lit-of}
use Rattle.aig_binary.proofs.order.misplaced_gate.Goals as goal

pub returns-then-not-is_lit_of : goal.returns-then-not-is_lit_of
returns-then-not-is_lit_of c =
    let l = c.loop-place in
    let v = c.args.first in
    let here : get_or (left_sides c.args.gates.now) l.place 0 ≡ c.index-gates-place.result.lhs = lit-of (λ (x : AndGate). x.lhs) c.args.gates.now l.place c.index-gates-place.result c.loop-place-test.true c.index-gates-place.is in
    let wrong : get_or (left_sides c.args.gates.now) l.place 0 ≢ 2 * (v + l.place) = λ same. let clash : false ≡ true = (c.if-not-is_lit_of.ensures).1 (sym here ∙ same) in cc in
    subst (λ n. IsMisplaced v (left_sides c.args.gates.now) n) here (here-misplaced (left_sides c.args.gates.now) v l.place l.invariant (omega (arith, length-map c.args.gates.now (λ (x : AndGate). x.lhs), c.loop-place-test.true)) wrong)

pub loop-place-preserved : goal.loop-place-preserved
loop-place-preserved c =
    let l = c.loop-place in
    let v = c.args.first in
    let here : get_or (left_sides c.args.gates.now) l.place 0 ≡ c.index-gates-place.result.lhs = lit-of (λ (x : AndGate). x.lhs) c.args.gates.now l.place c.index-gates-place.result c.loop-place-test.true c.index-gates-place.is in
    one-more (left_sides c.args.gates.now) v l.place l.invariant (omega (arith, length-map c.args.gates.now (λ (x : AndGate). x.lhs), c.loop-place-test.true)) (here ∙ (c.if-not-is_lit_of.ensures).0 refl)
