use Rattle.std.proofs.Common.{◌≤◌, get_or, refl, arith}
use Rattle.aig_binary.proofs.Deltas.{power-few, product-few, sixth-byte}
use Rattle.aig_binary.proofs.delta.delta_at.Goals as goal

pub returns-then-place-eq5 : goal.returns-then-place-eq5
returns-then-place-eq5 c =
    let l = c.loop-place in
    sixth-byte c.args.bytes.now l.place l.weight l.value (get_or c.args.bytes.now l.place 0) l.invariant c.loop-place-test.true refl c.if-place-eq5.true

pub overflow_mul-value : goal.overflow_mul-value
overflow_mul-value c =
    let l = c.loop-place in
    let few : l.weight ≤ 268435456 = omega (arith, l.invariant.weight, power-few l.place (omega arith)) in
    let byte = c.type_inv.bytes l.place in
    omega (arith, product-few c.from-in-loop-place.result l.weight (omega (arith, byte, c.from-in-loop-place.ensures)) few)

pub overflow_add-value : goal.overflow_add-value
overflow_add-value c =
    let l = c.loop-place in
    let few : l.weight ≤ 268435456 = omega (arith, l.invariant.weight, power-few l.place (omega arith)) in
    let byte = c.type_inv.bytes l.place in
    omega (arith, l.invariant.small, product-few c.from-in-loop-place.result l.weight (omega (arith, byte, c.from-in-loop-place.ensures)) few)
