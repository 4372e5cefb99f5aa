use Rattle.std.proofs.Common.{◌≡◌, ℕ, ◌+◌, ◌-◌, ◌<◌, length, drop, arith, refl, false, length-drop}
use Rattle.std.proofs.lemmas.List.{take_more, get_or-drop}
use Rattle.aig_model.proofs.bits.Bits.part.Goals as goal

pub loop-place-preserved : goal.loop-place-preserved
loop-place-preserved c =
    let xs = c.args.self.now in
    let i : ℕ = c.loop-place.place - c.args.from in
    let inside : i < length (drop c.args.from xs) = omega (arith, length-drop c.args.from xs) in
    let at : c.args.from + i ≡ c.loop-place.place = omega arith in
    let next : i + 1 ≡ c.loop-place.place + 1 - c.args.from = omega arith in
    let read = get_or-drop c.args.from xs i false in
    rw (c.in_ok-push.ensures.ok, c.loop-place.invariant, c.get.ensures, ← next, take_more (drop c.args.from xs) i false inside, read, at) refl
