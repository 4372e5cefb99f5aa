-- A queue keeps its length where a variable comes to the front.
use Rattle.std.proofs.Common.{◌≡◌, ℕ, ◌<◌, ◌≤◌, List, ◌∷◌, length, ap, ◌∙◌, arith}
use Rattle.std.proofs.lemmas.List.{length-append}
use Rattle.sat_queue.specs.Order.{IsOrder, with_front}
use Rattle.sat_queue.proofs.Ring.{var_stands, front_is}

pub length-with_front : (v : ℕ) (list : List ℕ) → IsOrder list → 0 < v → v ≤ length list → length (with_front v list) ≡ length list
length-with_front v list h positive within =
    let s = var_stands list v h positive within in
    ap length (front_is list v h s)
    ∙ omega (arith, ap length s.parts, length-append s.before (v ∷ s.after), length-append s.before s.after)
