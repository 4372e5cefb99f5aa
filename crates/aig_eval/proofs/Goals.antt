-- Goals are numbers below a power of two.
use Rattle.std.proofs.Common.{◌≡◌, ℕ, ◌+◌, ◌*◌, ◌^◌, ◌<◌, ◌≤◌, lit<, lit≤, Bool, true, false, List, length, get_or, drop, arith, refl, length-drop}
use Rattle.std.proofs.lemmas.List.{drop_more}
use Rattle.std.proofs.Math.Nat.{pow-le-pow_right}
use Rattle.aig_model.specs.Literal.{value_of, number}
use Rattle.aig_model.specs.Meaning.{Assignment, goal_of}
use Rattle.aig_model.proofs.OneGoal.{goal_of-lt}

pub number-at_most : (b : Bool) → number b ≤ 1
number-at_most true = lit≤ tt
number-at_most false = lit≤ tt

-- with ten signals at most, the goal of the last of them is small
pub goal-small : (sig : List ℕ) (a : Assignment) (place : ℕ) → length sig ≤ 10 → goal_of (drop place sig) a < 1024
goal-small sig a place few =
    let count : length (drop place sig) ≤ 10 = omega (arith, length-drop place sig) in
    let power : 2 ^ length (drop place sig) ≤ 2 ^ 10 = pow-le-pow_right {n = 2} (lit< tt) count in
    omega (arith, power, goal_of-lt (drop place sig) a)

pub goal-step : (sig : List ℕ) (a : Assignment) (place : ℕ) → place < length sig
    → goal_of (drop place sig) a ≡ number (value_of a (get_or sig place 0)) + 2 * goal_of (drop (place + 1) sig) a
goal-step sig a place inside = rw (drop_more sig place 0 inside) refl
