-- An assignment shows one goal and no other.
use Rattle.std.proofs.Common.{◌≡◌, ℕ, zero, suc, ◌*◌, ◌/◌, ◌%◌, ◌^◌, ◌<◌, Bool, true, false, List, [], ◌∷◌, length, get_or, sym, ap, ◌∙◌, arith}
use Rattle.std.proofs.Math.Nat.{pow-succ'}
use Rattle.std.proofs.lemmas.Nat.Bits.{bit_at_lowest, bit_at-suc}
use Rattle.std.specs.Int.{bit_at}
use Rattle.aig_model.specs.Literal.{value_of, number}
use Rattle.aig_model.specs.Meaning.{Assignment, GoalOf, goal_of}
use Rattle.aig_model.specs.Laws.{OneGoal}

number-lt : (bit : Bool) → number bit < 2
number-lt true = omega arith
number-lt false = omega arith

pub goal_of-lt : (sig : List ℕ) (a : Assignment) → goal_of sig a < 2 ^ length sig
goal_of-lt [] a = omega arith
goal_of-lt (lit ∷ sig) a = rw (pow-succ' 2 (length sig)) (omega (arith, number-lt (value_of a lit), goal_of-lt sig a))

goal_of-digits : (sig : List ℕ) (a : Assignment) (k : ℕ) → k < length sig → bit_at (goal_of sig a) k ≡ number (value_of a (get_or sig k 0))
goal_of-digits [] a k h = absurd (omega (arith, h))
goal_of-digits (lit ∷ sig) a zero h = bit_at_lowest (goal_of (lit ∷ sig) a) ∙ omega (arith, number-lt (value_of a lit))
goal_of-digits (lit ∷ sig) a (suc k) h =
    let half : goal_of (lit ∷ sig) a / 2 ≡ goal_of sig a = omega (arith, number-lt (value_of a lit)) in
    bit_at-suc (goal_of (lit ∷ sig) a) k ∙ (ap (λ n. bit_at n k) half ∙ goal_of-digits sig a k (omega (arith, h)))

-- of a goal of more signals, what is left without the first
rest_of : (lit : ℕ) (sig : List ℕ) (a : Assignment) (goal : ℕ) → GoalOf (lit ∷ sig) a goal → GoalOf sig a (goal / 2)
rest_of lit sig a goal shown = record {
  below = (let below : goal < 2 * 2 ^ length sig = rw (← pow-succ' 2 (length sig)) shown.below in omega arith);
  digits = λ k h. sym (bit_at-suc goal k) ∙ shown.digits (suc k) (omega (arith, h));
}

is_goal_of : (sig : List ℕ) (a : Assignment) (goal : ℕ) → GoalOf sig a goal → goal ≡ goal_of sig a
is_goal_of [] a goal shown = omega (arith, shown.below)
is_goal_of (lit ∷ sig) a goal shown =
    let first : goal % 2 ≡ number (value_of a lit) = sym (bit_at_lowest goal) ∙ shown.digits 0 (omega arith) in
    let rest : goal / 2 ≡ goal_of sig a = is_goal_of sig a (goal / 2) (rest_of lit sig a goal shown) in
    omega (arith, first, rest)

pub one_goal_lem : OneGoal
one_goal_lem sig a goal =
    (is_goal_of sig a goal, λ e. rw e (record { below = goal_of-lt sig a; digits = goal_of-digits sig a }))
