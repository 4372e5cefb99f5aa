-- Goals, and the lanes that show them.
use Rattle.std.proofs.Common.{◌≡◌, ◌↔◌, ℕ, ◌+◌, ◌*◌, ◌<◌, Bool, true, false, not, cond, ◌&&◌, IsTrue, List, drop, length, get_or, refl, arith}
use Rattle.std.proofs.lemmas.List.{at_drop_more}
use Rattle.aig_model.specs.Literal.{number, value_of}
use Rattle.aig_model.specs.Meaning.{Assignment, goal_of}
use Rattle.sim_lanes.proofs.Deciding.{both_true}

-- the goal of the signals from number k on
pub goal_from : (lits : List ℕ) (a : Assignment) (k : ℕ) → k < length lits → goal_of (drop k lits) a ≡ number (value_of a (get_or lits k 0)) + 2 * goal_of (drop (k + 1) lits) a
goal_from lits a k inside = at_drop_more (λ (ls : List ℕ). goal_of ls a) lits k 0 inside

same_digits : (b e : Bool) (g h : ℕ) → (number b + 2 * g ≡ number e + 2 * h) ↔ ((b ≡ e) × (g ≡ h))
same_digits true true g h = (λ q. (refl, (let same : g ≡ h = omega (arith, q) in same)), λ p. (let same : 1 + 2 * g ≡ 1 + 2 * h = omega (arith, p.1) in same))
same_digits true false g h = (λ q. absurd (omega (arith, q)), λ p. absurd cc)
same_digits false true g h = (λ q. absurd (omega (arith, q)), λ p. absurd cc)
same_digits false false g h = (λ q. (refl, (let same : g ≡ h = omega (arith, q) in same)), λ p. (let same : 0 + 2 * g ≡ 0 + 2 * h = omega (arith, p.1) in same))

agreeing : (b e : Bool) → IsTrue (cond (not e) (not b) b) ↔ (b ≡ e)
agreeing true true = (λ t. refl, λ t. refl)
agreeing true false = (λ t. absurd cc, λ t. absurd cc)
agreeing false true = (λ t. absurd cc, λ t. absurd cc)
agreeing false false = (λ t. refl, λ t. refl)

-- one signal more tells the lanes apart
pub told_apart : (old among b e : Bool) (g goal : ℕ) → IsTrue old ↔ (IsTrue among × (g ≡ goal))
    → IsTrue (old && cond (not e) (not b) b) ↔ (IsTrue among × (number b + 2 * g ≡ number e + 2 * goal))
told_apart old among b e g goal before = (
  λ t. (
      let both = (both_true old (cond (not e) (not b) b)).0 t in
      let held = before.0 both.0 in
      (held.0, (same_digits b e g goal).1 ((agreeing b e).0 both.1, held.1))
      ),
  λ h. (
      let same = (same_digits b e g goal).0 h.1 in
      (both_true old (cond (not e) (not b) b)).1 (before.1 (h.0, same.1), (agreeing b e).1 same.0)
      ),
)
