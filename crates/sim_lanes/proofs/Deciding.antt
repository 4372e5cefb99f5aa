-- Truth values: both, not, and one of two.
use Rattle.std.proofs.Common.{◌≡◌, ◌⊎◌, ◌↔◌, Bool, true, false, ◌&&◌, ◌||◌, not, IsTrue, inl, inr, refl}

pub true_or_not : (b : Bool) → IsTrue b ⊎ (¬ IsTrue b)
true_or_not true = inl refl
true_or_not false = inr (λ e. cc)

pub not_true : (b : Bool) → (¬ IsTrue b) → b ≡ false
not_true true off = absurd (off refl)
not_true false off = refl

pub false_not : (b : Bool) → b ≡ false → ¬ IsTrue b
false_not b e t = cc

pub both_true : (a b : Bool) → IsTrue (a && b) ↔ (IsTrue a × IsTrue b)
both_true true true = (λ e. (refl, refl), λ h. refl)
both_true true false = (λ e. absurd cc, λ h. absurd cc)
both_true false b = (λ e. absurd cc, λ h. absurd cc)

pub true_not : (b : Bool) → IsTrue (not b) ↔ (¬ IsTrue b)
true_not true = (λ e. absurd cc, λ h. absurd (h refl))
true_not false = (λ e f. cc, λ h. refl)

pub either_true : (a b : Bool) → IsTrue (a || b) ↔ (IsTrue a ⊎ IsTrue b)
either_true true b = (λ e. inl refl, λ h. refl)
either_true false true = (λ e. inr refl, λ h. refl)
either_true false false = (λ e. absurd cc, λ h. elim h [ inl e ↦ absurd cc | inr e ↦ absurd cc ])
