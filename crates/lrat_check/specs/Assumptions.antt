-- How the assumed literals are kept: each variable has the sign in which it's assumed, if it is.
use Rattle.std.specs.Prelude.{◌≡◌, ℕ, suc, Bool, true, false, cond, not, ltb, ℤ, pos, negsuc, neg_ℤ, List, length, Option, Some, None, get_or}
use Rattle.std.specs.Ordering.{nat_cmp}
use Rattle.std.specs.BTreeMap.{get}
use Rattle.cnf_base.specs.Status.{has}
use Rattle.lrat_check.specs.declared.assumed.Truth.{Truth}
use Rattle.lrat_check.specs.declared.assumed.Truth.TheVariants.{True, False, Open}
use Rattle.lrat_check.specs.declared.signs.Signs.{Signs}

-- a literal under those that are assumed
abbrev pub truth_in : List ℤ → ℤ → Truth
truth_in assumed l = cond (has assumed l) True (cond (has assumed (neg_ℤ l)) False Open)

-- a literal or its negation
abbrev pub flipped : Bool → ℤ → ℤ
flipped negated l = cond negated (neg_ℤ l) l

abbrev pub is_positive : ℤ → Bool
is_positive (pos n) = true
is_positive (negsuc n) = false

-- the sign in which a variable is assumed
abbrev pub sign_at : Signs → ℕ → Option Bool
sign_at signs var = cond (ltb var (length signs.low.items)) (get_or signs.low.items var None) (get nat_cmp signs.high var)

abbrev pub is_sign : Bool → Option Bool → Bool
is_sign sign None = false
is_sign true (Some found) = found
is_sign false (Some found) = not found

-- whether the signs have a literal
abbrev pub signed : (ℕ → Option Bool) → ℤ → Bool
signed sign (pos n) = is_sign true (sign n)
signed sign (negsuc n) = is_sign false (sign (suc n))

-- the signs are those of the assumed literals
abbrev pub AreSignsOf : List ℤ → (ℕ → Option Bool) → Type 0
AreSignsOf assumed sign = (l : ℤ) → signed sign l ≡ has assumed l
