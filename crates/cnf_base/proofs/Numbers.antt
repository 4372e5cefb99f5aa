-- What the words of a body do to what was read before them.
use Rattle.std.proofs.Common.{◌≡◌, ◌≢◌, ℕ, ◌<◌, ◌≤◌, zero, suc, ℤ, pos, negsuc, nat_abs, nat_lt, Option, Some, None, Ok, Err, refl, sym, ap, subst, arith}
use Rattle.std.proofs.lemmas.Bool.Decides.{nat_tests}
use Rattle.std.proofs.lemmas.Option.{cond_some, none-some}
use Rattle.text_words.specs.Numbers.{if_below}
use Rattle.cnf_base.specs.declared.fault.DimacsKind.TheVariants as kinds
use Rattle.cnf_base.specs.Reading.{Progress, with_number, ended, extended}

-- a word whose number has a small size
pub some_from_if_below : (n : ℕ) (o : Option ℤ) (z : ℤ) → if_below n o ≡ Some z → o ≡ Some z
some_from_if_below n None z e = absurd (none-some z e)
some_from_if_below n (Some y) z e = ap (λ x. Some x) (cond_some (nat_lt (nat_abs y) n) y z e).1

pub with_number-large : (p : Progress) (z : ℤ) → p.vars < nat_abs z → with_number p (Some z) ≡ Err kinds.Literal
with_number-large p z h = grind (arith, nat_tests)

pub with_number-zero : (p : Progress) (z : ℤ) → z ≡ pos 0 → with_number p (Some z) ≡ ended p
with_number-zero p z e =
    let at_zero : with_number p (Some (pos 0)) ≡ ended p = grind (arith, nat_tests) in
    subst (λ (y : ℤ). with_number p (Some y) ≡ ended p) (sym e) at_zero

nat_abs-some : (z : ℤ) → z ≢ pos 0 → 0 < nat_abs z
nat_abs-some (pos zero) some = absurd (some refl)
nat_abs-some (pos (suc n)) some = omega arith
nat_abs-some (negsuc n) some = omega arith

pub with_number-literal : (p : Progress) (z : ℤ) → z ≢ pos 0 → nat_abs z ≤ p.vars → with_number p (Some z) ≡ Ok (extended p z)
with_number-literal p z some few = let above = nat_abs-some z some in grind (arith, nat_tests)
