-- A variable that a trail doesn't assign.
use Rattle.std.proofs.Common.{◌≡◌, ℕ, true, false, eqb, ℤ, nat_abs, List, [], ◌∷◌, map, refl, sym, subst, inl, inr}
use Rattle.std.specs.List.{list_any}
use Rattle.std.proofs.lemmas.Bool.{cases_eq, or_from, eq-eqb, ne_eqb}
use Rattle.sat_trail.specs.declared.truth.Value.TheVariants.{Unset}
use Rattle.sat_trail.specs.Trail.{Assignment, lits, value_in}
use Rattle.sat_trail.proofs.LiteralValues.{untouched_unset}
use Rattle.sat_queue.specs.Order.{is_unassigned}

untouched : (ps : List Assignment) (v : ℕ) → is_unassigned ps v ≡ true → list_any (eqb v) (map nat_abs (lits ps)) ≡ false
untouched [] v h = refl
untouched (p ∷ ps) v h =
    elim (cases_eq (nat_abs p.lit) v) [
      | inl e ↦ (let k : false ≡ true = rw (eq-eqb (nat_abs p.lit) v e) at h in cc)
      | inr e ↦ (let later : is_unassigned ps v ≡ true = rw (ne_eqb (nat_abs p.lit) v e) at h in
          or_from (eqb v (nat_abs p.lit)) (list_any (eqb v) (map nat_abs (lits ps))) (ne_eqb v (nat_abs p.lit) (λ f. e (sym f))) (untouched ps v later))
    ]

pub unassigned_unset : (ps : List Assignment) (v : ℕ) (l : ℤ) → is_unassigned ps v ≡ true → nat_abs l ≡ v → value_in (lits ps) l ≡ Unset
unassigned_unset ps v l h is =
    let P : ℕ → Type 0 = λ n. list_any (eqb n) (map nat_abs (lits ps)) ≡ false in
    untouched_unset (lits ps) l (subst P (sym is) (untouched ps v h))
