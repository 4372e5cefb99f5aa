-- Lists by literals, kept by their slots.
use Rattle.std.proofs.Common.{◌≡◌, ◌≢◌, ℕ, zero, suc, ◌<◌, eqb, cond, ℤ, pos, negsuc, Option, None, Some, List, [], ◌∷◌, ◌++◌, length, set, refl, ap, sym, subst, arith, inl, inr, ◌⊎◌}
use Rattle.std.specs.List.{slice_get}
use Rattle.std.proofs.lemmas.Bool.{cases_eq, eq-eqb, ne_eqb}
use Rattle.std.proofs.lemmas.List.{get_or-set_same, get_or-set_other}
use Rattle.sat_watch.specs.Links.{head_of}
use Rattle.cnf_base.specs.Literal.{lit_index}

pub slot_same : (a b : ℤ) → lit_index a ≡ lit_index b → a ≡ b
slot_same (pos m) (pos n) e = ap pos (omega arith)
slot_same (pos m) (negsuc n) e = absurd (omega arith)
slot_same (negsuc m) (pos n) e = absurd (omega arith)
slot_same (negsuc m) (negsuc n) e = ap negsuc (omega arith)

cases_lit : (a b : ℤ) → (a ≡ b) ⊎ (a ≡ b → ⊥)
cases_lit a b =
    elim (cases_eq (lit_index a) (lit_index b)) [
      | inl e ↦ inl (slot_same a b e)
      | inr ne ↦ inr (λ e. ne (ap lit_index e))
    ]

pub head-set_same : (heads : List (Option ℕ)) (lit : ℤ) (link : Option ℕ) → lit_index lit < length heads → head_of (set heads (lit_index lit) link) lit ≡ link
head-set_same heads lit link lt = get_or-set_same heads (lit_index lit) link None lt

pub head-set_other : (heads : List (Option ℕ)) (lit l : ℤ) (link : Option ℕ) → l ≢ lit → head_of (set heads (lit_index lit) link) l ≡ head_of heads l
head-set_other heads lit l link ne = get_or-set_other heads (lit_index lit) (lit_index l) link None (λ e. ne (slot_same l lit e))

-- the same lists, but for one literal's
abbrev pub with_list : ℤ → List ℕ → (ℤ → List ℕ) → ℤ → List ℕ
with_list lit ys list l = cond (eqb (lit_index l) (lit_index lit)) ys (list l)

pub with_list-same : (lit : ℤ) (ys : List ℕ) (list : ℤ → List ℕ) → with_list lit ys list lit ≡ ys
with_list-same lit ys list = rw (eq-eqb (lit_index lit) (lit_index lit) refl) refl

pub with_list-other : (lit : ℤ) (ys : List ℕ) (list : ℤ → List ℕ) (l : ℤ) → l ≢ lit → with_list lit ys list l ≡ list l
with_list-other lit ys list l ne = rw (ne_eqb (lit_index l) (lit_index lit) (λ e. ne (slot_same l lit e))) refl

-- what holds of that list and of the others holds of all
pub each_with : (P : ℤ → List ℕ → Type 0) (lit : ℤ) (ys : List ℕ) (list : ℤ → List ℕ) → P lit ys → ((l : ℤ) → l ≢ lit → P l (list l)) → (l : ℤ) → P l (with_list lit ys list l)
each_with P lit ys list here others l =
    elim (cases_lit l lit) [
      | inl e ↦ (let Q : ℤ → Type 0 = λ z. P z (with_list lit ys list z) in subst Q (sym e) (subst (P lit) (sym (with_list-same lit ys list)) here))
      | inr ne ↦ subst (P l) (sym (with_list-other lit ys list l ne)) (others l ne)
    ]

-- ---- elements that are written

pub slice_get-set_same : {X : Type 0} (xs : List X) (i : ℕ) (y : X) → i < length xs → slice_get (set xs i y) i ≡ Some y
slice_get-set_same [] i y lt = absurd (omega arith)
slice_get-set_same (x ∷ xs) zero y lt = refl
slice_get-set_same (x ∷ xs) (suc i) y lt = slice_get-set_same xs i y (omega arith)

pub slice_get-set_other : {X : Type 0} (xs : List X) (i : ℕ) (y : X) (j : ℕ) → j ≢ i → slice_get (set xs i y) j ≡ slice_get xs j
slice_get-set_other [] i y j ne = refl
slice_get-set_other (x ∷ xs) zero y zero ne = absurd (ne refl)
slice_get-set_other (x ∷ xs) zero y (suc j) ne = refl
slice_get-set_other (x ∷ xs) (suc i) y zero ne = refl
slice_get-set_other (x ∷ xs) (suc i) y (suc j) ne = slice_get-set_other xs i y j (λ e. ne (ap suc e))

pub slice_get-left : {X : Type 0} (xs ys : List X) (j : ℕ) → j < length xs → slice_get (xs ++ ys) j ≡ slice_get xs j
slice_get-left [] ys j lt = absurd (omega arith)
slice_get-left (x ∷ xs) ys zero lt = refl
slice_get-left (x ∷ xs) ys (suc j) lt = slice_get-left xs ys j (omega arith)

pub slice_get-end : {X : Type 0} (xs : List X) (y : X) → slice_get (xs ++ y ∷ []) (length xs) ≡ Some y
slice_get-end [] y = refl
slice_get-end (x ∷ xs) y = slice_get-end xs y
