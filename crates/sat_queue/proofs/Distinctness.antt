-- Lists in which nothing stands twice.
use Rattle.std.proofs.Common.{◌≡◌, ℕ, true, false, not, eqb, List, [], ◌∷◌, ◌++◌, filter, reverse, refl, ap, sym, ◌∙◌, subst, inl, inr}
use Rattle.std.specs.List.{list_any, IsDistinct, slice_get}
use Rattle.std.proofs.lemmas.Bool.{cases_eq, or_parts, or_from, or_left, or_right, eqb-false, eq-eqb, ne_eqb, false_from_ne_true, both_ways}
use Rattle.std.proofs.lemmas.List.{append_assoc, reverse-append}
use Rattle.std.proofs.lemmas.Map.Keys.{IsDistinct-head, IsDistinct-tail, IsDistinct-cons}
use Rattle.sat_trail.proofs.LiteralValues.{none_from, each_from, distinct_apart}
use Rattle.sat_queue.specs.Order.{with_front, from_on, follower}

abbrev pub Absent : ℕ → List ℕ → Type 0
Absent x xs = list_any (eqb x) xs ≡ false

abbrev pub Present : ℕ → List ℕ → Type 0
Present x xs = list_any (eqb x) xs ≡ true

pub absent_head : (x y : ℕ) (ys : List ℕ) → Absent x (y ∷ ys) → y ≡ x → ⊥
absent_head x y ys h e = eqb-false x y (or_parts (eqb x y) (list_any (eqb x) ys) h).0 (sym e)

pub absent_tail : (x y : ℕ) (ys : List ℕ) → Absent x (y ∷ ys) → Absent x ys
absent_tail x y ys h = (or_parts (eqb x y) (list_any (eqb x) ys) h).1

pub absent_cons : (x y : ℕ) (ys : List ℕ) → (x ≡ y → ⊥) → Absent x ys → Absent x (y ∷ ys)
absent_cons x y ys ne h = or_from (eqb x y) (list_any (eqb x) ys) (ne_eqb x y ne) h

pub present_here : (x : ℕ) (xs : List ℕ) → Present x (x ∷ xs)
present_here x xs = or_left (eqb x x) (list_any (eqb x) xs) (eq-eqb x x refl)

pub present_later : (x y : ℕ) (ys : List ℕ) → Present x ys → Present x (y ∷ ys)
present_later x y ys h = or_right (eqb x y) (list_any (eqb x) ys) h

pub absent-append : (x : ℕ) (xs ys : List ℕ) → Absent x xs → Absent x ys → Absent x (xs ++ ys)
absent-append x [] ys h k = k
absent-append x (z ∷ zs) ys h k =
    or_from (eqb x z) (list_any (eqb x) (zs ++ ys)) (or_parts (eqb x z) (list_any (eqb x) zs) h).0 (absent-append x zs ys (absent_tail x z zs h) k)

pub absent-left : (x : ℕ) (xs ys : List ℕ) → Absent x (xs ++ ys) → Absent x xs
absent-left x [] ys h = refl
absent-left x (z ∷ zs) ys h =
    let parts = or_parts (eqb x z) (list_any (eqb x) (zs ++ ys)) h in
    or_from (eqb x z) (list_any (eqb x) zs) parts.0 (absent-left x zs ys parts.1)

pub absent-right : (x : ℕ) (xs ys : List ℕ) → Absent x (xs ++ ys) → Absent x ys
absent-right x [] ys h = h
absent-right x (z ∷ zs) ys h = absent-right x zs ys (absent_tail x z (zs ++ ys) h)

-- what stands in the first part stands in no later one
pub apart_later : (xs ys : List ℕ) (v : ℕ) → IsDistinct eqb (xs ++ ys) → Present v xs → Absent v ys
apart_later xs ys v h k = false_from_ne_true (list_any (eqb v) ys) (λ e. both_ways (list_any (eqb v) xs) (distinct_apart xs ys v h e) k)

pub distinct_first : (x : ℕ) (xs : List ℕ) → IsDistinct eqb (x ∷ xs) → Absent x xs
distinct_first x xs h = none_from x xs (IsDistinct-head eqb x xs h)

pub distinct_more : (x : ℕ) (xs : List ℕ) → Absent x xs → IsDistinct eqb xs → IsDistinct eqb (x ∷ xs)
distinct_more x xs h k = IsDistinct-cons eqb x xs (each_from x xs h) k

pub distinct-left : (xs ys : List ℕ) → IsDistinct eqb (xs ++ ys) → IsDistinct eqb xs
unfolding IsDistinct
distinct-left [] ys h = tt
distinct-left (x ∷ xs) ys h =
    distinct_more x xs (absent-left x xs ys (distinct_first x (xs ++ ys) h)) (distinct-left xs ys (IsDistinct-tail eqb x (xs ++ ys) h))

-- a variable that is taken out
pub distinct_without : (xs ys : List ℕ) (v : ℕ) → IsDistinct eqb (xs ++ v ∷ ys) → IsDistinct eqb (xs ++ ys) × Absent v (xs ++ ys)
distinct_without [] ys v h = (IsDistinct-tail eqb v ys h, distinct_first v ys h)
distinct_without (x ∷ xs) ys v h =
    let first = distinct_first x (xs ++ v ∷ ys) h in
    let rest = distinct_without xs ys v (IsDistinct-tail eqb x (xs ++ v ∷ ys) h) in
    let right = absent-right x xs (v ∷ ys) first in
    let there : Absent x (xs ++ ys) = absent-append x xs ys (absent-left x xs (v ∷ ys) first) (absent_tail x v ys right) in
    (distinct_more x (xs ++ ys) there rest.0, absent_cons v x (xs ++ ys) (absent_head x v ys right) rest.1)

pub absent_before : (xs ys : List ℕ) (v : ℕ) → IsDistinct eqb (xs ++ v ∷ ys) → Absent v xs
absent_before xs ys v h = absent-left v xs ys (distinct_without xs ys v h).1

-- where a variable stands
pub record Stands (v : ℕ) (xs : List ℕ) : Type 0 where
  pub before : List ℕ
  pub after : List ℕ
  pub parts : xs ≡ before ++ v ∷ after
  pub first : Absent v before

pub stands : (v : ℕ) (xs : List ℕ) → Present v xs → Stands v xs
stands v [] h = cc
stands v (x ∷ xs) h =
    elim (cases_eq v x) [
      | inl e ↦ record { before = []; after = xs; parts = ap (λ y. y ∷ xs) (sym e); first = refl }
      | inr e ↦ (let later : Present v xs = rw (ne_eqb v x e) at h in
          let rest = stands v xs later in
          record { before = x ∷ rest.before; after = rest.after; parts = ap (λ r. x ∷ r) rest.parts; first = absent_cons v x rest.before e rest.first })
    ]

filter_absent : (v : ℕ) (xs : List ℕ) → Absent v xs → filter (λ x. not (eqb x v)) xs ≡ xs
filter_absent v [] h = refl
filter_absent v (x ∷ xs) h = rw (ne_eqb x v (absent_head v x xs h)) (ap (λ r. x ∷ r) (filter_absent v xs (absent_tail v x xs h)))

pub with_front-parts : (v : ℕ) (xs ys : List ℕ) → Absent v xs → Absent v ys → with_front v (xs ++ v ∷ ys) ≡ v ∷ (xs ++ ys)
with_front-parts v xs ys h k = ap (λ r. v ∷ r) (gone xs h)
  where
    gone : (zs : List ℕ) → Absent v zs → filter (λ x. not (eqb x v)) (zs ++ v ∷ ys) ≡ zs ++ ys
    gone [] a = rw (eq-eqb v v refl) (filter_absent v ys k)
    gone (z ∷ zs) a = rw (ne_eqb z v (absent_head v z zs a)) (ap (λ r. z ∷ r) (gone zs (absent_tail v z zs a)))

pub follower-parts : (v : ℕ) (xs ys : List ℕ) → Absent v xs → follower v (xs ++ v ∷ ys) ≡ slice_get ys 0
follower-parts v [] ys h = rw (eq-eqb v v refl) refl
follower-parts v (x ∷ xs) ys h = rw (ne_eqb x v (absent_head v x xs h)) (follower-parts v xs ys (absent_tail v x xs h))

pub from_on-parts : (v : ℕ) (xs ys : List ℕ) → Absent v xs → from_on v (xs ++ v ∷ ys) ≡ v ∷ ys
from_on-parts v [] ys h = rw (eq-eqb v v refl) refl
from_on-parts v (x ∷ xs) ys h = rw (ne_eqb x v (absent_head v x xs h)) (from_on-parts v xs ys (absent_tail v x xs h))

pub from_on-absent : (v : ℕ) (xs : List ℕ) → Absent v xs → from_on v xs ≡ []
from_on-absent v [] h = refl
from_on-absent v (x ∷ xs) h = rw (ne_eqb x v (absent_head v x xs h)) (from_on-absent v xs (absent_tail v x xs h))

-- the other way round
pub reverse-parts : (v : ℕ) (xs ys : List ℕ) → reverse (xs ++ v ∷ ys) ≡ reverse ys ++ v ∷ reverse xs
reverse-parts v xs ys =
    reverse-append xs (v ∷ ys)
    ∙ ap (λ r. r ++ reverse xs) (reverse-append (v ∷ []) ys)
    ∙ append_assoc (reverse ys) (v ∷ []) (reverse xs)

pub absent-reverse : (v : ℕ) (xs : List ℕ) → Absent v xs → Absent v (reverse xs)
absent-reverse v [] h = refl
absent-reverse v (x ∷ xs) h =
    let P : List ℕ → Type 0 = λ ys. Absent v ys in
    subst P (sym (reverse-append (x ∷ []) xs))
    (absent-append v (reverse xs) (x ∷ []) (absent-reverse v xs (absent_tail v x xs h)) (absent_cons v x [] (λ e. absent_head v x xs h (sym e)) refl))

pub distinct-push : (xs : List ℕ) (v : ℕ) → IsDistinct eqb xs → Absent v xs → IsDistinct eqb (xs ++ v ∷ [])
distinct-push [] v h k = distinct_more v [] refl h
distinct-push (x ∷ xs) v h k =
    let first = distinct_first x xs h in
    distinct_more x (xs ++ v ∷ []) (absent-append x xs (v ∷ []) first (absent_cons x v [] (absent_head v x xs k) refl)) (distinct-push xs v (IsDistinct-tail eqb x xs h) (absent_tail v x xs k))

pub distinct-reverse : (xs : List ℕ) → IsDistinct eqb xs → IsDistinct eqb (reverse xs)
distinct-reverse [] h = h
distinct-reverse (x ∷ xs) h =
    let P : List ℕ → Type 0 = λ ys. IsDistinct eqb ys in
    subst P (sym (reverse-append (x ∷ []) xs)) (distinct-push (reverse xs) x (distinct-reverse xs (IsDistinct-tail eqb x xs h)) (absent-reverse x xs (distinct_first x xs h)))
