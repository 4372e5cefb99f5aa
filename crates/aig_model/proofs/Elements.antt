-- Elements and parts of lists.
use Rattle.std.proofs.Common.{◌≡◌, ℕ, suc, ◌+◌, ◌<◌, ◌⊎◌, inl, inr, List, [], ◌∷◌, ◌++◌, map, length, get_or, take, drop, sym, ap, ◌∙◌, subst, arith, All, AllPairs, Contains, ◌≢◌, length-drop}
use Rattle.std.proofs.lemmas.Bool.{cases_eq}
use Rattle.std.proofs.lemmas.List.{get_or-drop, take_more, take-append-drop, map-append, drop_more}
use Rattle.std.proofs.lemmas.List.Concat.{flat_map-append}
use Rattle.std.specs.List.{flat_map}
use Rattle.std.proofs.lemmas.List.Elements.{All-weaker, All-contains, All-contains_itself, Contains-append_left, Contains-append_right}
use Rattle.std.proofs.lemmas.Map.Made.{Contains-tail}

pub Contains-nil : (x : ℕ) → ¬ Contains [] x
Contains-nil x h = omega (arith, h.1)

pub Contains-head : (x y : ℕ) (xs : List ℕ) → x ≡ y → Contains (x ∷ xs) y
Contains-head x y xs e = (0, omega arith, e)

pub Contains-later : (x y : ℕ) (xs : List ℕ) → Contains xs y → Contains (x ∷ xs) y
Contains-later x y xs h = (suc h.0, omega (arith, h.1), h.2)

pub Contains-cons_cases : (x y : ℕ) (xs : List ℕ) → Contains (x ∷ xs) y → (x ≡ y) ⊎ Contains xs y
Contains-cons_cases x y xs h = elim (cases_eq x y) [ inl e ↦ inl e | inr ne ↦ inr (Contains-tail x xs y ne h) ]

pub Contains-or_not : (xs : List ℕ) (y : ℕ) → Contains xs y ⊎ (¬ Contains xs y)
Contains-or_not [] y = inr (Contains-nil y)
Contains-or_not (x ∷ xs) y =
    elim (cases_eq x y) [
      | inl e ↦ inl (Contains-head x y xs e)
      | inr ne ↦ elim (Contains-or_not xs y) [
        | inl h ↦ inl (Contains-later x y xs h)
        | inr none ↦ inr (λ h. none (Contains-tail x xs y ne h))
      ]
    ]

All-by_contains : {X : Type 0} (P : X → Type 0) (xs : List X) → ((x : X) → Contains xs x → P x) → All P xs
All-by_contains P xs h = All-weaker (Contains xs) P h xs (All-contains_itself xs)

pub All-left : {X : Type 0} (P : X → Type 0) (xs ys : List X) → All P (xs ++ ys) → All P xs
All-left P xs ys all = All-by_contains P xs (λ x h. All-contains P (xs ++ ys) x all (Contains-append_left xs ys x h))

pub All-right : {X : Type 0} (P : X → Type 0) (xs ys : List X) → All P (xs ++ ys) → All P ys
All-right P xs ys all = All-by_contains P ys (λ x h. All-contains P (xs ++ ys) x all (Contains-append_right xs ys x h))

-- ---- a list at the item that a loop has reached
pub items_split : {X : Type 0} (items : List X) (i : ℕ) (x : X) → i < length items → x ≡ get_or items i x → items ≡ take i items ++ (x ∷ drop (i + 1) items)
items_split items i x h e = sym (take-append-drop i items) ∙ ap (λ r. take i items ++ r) (drop_more items i x h ∙ ap (λ y. y ∷ drop (i + 1) items) (sym e))

pub items_next : {X : Type 0} (items : List X) (i : ℕ) (x : X) → i < length items → x ≡ get_or items i x → take (i + 1) items ≡ take i items ++ x ∷ []
items_next items i x h e = take_more items i x h ∙ ap (λ y. take i items ++ y ∷ []) (sym e)

pub All-items : (P : ℕ → Type 0) (items : List ℕ) (i x : ℕ) → i < length items → x ≡ get_or items i x → All P items → All P (x ∷ [])
All-items P items i x h e all =
    All-left P (x ∷ []) (drop (i + 1) items) (All-right P (take i items) (x ∷ drop (i + 1) items) (rw (items_split items i x h e) at all))

pub All-map_item : {X : Type 0} (f : X → ℕ) (P : ℕ → Type 0) (items : List X) (i : ℕ) (x : X) → i < length items → x ≡ get_or items i x
    → All P (map f items) → All P (f x ∷ [])
All-map_item f P items i x h e all =
    let split = ap (map f) (items_split items i x h e) ∙ map-append f (take i items) (x ∷ drop (i + 1) items) in
    All-left P (f x ∷ []) (map f (drop (i + 1) items)) (All-right P (map f (take i items)) (f x ∷ map f (drop (i + 1) items)) (subst (All P) split all))

pub All-flat_map_item : {X : Type 0} (f : X → List ℕ) (P : ℕ → Type 0) (items : List X) (i : ℕ) (x : X) → i < length items → x ≡ get_or items i x
    → All P (flat_map f items) → All P (f x)
All-flat_map_item f P items i x h e all =
    let split = ap (flat_map f) (items_split items i x h e) ∙ flat_map-append f (take i items) (x ∷ drop (i + 1) items) in
    All-left P (f x) (flat_map f (drop (i + 1) items)) (All-right P (flat_map f (take i items)) (f x ++ flat_map f (drop (i + 1) items)) (subst (All P) split all))

-- in a list without repetitions no later place holds the same
pub no_later : (xs : List ℕ) (i x : ℕ) → i < length xs → x ≡ get_or xs i x → AllPairs (λ v w. v ≢ w) xs → ¬ Contains (drop (i + 1) xs) x
no_later xs i x h e once found =
    let inside : found.0 < length (drop (i + 1) xs) = found.1 in
    once i (i + 1 + found.0) x (omega arith) (omega (arith, length-drop (i + 1) xs)) (sym e ∙ (sym found.2 ∙ get_or-drop (i + 1) xs found.0 x))
