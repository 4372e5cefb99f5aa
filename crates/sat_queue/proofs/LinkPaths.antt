-- Links that lead through a list, and how it changes with two of them.
use Rattle.std.proofs.Common.{◌≡◌, ℕ, zero, suc, ◌<◌, ◌≤◌, eqb, List, [], ◌∷◌, ◌++◌, length, get_or, set, reverse, refl, ap, sym, ◌∙◌, subst, arith}
use Rattle.std.specs.List.{list_any, IsDistinct, AllByRecursion}
use Rattle.std.proofs.lemmas.Bool.{ne_eqb, both_ways}
use Rattle.std.proofs.lemmas.List.{append-nil, reverse-append, get_or-set_same, get_or-set_other, length-set}
use Rattle.std.proofs.lemmas.Map.Keys.{IsDistinct-tail}
use Rattle.sat_queue.specs.Linked.{walk, Leads}
use Rattle.sat_queue.proofs.Distinctness.{Absent, Present, absent_head, absent_tail, present_here, present_later, absent-left, absent-right, apart_later, distinct_first, distinct-left}

abbrev pub last_of : ℕ → List ℕ → ℕ
last_of a [] = a
last_of a (x ∷ xs) = last_of x xs

abbrev pub head_of : List ℕ → ℕ → ℕ
head_of [] z = z
head_of (b ∷ bs) z = b

last-push : (a : ℕ) (xs : List ℕ) (x : ℕ) → last_of a (xs ++ x ∷ []) ≡ x
last-push a [] x = refl
last-push a (y ∷ ys) x = last-push y ys x

head-push : (xs : List ℕ) (x z : ℕ) → head_of (xs ++ x ∷ []) z ≡ head_of xs x
head-push [] x z = refl
head-push (y ∷ ys) x z = refl

pub head-reverse : (xs : List ℕ) (z : ℕ) → head_of (reverse xs) z ≡ last_of z xs
head-reverse [] z = refl
head-reverse (x ∷ xs) z = ap (λ ys. head_of ys z) (reverse-append (x ∷ []) xs) ∙ head-push (reverse xs) x z ∙ head-reverse xs x

pub last-reverse : (xs : List ℕ) (z : ℕ) → last_of z (reverse xs) ≡ head_of xs z
last-reverse [] z = refl
last-reverse (x ∷ xs) z = ap (last_of z) (reverse-append (x ∷ []) xs) ∙ last-push z (reverse xs) x

last_in : (a : ℕ) (xs : List ℕ) → Present (last_of a xs) (a ∷ xs)
last_in a [] = present_here a []
last_in a (x ∷ xs) = present_later (last_of x xs) a (x ∷ xs) (last_in x xs)

pub Leads-split : (f : List ℕ) (a : ℕ) (xs : List ℕ) (v : ℕ) (ys : List ℕ) (z : ℕ) → Leads f a (xs ++ v ∷ ys) z → Leads f a xs v × Leads f v ys z
Leads-split f a [] v ys z h = (h.0, h.1)
Leads-split f a (x ∷ xs) v ys z h = let rest = Leads-split f x xs v ys z h.1 in ((h.0, rest.0), rest.1)

pub Leads-join : (f : List ℕ) (a : ℕ) (xs : List ℕ) (v : ℕ) (ys : List ℕ) (z : ℕ) → Leads f a xs v → Leads f v ys z → Leads f a (xs ++ v ∷ ys) z
Leads-join f a [] v ys z h k = (h, k)
Leads-join f a (x ∷ xs) v ys z h k = (h.0, Leads-join f x xs v ys z h.1 k)

pub Leads-head : (f : List ℕ) (a : ℕ) (xs : List ℕ) (z : ℕ) → Leads f a xs z → get_or f a 0 ≡ head_of xs z
Leads-head f a [] z h = h
Leads-head f a (x ∷ xs) z h = h.0

pub Leads-last : (f : List ℕ) (a : ℕ) (xs : List ℕ) (z : ℕ) → Leads f a xs z → get_or f (last_of a xs) 0 ≡ z
Leads-last f a [] z h = h
Leads-last f a (x ∷ xs) z h = Leads-last f x xs z h.1

-- a link that is written elsewhere
Leads-other : (f : List ℕ) (a : ℕ) (xs : List ℕ) (z p w : ℕ) → Absent p (a ∷ xs) → Leads f a xs z → Leads (set f p w) a xs z
Leads-other f a [] z p w h k = get_or-set_other f p a w 0 (absent_head p a [] h) ∙ k
Leads-other f a (x ∷ xs) z p w h k =
    (get_or-set_other f p a w 0 (absent_head p a (x ∷ xs) h) ∙ k.0, Leads-other f x xs z p w (absent_tail p a (x ∷ xs) h) k.1)

-- the last link leads elsewhere
Leads-turned : (f : List ℕ) (a : ℕ) (xs : List ℕ) (z w : ℕ) → IsDistinct eqb (a ∷ xs) → last_of a xs < length f → Leads f a xs z → Leads (set f (last_of a xs) w) a xs w
Leads-turned f a [] z w d lt h = get_or-set_same f a w 0 lt
Leads-turned f a (x ∷ xs) z w d lt h =
    let apart : a ≡ last_of x xs → ⊥ = λ e.
    let P : ℕ → Type 0 = λ y. Present y (x ∷ xs) in
    both_ways (list_any (eqb a) (x ∷ xs)) (distinct_first a (x ∷ xs) d) (subst P (sym e) (last_in x xs)) in
    (get_or-set_other f (last_of x xs) a w 0 apart ∙ h.0, Leads-turned f x xs z w (IsDistinct-tail eqb a (x ∷ xs) d) lt h.1)

-- one is taken out: the link to it leads on to where its own led
pub Leads-without : (f : List ℕ) (a : ℕ) (xs : List ℕ) (v : ℕ) (ys : List ℕ) (z : ℕ) → IsDistinct eqb (a ∷ xs ++ v ∷ ys) → last_of a xs < length f → Leads f a (xs ++ v ∷ ys) z → Leads (set f (last_of a xs) (get_or f v 0)) a (xs ++ ys) z
Leads-without f a xs v [] z d lt h =
    let parts = Leads-split f a xs v [] z h in
    let P : List ℕ → Type 0 = λ ls. Leads (set f (last_of a xs) (get_or f v 0)) a ls z in
    let Q : ℕ → Type 0 = λ w. Leads (set f (last_of a xs) w) a xs w in
    let turned = Leads-turned f a xs v (get_or f v 0) (distinct-left (a ∷ xs) (v ∷ []) d) lt parts.0 in
    let R : ℕ → Type 0 = λ w. Leads (set f (last_of a xs) (get_or f v 0)) a xs w in
    subst P (sym (append-nil xs)) (subst R parts.1 turned)
Leads-without f a xs v (y ∷ ys) z d lt h =
    let parts = Leads-split f a xs v (y ∷ ys) z h in
    let turned = Leads-turned f a xs v (get_or f v 0) (distinct-left (a ∷ xs) (v ∷ y ∷ ys) d) lt parts.0 in
    let R : ℕ → Type 0 = λ w. Leads (set f (last_of a xs) (get_or f v 0)) a xs w in
    let later = absent_tail (last_of a xs) v (y ∷ ys) (apart_later (a ∷ xs) (v ∷ y ∷ ys) (last_of a xs) d (last_in a xs)) in
    Leads-join (set f (last_of a xs) (get_or f v 0)) a xs y ys z (subst R parts.1.0 turned) (Leads-other f y ys z (last_of a xs) (get_or f v 0) later parts.1.1)

-- one is put in: the link there leads to it, and its own to where that led
pub Leads-with : (f : List ℕ) (a : ℕ) (xs : List ℕ) (v : ℕ) (ys : List ℕ) (z q : ℕ) → IsDistinct eqb (a ∷ xs ++ ys) → Absent v (a ∷ xs ++ ys) → last_of a xs < length f → v < length f → q ≡ get_or f (last_of a xs) 0 → Leads f a (xs ++ ys) z → Leads (set (set f (last_of a xs) v) v q) a (xs ++ v ∷ ys) z
Leads-with f a xs v [] z q d absent lt room is h =
    let P : List ℕ → Type 0 = λ ls. Leads f a ls z in
    let whole = subst P (append-nil xs) h in
    let turned = Leads-turned f a xs z v (distinct-left (a ∷ xs) [] d) lt whole in
    let kept = Leads-other (set f (last_of a xs) v) a xs v v q (absent-left v (a ∷ xs) [] absent) turned in
    let wide : v < length (set f (last_of a xs) v) = omega (arith, length-set f (last_of a xs) v) in
    Leads-join (set (set f (last_of a xs) v) v q) a xs v [] z kept (get_or-set_same (set f (last_of a xs) v) v q 0 wide ∙ is ∙ Leads-last f a xs z whole)
Leads-with f a xs v (y ∷ ys) z q d absent lt room is h =
    let parts = Leads-split f a xs y ys z h in
    let turned = Leads-turned f a xs y v (distinct-left (a ∷ xs) (y ∷ ys) d) lt parts.0 in
    let kept = Leads-other (set f (last_of a xs) v) a xs v v q (absent-left v (a ∷ xs) (y ∷ ys) absent) turned in
    let wide : v < length (set f (last_of a xs) v) = omega (arith, length-set f (last_of a xs) v) in
    let later = apart_later (a ∷ xs) (y ∷ ys) (last_of a xs) d (last_in a xs) in
    let rest = Leads-other (set f (last_of a xs) v) y ys z v q (absent-right v (a ∷ xs) (y ∷ ys) absent) (Leads-other f y ys z (last_of a xs) v later parts.1) in
    Leads-join (set (set f (last_of a xs) v) v q) a xs v (y ∷ ys) z kept
    (get_or-set_same (set f (last_of a xs) v) v q 0 wide ∙ is ∙ Leads-last f a xs y parts.0, rest)

-- a walk meets what the links lead through
pub walk-leads : (f : List ℕ) (a : ℕ) (xs : List ℕ) (n : ℕ) → Leads f a xs 0 → AllByRecursion (λ x. 0 < x) xs → length xs ≤ n → walk f n (get_or f a 0) ≡ xs
walk-leads f a [] n h k le = ap (walk f n) h ∙ none n
  where
    none : (m : ℕ) → walk f m 0 ≡ []
    none zero = refl
    none (suc m) = refl
walk-leads f a (x ∷ xs) zero h k le = absurd (omega arith)
walk-leads f a (x ∷ xs) (suc n) h k le =
    let positive = k.0 in
    let few : length xs ≤ n = omega arith in
    ap (walk f (suc n)) h.0
    ∙ rw (ne_eqb x 0 (λ e. omega arith)) (ap (λ r. x ∷ r) (walk-leads f x xs n h.1 k.1 few))
