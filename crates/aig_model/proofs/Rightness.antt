-- Lists in which each literal is judged after those before it: their parts, and the first literal that is wrong.
use Rattle.std.proofs.Common.{◌≡◌, ℕ, zero, suc, ◌+◌, ◌-◌, ◌<◌, inl, inr, List, [], ◌∷◌, ◌++◌, map, length, get_or, take, drop, refl, sym, ap, ◌∙◌, arith, length-append}
use Rattle.std.proofs.lemmas.List.{get_or_append_left, get_or-append-add, take-append-le, append-nil, map-append}
use Rattle.std.proofs.Math.Seq.{take-append-add}
use Rattle.std.proofs.lemmas.List.Concat.{flat_map-append}
use Rattle.std.proofs.lemmas.Bool.{cases_lt, cases_order}
use Rattle.std.specs.List.{flat_map}
use Rattle.ketch_base.specs.First.{IsFirst}
use Rattle.aig_model.proofs.Elements.{items_split, items_next}
use Rattle.aig_model.specs.Faults.{AllRight, IsFirstWrong}

-- ---- first places
pub first_is_one : (P : ℕ → Type 0) (j k : ℕ) → IsFirst P j → IsFirst P k → j ≡ k
first_is_one P j k a b =
    elim (cases_order j k) [
      | inl same ↦ same
      | inr apart ↦ elim apart [ inl below ↦ absurd (b.before j below a.here) | inr above ↦ absurd (a.before k above b.here) ]
    ]

abbrev pub Judgement : Type 1
Judgement = List ℕ → ℕ → Type 0

abbrev WrongAt : Judgement → List ℕ → ℕ → Type 0
WrongAt IsRight lits k = (k < length lits) × (¬ IsRight (take k lits) (get_or lits k 0))

pub first_wrong_is_one : (IsRight : Judgement) (lits : List ℕ) (x y : ℕ) → IsFirstWrong IsRight lits x → IsFirstWrong IsRight lits y → x ≡ y
first_wrong_is_one IsRight lits x y a b =
    let same : a.0 ≡ b.0 = first_is_one (WrongAt IsRight lits) a.0 b.0 a.1 b.1 in
    sym a.2 ∙ (ap (λ k. get_or lits k 0) same ∙ b.2)

pub right_has_no_wrong : (IsRight : Judgement) (lits : List ℕ) (x : ℕ) → AllRight IsRight lits → ¬ IsFirstWrong IsRight lits x
right_has_no_wrong IsRight lits x right wrong = wrong.1.here.1 (right wrong.0 wrong.1.here.0)

pub same_wrong : (P Q : Judgement) (lits : List ℕ) (x : ℕ) → ((before : List ℕ) (lit : ℕ) → P before lit → Q before lit)
    → ((before : List ℕ) (lit : ℕ) → Q before lit → P before lit) → IsFirstWrong P lits x → IsFirstWrong Q lits x
same_wrong P Q lits x to from wrong = (
  wrong.0,
  record {
    here = (wrong.1.here.0, λ right. wrong.1.here.1 (from _ _ right));
    before = λ j below bad. wrong.1.before j below (bad.0, λ right. bad.1 (to _ _ right));
  },
  wrong.2,
)

-- ---- one literal
pub right_one : (IsRight : Judgement) (x : ℕ) → IsRight [] x → AllRight IsRight (x ∷ [])
right_one IsRight x right zero h = right
right_one IsRight x right (suc k) h = absurd (omega (arith, h))

pub wrong_one : (IsRight : Judgement) (x : ℕ) → (¬ IsRight [] x) → IsFirstWrong IsRight (x ∷ []) x
wrong_one IsRight x wrong = (0, record { here = (omega arith, wrong); before = λ j below _. omega (arith, below) }, refl)

-- ---- two lists, of which the second is judged after the first
abbrev pub After : Judgement → List ℕ → List ℕ → ℕ → Type 0
After IsRight xs before lit = IsRight (xs ++ before) lit

from_left : (IsRight : Judgement) (xs ys : List ℕ) (k : ℕ) → k < length xs → IsRight (take k (xs ++ ys)) (get_or (xs ++ ys) k 0) → IsRight (take k xs) (get_or xs k 0)
from_left IsRight xs ys k h right =
    let before = take-append-le k xs ys (omega arith) in let lit = get_or_append_left xs ys 0 k h in rw (before, lit) at right

to_left : (IsRight : Judgement) (xs ys : List ℕ) (k : ℕ) → k < length xs → IsRight (take k xs) (get_or xs k 0) → IsRight (take k (xs ++ ys)) (get_or (xs ++ ys) k 0)
to_left IsRight xs ys k h right =
    let before = take-append-le k xs ys (omega arith) in let lit = get_or_append_left xs ys 0 k h in rw (before, lit) right

from_right : (IsRight : Judgement) (xs ys : List ℕ) (k : ℕ) → IsRight (take (length xs + k) (xs ++ ys)) (get_or (xs ++ ys) (length xs + k) 0) → IsRight (xs ++ take k ys) (get_or ys k 0)
from_right IsRight xs ys k right =
    let before = take-append-add xs ys k in let lit = get_or-append-add xs ys k 0 in rw (before, lit) at right

to_right : (IsRight : Judgement) (xs ys : List ℕ) (k n : ℕ) → length xs + k ≡ n → IsRight (xs ++ take k ys) (get_or ys k 0) → IsRight (take n (xs ++ ys)) (get_or (xs ++ ys) n 0)
to_right IsRight xs ys k n e right =
    let before = take-append-add xs ys k in let lit = get_or-append-add xs ys k 0 in rw (← e, before, lit) right

pub right_append : (IsRight : Judgement) (xs ys : List ℕ) → AllRight IsRight xs → AllRight (After IsRight xs) ys → AllRight IsRight (xs ++ ys)
right_append IsRight xs ys first second k h =
    elim (cases_lt k (length xs)) [
      | inl below ↦ to_left IsRight xs ys k below (first k below)
      | inr above ↦ to_right IsRight xs ys (k - length xs) k (omega arith) (second (k - length xs) (omega (arith, h, length-append xs ys)))
    ]

pub wrong_left : (IsRight : Judgement) (xs ys : List ℕ) (x : ℕ) → IsFirstWrong IsRight xs x → IsFirstWrong IsRight (xs ++ ys) x
wrong_left IsRight xs ys x wrong =
    let inside : wrong.0 < length xs = wrong.1.here.0 in (
      wrong.0,
      record {
        here = (omega (arith, length-append xs ys), λ right. wrong.1.here.1 (from_left IsRight xs ys wrong.0 inside right));
        before = λ j below bad. (let within : j < length xs = omega arith in
            wrong.1.before j below (within, λ right. bad.1 (to_left IsRight xs ys j within right)));
      },
      get_or_append_left xs ys 0 wrong.0 inside ∙ wrong.2,
    )

pub wrong_right : (IsRight : Judgement) (xs ys : List ℕ) (x : ℕ) → AllRight IsRight xs → IsFirstWrong (After IsRight xs) ys x → IsFirstWrong IsRight (xs ++ ys) x
wrong_right IsRight xs ys x first wrong =
    let inside : wrong.0 < length ys = wrong.1.here.0 in (
      length xs + wrong.0,
      record {
        here = (omega (arith, length-append xs ys), λ right. wrong.1.here.1 (from_right IsRight xs ys wrong.0 right));
        before = λ j below bad. elim (cases_lt j (length xs)) [
          | inl within ↦ bad.1 (to_left IsRight xs ys j within (first j within))
          | inr past ↦ wrong.1.before (j - length xs) (omega arith)
              (omega arith, λ right. bad.1 (to_right IsRight xs ys (j - length xs) j (omega arith) right))
        ];
      },
      get_or-append-add xs ys wrong.0 0 ∙ wrong.2,
    )

-- ---- one piece of a list, after what was found right
right_next : (IsRight : Judgement) (done piece next : List ℕ) → next ≡ done ++ piece → AllRight IsRight done → AllRight (After IsRight done) piece
    → AllRight IsRight next
right_next IsRight done piece next e first second = rw e (right_append IsRight done piece first second)

wrong_within : (IsRight : Judgement) (done piece rest whole : List ℕ) (x : ℕ) → whole ≡ done ++ (piece ++ rest)
    → AllRight IsRight done → IsFirstWrong (After IsRight done) piece x → IsFirstWrong IsRight whole x
wrong_within IsRight done piece rest whole x e first wrong =
    rw e (wrong_right IsRight done (piece ++ rest) x first (wrong_left (After IsRight done) piece rest x wrong))

-- ---- a loop that passes one item after another
-- the items are the literals
pub items_right : (IsRight : Judgement) (lits : List ℕ) (i x : ℕ) → i < length lits → x ≡ get_or lits i x
    → AllRight IsRight (take i lits) → AllRight (After IsRight (take i lits)) (x ∷ []) → AllRight IsRight (take (i + 1) lits)
items_right IsRight lits i x h e = right_next IsRight (take i lits) (x ∷ []) (take (i + 1) lits) (items_next lits i x h e)

pub items_wrong : (IsRight : Judgement) (lits : List ℕ) (i x y : ℕ) → i < length lits → x ≡ get_or lits i x
    → AllRight IsRight (take i lits) → IsFirstWrong (After IsRight (take i lits)) (x ∷ []) y → IsFirstWrong IsRight lits y
items_wrong IsRight lits i x y h e = wrong_within IsRight (take i lits) (x ∷ []) (drop (i + 1) lits) lits y (items_split lits i x h e)

-- each item has one literal
pub map_right : {X : Type 0} (f : X → ℕ) (IsRight : Judgement) (items : List X) (i : ℕ) (x : X) → i < length items → x ≡ get_or items i x
    → AllRight IsRight (map f (take i items)) → AllRight (After IsRight (map f (take i items))) (f x ∷ []) → AllRight IsRight (map f (take (i + 1) items))
map_right f IsRight items i x h e =
    right_next IsRight (map f (take i items)) (f x ∷ []) (map f (take (i + 1) items))
    (ap (map f) (items_next items i x h e) ∙ map-append f (take i items) (x ∷ []))

pub map_wrong : {X : Type 0} (f : X → ℕ) (IsRight : Judgement) (items : List X) (i : ℕ) (x : X) (y : ℕ) → i < length items → x ≡ get_or items i x
    → AllRight IsRight (map f (take i items)) → IsFirstWrong (After IsRight (map f (take i items))) (f x ∷ []) y → IsFirstWrong IsRight (map f items) y
map_wrong f IsRight items i x y h e =
    wrong_within IsRight (map f (take i items)) (f x ∷ []) (map f (drop (i + 1) items)) (map f items) y
    (ap (map f) (items_split items i x h e) ∙ map-append f (take i items) (x ∷ drop (i + 1) items))

-- each item has several
pub flat_map_right : {X : Type 0} (f : X → List ℕ) (IsRight : Judgement) (items : List X) (i : ℕ) (x : X) → i < length items → x ≡ get_or items i x
    → AllRight IsRight (flat_map f (take i items)) → AllRight (After IsRight (flat_map f (take i items))) (f x) → AllRight IsRight (flat_map f (take (i + 1) items))
flat_map_right f IsRight items i x h e =
    right_next IsRight (flat_map f (take i items)) (f x) (flat_map f (take (i + 1) items))
    (ap (flat_map f) (items_next items i x h e) ∙ (flat_map-append f (take i items) (x ∷ []) ∙ ap (λ r. flat_map f (take i items) ++ r) (append-nil (f x))))

pub flat_map_wrong : {X : Type 0} (f : X → List ℕ) (IsRight : Judgement) (items : List X) (i : ℕ) (x : X) (y : ℕ) → i < length items → x ≡ get_or items i x
    → AllRight IsRight (flat_map f (take i items)) → IsFirstWrong (After IsRight (flat_map f (take i items))) (f x) y → IsFirstWrong IsRight (flat_map f items) y
flat_map_wrong f IsRight items i x y h e =
    wrong_within IsRight (flat_map f (take i items)) (f x) (flat_map f (drop (i + 1) items)) (flat_map f items) y
    (ap (flat_map f) (items_split items i x h e) ∙ flat_map-append f (take i items) (x ∷ drop (i + 1) items))
