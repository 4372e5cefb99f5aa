-- The variables of literals, kept as one truth value a variable.
use Rattle.std.proofs.Common.{◌≡◌, ℕ, ◌+◌, ◌<◌, inl, inr, Bool, true, false, List, [], ◌∷◌, ◌++◌, map, length, get_or, take, drop, set, sym, ap, ◌∙◌, subst, append_assoc, IsTrue}
use Rattle.std.proofs.lemmas.Bool.{cases_eq}
use Rattle.std.proofs.lemmas.List.{append-nil, map-append, get_or-set_same, get_or-set_other}
use Rattle.std.proofs.lemmas.List.Elements.{Contains-append_left, Contains-push_cases, Contains-push}
use Rattle.aig_model.specs.Literal.{var}
use Rattle.aig_model.specs.WellFormed.{IsDefining}
use Rattle.aig_model.specs.Faults.{IsNewDefiner}
use Rattle.aig_model.specs.Marks.{Marks, HaveRoom, Defines, FailsToDefine}
use Rattle.aig_model.proofs.Elements.{items_split, items_next}
use Rattle.aig_model.proofs.Rightness.{right_one, wrong_one, right_append, wrong_left, wrong_right, same_wrong}

pub room_same : (old new : List Bool) (lits : List ℕ) → length new ≡ length old → HaveRoom old lits → HaveRoom new lits
room_same old new lits size room k d h = rw size (room k d h)

-- one variable more is marked
pub marks_more : (marks : List Bool) (earlier : List ℕ) (lit : ℕ) → var lit < length marks → Marks marks earlier → Marks (set marks (var lit) true) (earlier ++ lit ∷ [])
marks_more marks earlier lit room is v = (
  λ h. elim (cases_eq v (var lit)) [
    | inl e ↦ rw (map-append, e) (Contains-push (map var earlier) (var lit))
    | inr ne ↦ rw map-append (Contains-append_left (map var earlier) (var lit ∷ []) v ((is v).0 (sym (get_or-set_other marks (var lit) v true false ne) ∙ h)))
  ],
  λ h. elim (cases_eq v (var lit)) [
    | inl e ↦ rw e (get_or-set_same marks (var lit) true false room)
    | inr ne ↦ elim (Contains-push_cases (map var earlier) (var lit) v (rw map-append at h)) [
      | inl before ↦ get_or-set_other marks (var lit) v true false ne ∙ (is v).1 before
      | inr e ↦ absurd (ne (sym e))
    ]
  ],
)

-- ---- one literal
pub defines_one : (old : List Bool) (lit : ℕ) → var lit < length old → IsDefining lit × (¬ IsTrue (get_or old (var lit) false)) → Defines old (set old (var lit) true) (lit ∷ [])
defines_one old lit room new earlier is = (
  right_one (λ before. IsNewDefiner (earlier ++ before)) lit
      (record { defining = new.0; new = λ h. new.1 ((is (var lit)).1 (rw append-nil at h)) }),
  marks_more old earlier lit room is,
)

pub fails_one : (old : List Bool) (lit : ℕ) → (¬ (IsDefining lit × (¬ IsTrue (get_or old (var lit) false)))) → FailsToDefine old (lit ∷ []) lit
fails_one old lit wrong earlier is =
    wrong_one (λ before. IsNewDefiner (earlier ++ before)) lit
    (λ right. wrong (right.defining, λ marked. right.new (rw append-nil ((is (var lit)).0 marked))))

-- ---- one list after another
further : (earlier xs before : List ℕ) (lit : ℕ) → IsNewDefiner ((earlier ++ xs) ++ before) lit → IsNewDefiner (earlier ++ (xs ++ before)) lit
further earlier xs before lit h = rw append_assoc at h

nearer : (earlier xs before : List ℕ) (lit : ℕ) → IsNewDefiner (earlier ++ (xs ++ before)) lit → IsNewDefiner ((earlier ++ xs) ++ before) lit
nearer earlier xs before lit h = rw append_assoc h

pub defines_append : (old mid new : List Bool) (xs ys : List ℕ) → Defines old mid xs → Defines mid new ys → Defines old new (xs ++ ys)
defines_append old mid new xs ys first second earlier is =
    let a = first earlier is in
    let b = second (earlier ++ xs) a.1 in (
      right_append (λ before. IsNewDefiner (earlier ++ before)) xs ys a.0 (λ k h. further earlier xs (take k ys) (get_or ys k 0) (b.0 k h)),
      rw append_assoc at b.1,
    )

pub fails_left : (old : List Bool) (xs ys : List ℕ) (lit : ℕ) → FailsToDefine old xs lit → FailsToDefine old (xs ++ ys) lit
fails_left old xs ys lit fails earlier is = wrong_left (λ before. IsNewDefiner (earlier ++ before)) xs ys lit (fails earlier is)

pub fails_right : (old mid : List Bool) (xs ys : List ℕ) (lit : ℕ) → Defines old mid xs → FailsToDefine mid ys lit → FailsToDefine old (xs ++ ys) lit
fails_right old mid xs ys lit first fails earlier is =
    let a = first earlier is in
    wrong_right (λ before. IsNewDefiner (earlier ++ before)) xs ys lit a.0
    (same_wrong (λ before. IsNewDefiner ((earlier ++ xs) ++ before)) (λ before. IsNewDefiner (earlier ++ (xs ++ before))) ys lit
    (further earlier xs) (nearer earlier xs) (fails (earlier ++ xs) a.1))

-- ---- a loop that passes one item after another, each with one literal
pub items_define : (old mid new : List Bool) (lits : List ℕ) (i x : ℕ) → i < length lits → x ≡ get_or lits i x
    → Defines old mid (take i lits) → Defines mid new (x ∷ []) → Defines old new (take (i + 1) lits)
items_define old mid new lits i x h e first second = rw (items_next lits i x h e) (defines_append old mid new (take i lits) (x ∷ []) first second)

pub items_fail : (old mid : List Bool) (lits : List ℕ) (i x lit : ℕ) → i < length lits → x ≡ get_or lits i x
    → Defines old mid (take i lits) → FailsToDefine mid (x ∷ []) lit → FailsToDefine old lits lit
items_fail old mid lits i x lit h e first fails =
    subst (λ (xs : List ℕ). FailsToDefine old xs lit) (sym (items_split lits i x h e))
    (fails_right old mid (take i lits) (x ∷ drop (i + 1) lits) lit first (fails_left mid (x ∷ []) (drop (i + 1) lits) lit fails))

pub map_define : {X : Type 0} (f : X → ℕ) (old mid new : List Bool) (items : List X) (i : ℕ) (x : X) → i < length items → x ≡ get_or items i x
    → Defines old mid (map f (take i items)) → Defines mid new (f x ∷ []) → Defines old new (map f (take (i + 1) items))
map_define f old mid new items i x h e first second =
    subst (Defines old new) (sym (ap (map f) (items_next items i x h e) ∙ map-append f (take i items) (x ∷ [])))
    (defines_append old mid new (map f (take i items)) (f x ∷ []) first second)

pub map_fail : {X : Type 0} (f : X → ℕ) (old mid : List Bool) (items : List X) (i : ℕ) (x : X) (lit : ℕ) → i < length items → x ≡ get_or items i x
    → Defines old mid (map f (take i items)) → FailsToDefine mid (f x ∷ []) lit → FailsToDefine old (map f items) lit
map_fail f old mid items i x lit h e first fails =
    subst (λ (xs : List ℕ). FailsToDefine old xs lit) (sym (ap (map f) (items_split items i x h e) ∙ map-append f (take i items) (x ∷ drop (i + 1) items)))
    (fails_right old mid (map f (take i items)) (f x ∷ map f (drop (i + 1) items)) lit first (fails_left mid (f x ∷ []) (map f (drop (i + 1) items)) lit fails))
