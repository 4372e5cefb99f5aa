-- The negations of a clause's literals, assumed one after another.
use Rattle.std.proofs.Common.{◌≡◌, ℕ, zero, suc, ◌+◌, ◌<◌, true, false, ℤ, pos, negsuc, neg_ℤ, List, [], ◌∷◌, ◌++◌, map, take, length, get_or, refl, ap, sym, ◌∙◌, subst, arith, inl, inr}
use Rattle.std.proofs.lemmas.Bool.{or_cases, or_left, or_right, both_ways, false_from_ne_true}
use Rattle.std.proofs.lemmas.List.{take_more, map_push}
use Rattle.cnf_base.specs.Status.{same_lit, has, is_tautology}
use Rattle.lrat_check.specs.declared.assumed.Truth.TheVariants.{True}
use Rattle.lrat_check.specs.Assumptions.{truth_in}
use Rattle.cnf_base.proofs.Literals.{same_lit-true, neg_ℤ-neg_ℤ, has-head, has-append, list_any-found, list_any-at}

same_lit-neg_ℤ : (m l : ℤ) → same_lit (neg_ℤ m) l ≡ same_lit m (neg_ℤ l)
same_lit-neg_ℤ (pos zero) (pos zero) = grind arith
same_lit-neg_ℤ (pos zero) (pos (suc b)) = grind arith
same_lit-neg_ℤ (pos zero) (negsuc b) = grind arith
same_lit-neg_ℤ (pos (suc a)) (pos zero) = grind arith
same_lit-neg_ℤ (pos (suc a)) (pos (suc b)) = grind arith
same_lit-neg_ℤ (pos (suc a)) (negsuc b) = grind arith
same_lit-neg_ℤ (negsuc a) (pos zero) = grind arith
same_lit-neg_ℤ (negsuc a) (pos (suc b)) = grind arith
same_lit-neg_ℤ (negsuc a) (negsuc b) = grind arith

has-map_neg_ℤ : (ls : List ℤ) (l : ℤ) → has (map neg_ℤ ls) l ≡ has ls (neg_ℤ l)
has-map_neg_ℤ [] l = refl
has-map_neg_ℤ (m ∷ ms) l = rw (same_lit-neg_ℤ m l, has-map_neg_ℤ ms l) refl

pub has-get_or : (ls : List ℤ) (i : ℕ) (d : ℤ) → i < length ls → has ls (get_or ls i d) ≡ true
has-get_or [] i d h = absurd (omega arith)
has-get_or (m ∷ ms) zero d h = has-head m ms
has-get_or (m ∷ ms) (suc i) d h = or_right (same_lit m (get_or ms i d)) (has ms (get_or ms i d)) (has-get_or ms i d (omega arith))

has-take : (ls : List ℤ) (i : ℕ) (x : ℤ) → has (take i ls) x ≡ true → has ls x ≡ true
has-take [] zero x h = cc
has-take [] (suc i) x h = cc
has-take (m ∷ ms) zero x h = cc
has-take (m ∷ ms) (suc i) x h =
    elim (or_cases (same_lit m x) (has (take i ms) x) h) [
      | inl e ↦ or_left (same_lit m x) (has ms x) e
      | inr e ↦ or_right (same_lit m x) (has ms x) (has-take ms i x e)
    ]

-- by what is assumed a literal is true
pub true_has : (assumed : List ℤ) (l : ℤ) → True ≡ truth_in assumed l → has assumed l ≡ true
true_has assumed l h = grind arith

pub not_true_has : (assumed : List ℤ) (l : ℤ) → (truth_in assumed l ≡ True → ⊥) → has assumed l ≡ false
not_true_has assumed l h = false_from_ne_true (has assumed l) (λ k. h (rw k refl))

pub tautology_found : (assumed lits : List ℤ) (i : ℕ) (l : ℤ) → i < length lits → l ≡ get_or lits i l → assumed ≡ map neg_ℤ (take i lits) → has assumed l ≡ true → is_tautology lits ≡ true
tautology_found assumed lits i l lt at is h =
    let negated : has (take i lits) (neg_ℤ l) ≡ true = sym (has-map_neg_ℤ (take i lits) l) ∙ sym (ap (λ (ls : List ℤ). has ls l) is) ∙ h in
    let P : ℤ → Type 0 = λ x. has lits x ≡ true in
    list_any-at (λ x. has lits (neg_ℤ x)) lits l (subst P (sym at) (has-get_or lits i l lt)) (has-take lits i (neg_ℤ l) negated)

not_itself : (l : ℤ) → (l ≡ pos 0 → ⊥) → same_lit l (neg_ℤ l) ≡ false
not_itself (pos zero) h = absurd (h refl)
not_itself (pos (suc n)) h = refl
not_itself (negsuc n) h = refl

-- one more literal whose negation was not there
tautology_more : (ls : List ℤ) (l : ℤ) → is_tautology ls ≡ false → has ls (neg_ℤ l) ≡ false → (l ≡ pos 0 → ⊥) → is_tautology (ls ++ l ∷ []) ≡ false
tautology_more ls l plain free nz =
    false_from_ne_true (is_tautology (ls ++ l ∷ [])) (λ h.
    let found = list_any-found (λ x. has (ls ++ l ∷ []) (neg_ℤ x)) (ls ++ l ∷ []) h in
    let x : ℤ = found.0 in
    let one = or_cases (has ls x) (has (l ∷ []) x) (sym (has-append ls (l ∷ []) x) ∙ found.1) in
    let other = or_cases (has ls (neg_ℤ x)) (has (l ∷ []) (neg_ℤ x)) (sym (has-append ls (l ∷ []) (neg_ℤ x)) ∙ found.2) in
    elim one [
      | inl a ↦ elim other [
        | inl b ↦ both_ways (is_tautology ls) plain (list_any-at (λ y. has ls (neg_ℤ y)) ls x a b)
        | inr b ↦
            (let same : l ≡ neg_ℤ x = same_lit-true l (neg_ℤ x) (only l (neg_ℤ x) b) in
            let back : x ≡ neg_ℤ l = sym (neg_ℤ-neg_ℤ x) ∙ sym (ap neg_ℤ same) in
            let P : ℤ → Type 0 = λ y. has ls y ≡ true in
            both_ways (has ls (neg_ℤ l)) free (subst P back a))
      ]
      | inr a ↦
          (let same : l ≡ x = same_lit-true l x (only l x a) in
          elim other [
            | inl b ↦ (let P : ℤ → Type 0 = λ y. has ls (neg_ℤ y) ≡ true in both_ways (has ls (neg_ℤ l)) free (subst P (sym same) b))
            | inr b ↦ (let P : ℤ → Type 0 = λ y. same_lit l (neg_ℤ y) ≡ true in both_ways (same_lit l (neg_ℤ l)) (not_itself l nz) (subst P (sym same) (only l (neg_ℤ x) b)))
          ])
    ])
  where
    only : (a b : ℤ) → has (a ∷ []) b ≡ true → same_lit a b ≡ true
    only a b h = elim (or_cases (same_lit a b) false h) [ inl e ↦ e | inr e ↦ cc ]

pub plain_more : (assumed lits : List ℤ) (i : ℕ) (l : ℤ) → i < length lits → l ≡ get_or lits i l → assumed ≡ map neg_ℤ (take i lits) → has assumed l ≡ false → (l ≡ pos 0 → ⊥) → is_tautology (take i lits) ≡ false → is_tautology (take (i + 1) lits) ≡ false
plain_more assumed lits i l lt at is h nz plain =
    let free : has (take i lits) (neg_ℤ l) ≡ false = sym (has-map_neg_ℤ (take i lits) l) ∙ sym (ap (λ (ls : List ℤ). has ls l) is) ∙ h in
    ap is_tautology (take_more lits i l lt ∙ ap (λ x. take i lits ++ x ∷ []) (sym at)) ∙ tautology_more (take i lits) l plain free nz

pub negations_more : (assumed new lits : List ℤ) (i : ℕ) (l : ℤ) → i < length lits → l ≡ get_or lits i l → assumed ≡ map neg_ℤ (take i lits) → new ≡ assumed ++ neg_ℤ l ∷ [] → new ≡ map neg_ℤ (take (i + 1) lits)
negations_more assumed new lits i l lt at is push =
    push
    ∙ ap (λ (ls : List ℤ). ls ++ neg_ℤ l ∷ []) is
    ∙ sym (map_push neg_ℤ (take i lits) l)
    ∙ ap (map neg_ℤ) (sym (take_more lits i l lt ∙ ap (λ x. take i lits ++ x ∷ []) (sym at)))
