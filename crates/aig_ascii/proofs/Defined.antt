-- Which variables literals define, and the truth values that are kept of them.
use Rattle.std.proofs.Common.{◌≡◌, ◌≢◌, ℕ, ◌<◌, Bool, true, false, ◌||◌, eqb, List, [], ◌∷◌, ◌++◌, length, get_or, refl, sym, ap, ◌∙◌, arith}
use Rattle.std.proofs.Math.ListN.{set}
use Rattle.std.proofs.lemmas.List.{get_or-set_same, get_or-set_other}
use Rattle.std.proofs.lemmas.Bool.Decides.{nat_tests}
use Rattle.aig_model.specs.Literal.{var}
use Rattle.aig_ascii.specs.Sections.{defines}

pub defines-append : (xs ys : List ℕ) (v : ℕ) → defines (xs ++ ys) v ≡ (defines xs v || defines ys v)
defines-append [] ys v = refl
defines-append (x ∷ xs) ys v =
    let step : (t a b : Bool) → (t || (a || b)) ≡ ((t || a) || b) = λ t a b. elim t as (λ w. (w || (a || b)) ≡ ((w || a) || b)) [ true ↦ refl | false ↦ refl ] in
    ap (λ t. eqb (var x) v || t) (defines-append xs ys v) ∙ step (eqb (var x) v) (defines xs v) (defines ys v)

swap : (a b : Bool) → (a || b) ≡ (b || a)
swap true true = refl
swap true false = refl
swap false true = refl
swap false false = refl

-- one more literal, wherever it stands
pub defines-between : (xs ys : List ℕ) (l v : ℕ) → defines ((xs ++ l ∷ []) ++ ys) v ≡ (eqb (var l) v || defines (xs ++ ys) v)
defines-between xs ys l v =
    let e = eqb (var l) v in
    let a = defines xs v in
    let b = defines ys v in
    let step : (a e b : Bool) → ((a || (e || false)) || b) ≡ (e || (a || b)) = λ a e b. elim a as (λ w. ((w || (e || false)) || b) ≡ (e || (w || b))) [
      | true ↦ elim e as (λ u. true ≡ (u || true)) [ true ↦ refl | false ↦ refl ]
      | false ↦ elim e as (λ u. ((u || false) || b) ≡ (u || b)) [ true ↦ refl | false ↦ refl ]
    ] in
    defines-append (xs ++ l ∷ []) ys v ∙ ap (λ t. t || b) (defines-append xs (l ∷ []) v) ∙ step a e b ∙ ap (λ t. e || t) (sym (defines-append xs ys v))

pub defines-more : (zs xs ys : List ℕ) (l v : ℕ) → defines (zs ++ ((xs ++ l ∷ []) ++ ys)) v ≡ (eqb (var l) v || defines (zs ++ (xs ++ ys)) v)
defines-more zs xs ys l v =
    let step : (a e b : Bool) → (a || (e || b)) ≡ (e || (a || b)) = λ a e b. elim a as (λ w. (w || (e || b)) ≡ (e || (w || b))) [
      | true ↦ elim e as (λ u. true ≡ (u || true)) [ true ↦ refl | false ↦ refl ]
      | false ↦ refl
    ] in
    defines-append zs ((xs ++ l ∷ []) ++ ys) v ∙ ap (λ t. defines zs v || t) (defines-between xs ys l v)
    ∙ step (defines zs v) (eqb (var l) v) (defines (xs ++ ys) v) ∙ ap (λ t. eqb (var l) v || t) (sym (defines-append zs (xs ++ ys) v))

-- a value that is set marks one more variable
marked : (marks : List Bool) (p v : ℕ) → p < length marks → get_or (set marks p true) v false ≡ (eqb p v || get_or marks v false)
marked marks p v h =
    let step : (t : Bool) → eqb p v ≡ t → get_or (set marks p true) v false ≡ (t || get_or marks v false) = λ t. elim t as (λ w. eqb p v ≡ w → get_or (set marks p true) v false ≡ (w || get_or marks v false)) [
      | true ↦ λ e. let same : p ≡ v = grind (arith, nat_tests, e) in ap (λ k. get_or (set marks p true) k false) (sym same) ∙ get_or-set_same marks p true false h
      | false ↦ λ e. let other : p ≢ v = λ s. grind (arith, nat_tests, e) in get_or-set_other marks p v true false (λ s. other (sym s))
    ] in
    step (eqb p v) refl

pub marks-more : (marks grown new : List Bool) (lits more : List ℕ) (l p : ℕ) → ((v : ℕ) → get_or marks v false ≡ defines lits v) → ((v : ℕ) → get_or grown v false ≡ get_or marks v false)
    → p ≡ var l → p < length grown → new ≡ set grown p true → ((v : ℕ) → defines more v ≡ (eqb (var l) v || defines lits v)) → (v : ℕ) → get_or new v false ≡ defines more v
marks-more marks grown new lits more l p kept same at h is all v =
    ap (λ xs. get_or xs v false) is ∙ marked grown p v h ∙ ap (λ k. eqb k v || get_or grown v false) at ∙ ap (λ t. eqb (var l) v || t) (same v ∙ kept v) ∙ sym (all v)
