-- How the items of each list are read.
use Rattle.std.proofs.Common.{◌≡◌, ◌≢◌, ℕ, zero, suc, ◌<◌, ◌^◌, ◌⊎◌, Bool, true, false, cond, nat_lt, nat_eq, Option, Some, None, Result, Ok, Err, ℤ, pos, negsuc, nat_abs, ◌≤ℤ◌, ◌<ℤ◌, refl, sym, ap, ◌∙◌, subst, inl, inr, arith}
use Rattle.std.proofs.lemmas.Bool.Decides.{nat_tests}
use Rattle.std.proofs.lemmas.Int.{ints}
use Rattle.lrat_text.specs.Lrat.{fits_i32, IsId, IsLiteral, IsHint}
use Rattle.lrat_text.specs.Reading.{id_of, is_positive, literal_of, hint_of, deleted_of}
use Rattle.lrat_text.specs.declared.fault.LratKind.{LratKind}
use Rattle.lrat_text.specs.declared.fault.LratKind.TheVariants as kinds
use Rattle.lrat_text.proofs.Lists.{ok-ok, err-err, some-some, below, ReadsItems}

pub choose : {A : Type 0} (b : Bool) (x y z : A) → cond b x y ≡ z → ((b ≡ true) × (x ≡ z)) ⊎ ((b ≡ false) × (y ≡ z))
choose true x y z e = inl (refl, e)
choose false x y z e = inr (refl, e)

pub zero-abs : (z : ℤ) → nat_abs z ≡ 0 → z ≡ pos 0
zero-abs (pos zero) e = refl
zero-abs (pos (suc n)) e = absurd (omega arith)
zero-abs (negsuc n) e = absurd (omega arith)

pub some-abs : (z : ℤ) → z ≢ pos 0 → nat_eq (nat_abs z) 0 ≡ false
some-abs z some = let other : nat_abs z ≢ 0 = λ e. some (zero-abs z e) in grind (arith, nat_tests)

pub below-small : (z : ℤ) → nat_abs z < 2 ^ 63 → below (Some z) ≡ Some z
below-small z h = grind (arith, nat_tests)

-- what a word that is read is
pub below-ok : {Y : Type 0} (read : Option ℤ → Result Y LratKind) → read None ≡ Err kinds.Number → (o : Option ℤ) (y : Y) → read (below o) ≡ Ok y
    → (z : ℤ) × (o ≡ Some z) × (nat_abs z < 2 ^ 63) × (read (Some z) ≡ Ok y)
below-ok read none None y e = cc
below-ok {Y} read none (Some z) y e =
    let G : Type 0 = (x : ℤ) × (Some z ≡ Some x) × (nat_abs x < 2 ^ 63) × (read (Some x) ≡ Ok y) in
    let step : (b : Bool) → nat_lt (nat_abs z) (2 ^ 63) ≡ b → read (cond b (Some z) None) ≡ Ok y → G = λ b. elim b as (λ v. nat_lt (nat_abs z) (2 ^ 63) ≡ v → read (cond v (Some z) None) ≡ Ok y → G) [
      | true ↦ λ small h. (z, refl, grind (arith, nat_tests), h)
      | false ↦ λ large h. cc
    ] in
    step (nat_lt (nat_abs z) (2 ^ 63)) refl e

-- why a word isn't read
pub below-err : {Y : Type 0} (read : Option ℤ → Result Y LratKind) → read None ≡ Err kinds.Number → (o : Option ℤ) (k : LratKind) → read (below o) ≡ Err k
    → ((k ≡ kinds.Number) × ((z : ℤ) → o ≡ Some z → ¬ (nat_abs z < 2 ^ 63))) ⊎ ((z : ℤ) × (o ≡ Some z) × (nat_abs z < 2 ^ 63) × (read (Some z) ≡ Err k))
below-err read none None k e = inl (sym (err-err kinds.Number k (sym none ∙ e)), λ z h. cc)
below-err {Y} read none (Some z) k e =
    let G : Type 0 = ((k ≡ kinds.Number) × ((x : ℤ) → Some z ≡ Some x → ¬ (nat_abs x < 2 ^ 63))) ⊎ ((x : ℤ) × (Some z ≡ Some x) × (nat_abs x < 2 ^ 63) × (read (Some x) ≡ Err k)) in
    let step : (b : Bool) → nat_lt (nat_abs z) (2 ^ 63) ≡ b → read (cond b (Some z) None) ≡ Err k → G = λ b. elim b as (λ v. nat_lt (nat_abs z) (2 ^ 63) ≡ v → read (cond v (Some z) None) ≡ Err k → G) [
      | true ↦ λ small h. inr (z, refl, grind (arith, nat_tests), h)
      | false ↦ λ large h. inl (sym (err-err kinds.Number k (sym none ∙ h)), λ x is few. let same : z ≡ x = some-some z x is in let few_z : nat_abs z < 2 ^ 63 = omega (arith, ap nat_abs same) in grind (arith, nat_tests))
    ] in
    step (nat_lt (nat_abs z) (2 ^ 63)) refl e

pub below-none : {Y : Type 0} (read : Option ℤ → Result Y LratKind) → read None ≡ Err kinds.Number → (o : Option ℤ) → ((z : ℤ) → o ≡ Some z → ¬ (nat_abs z < 2 ^ 63)) → read (below o) ≡ Err kinds.Number
below-none read none None large = none
below-none read none (Some z) large = let other : ¬ (nat_abs z < 2 ^ 63) = large z refl in let is : below (Some z) ≡ None = grind (arith, nat_tests) in ap read is ∙ none

-- ---- positive numbers

pub positive-abs : (z : ℤ) → is_positive z ≡ true → (z ≡ pos (nat_abs z)) × (0 < nat_abs z)
positive-abs (pos zero) e = cc
positive-abs (pos (suc n)) e = (refl, omega arith)
positive-abs (negsuc n) e = cc

pub positive-pos : (n : ℕ) → 0 < n → is_positive (pos n) ≡ true
positive-pos zero h = absurd (omega arith)
positive-pos (suc n) h = refl

pub other-positive : (z : ℤ) → is_positive z ≡ false → z ≤ℤ pos 0
other-positive (pos zero) e = omega (arith, ints)
other-positive (pos (suc n)) e = cc
other-positive (negsuc n) e = omega (arith, ints)

pub positive-other : (z : ℤ) → z ≤ℤ pos 0 → is_positive z ≡ false
positive-other (pos zero) h = refl
positive-other (pos (suc n)) h = absurd (omega (arith, ints))
positive-other (negsuc n) h = refl

pub negative : (z : ℤ) → is_positive z ≡ false → z ≢ pos 0 → z <ℤ pos 0
negative (pos zero) e some = absurd (some refl)
negative (pos (suc n)) e some = cc
negative (negsuc n) e some = omega (arith, ints)

pub negative-other : (z : ℤ) → z <ℤ pos 0 → (is_positive z ≡ false) × (z ≢ pos 0)
negative-other (pos n) h = absurd (omega (arith, ints))
negative-other (negsuc n) h = (refl, λ e. cc)

-- ---- the three lists

pub fits-small : (z : ℤ) → fits_i32 z ≡ true → nat_abs z < 2 ^ 63
fits-small (pos n) e = grind (arith, nat_tests)
fits-small (negsuc n) e = let few : n < 2 ^ 31 = grind (arith, nat_tests) in omega arith

literal-some : (z : ℤ) (o : Option ℤ) → literal_of (Some z) ≡ Ok o → ((z ≡ pos 0) × (o ≡ None)) ⊎ (IsLiteral z × (o ≡ Some z))
literal-some z o e = elim (choose (nat_eq (nat_abs z) 0) (Ok None) (cond (fits_i32 z) (Ok (Some z)) (Err kinds.Number)) (Ok o) e) as (λ _. ((z ≡ pos 0) × (o ≡ None)) ⊎ (IsLiteral z × (o ≡ Some z))) [
  | inl h ↦ inl (zero-abs z (grind (arith, nat_tests)), sym (ok-ok None o h.1))
  | inr h ↦ elim (choose (fits_i32 z) (Ok (Some z)) (Err kinds.Number) (Ok o) h.1) as (λ _. ((z ≡ pos 0) × (o ≡ None)) ⊎ (IsLiteral z × (o ≡ Some z))) [
    | inl g ↦ inr (((λ is. let zero' : nat_abs z ≡ 0 = ap nat_abs is in grind (arith, nat_tests)), g.0), sym (ok-ok (Some z) o g.1))
    | inr g ↦ cc
  ]
]

pub reads-literals : ReadsItems literal_of (λ z. z) IsLiteral
reads-literals = record {
  item = λ o x e.
      let h = below-ok literal_of refl o (Some x) e in
      elim (literal-some h.0 (Some x) h.3) as (λ _. (o ≡ Some x) × IsLiteral x) [
        | inl g ↦ cc
        | inr g ↦ let same : x ≡ h.0 = some-some x h.0 g.1 in (h.1 ∙ ap (λ (z : ℤ). Some z) (sym same), subst IsLiteral (sym same) g.0)
      ];
  end = λ o e.
      let h = below-ok literal_of refl o None e in
      elim (literal-some h.0 None h.3) as (λ _. o ≡ Some (pos 0)) [
        | inl g ↦ h.1 ∙ ap (λ (z : ℤ). Some z) g.0
        | inr g ↦ cc
      ];
  reads_item = λ x good.
      ap literal_of (below-small x (fits-small x good.1))
      ∙ ap (λ b. cond b (Ok None) (cond (fits_i32 x) (Ok (Some x)) (Err kinds.Number))) (some-abs x good.0)
      ∙ ap (λ b. cond b (Ok (Some x)) (Err kinds.Number)) good.1;
  reads_end = refl;
}

hint-some : (z : ℤ) (o : Option ℤ) → hint_of (Some z) ≡ Ok o → ((z ≡ pos 0) × (o ≡ None)) ⊎ ((z ≢ pos 0) × (o ≡ Some z))
hint-some z o e = elim (choose (nat_eq (nat_abs z) 0) (Ok None) (Ok (Some z)) (Ok o) e) as (λ _. ((z ≡ pos 0) × (o ≡ None)) ⊎ ((z ≢ pos 0) × (o ≡ Some z))) [
  | inl h ↦ inl (zero-abs z (grind (arith, nat_tests)), sym (ok-ok None o h.1))
  | inr h ↦ inr ((λ is. let zero' : nat_abs z ≡ 0 = ap nat_abs is in grind (arith, nat_tests)), sym (ok-ok (Some z) o h.1))
]

pub reads-hints : ReadsItems hint_of (λ z. z) IsHint
reads-hints = record {
  item = λ o x e.
      let h = below-ok hint_of refl o (Some x) e in
      elim (hint-some h.0 (Some x) h.3) as (λ _. (o ≡ Some x) × IsHint x) [
        | inl g ↦ cc
        | inr g ↦ let same : x ≡ h.0 = some-some x h.0 g.1 in (h.1 ∙ ap (λ (z : ℤ). Some z) (sym same), subst IsHint (sym same) (g.0, h.2))
      ];
  end = λ o e.
      let h = below-ok hint_of refl o None e in
      elim (hint-some h.0 None h.3) as (λ _. o ≡ Some (pos 0)) [
        | inl g ↦ h.1 ∙ ap (λ (z : ℤ). Some z) g.0
        | inr g ↦ cc
      ];
  reads_item = λ x good.
      ap hint_of (below-small x good.1) ∙ ap (λ b. cond b (Ok None) (Ok (Some x))) (some-abs x good.0);
  reads_end = refl;
}

deleted-some : (z : ℤ) (o : Option ℕ) → deleted_of (Some z) ≡ Ok o → ((z ≡ pos 0) × (o ≡ None)) ⊎ ((z ≡ pos (nat_abs z)) × (0 < nat_abs z) × (o ≡ Some (nat_abs z)))
deleted-some z o e = elim (choose (nat_eq (nat_abs z) 0) (Ok None) (cond (is_positive z) (Ok (Some (nat_abs z))) (Err kinds.Form)) (Ok o) e) as (λ _. ((z ≡ pos 0) × (o ≡ None)) ⊎ ((z ≡ pos (nat_abs z)) × (0 < nat_abs z) × (o ≡ Some (nat_abs z)))) [
  | inl h ↦ inl (zero-abs z (grind (arith, nat_tests)), sym (ok-ok None o h.1))
  | inr h ↦ elim (choose (is_positive z) (Ok (Some (nat_abs z))) (Err kinds.Form) (Ok o) h.1) as (λ _. ((z ≡ pos 0) × (o ≡ None)) ⊎ ((z ≡ pos (nat_abs z)) × (0 < nat_abs z) × (o ≡ Some (nat_abs z)))) [
    | inl g ↦ let p = positive-abs z g.0 in inr (p.0, p.1, sym (ok-ok (Some (nat_abs z)) o g.1))
    | inr g ↦ cc
  ]
]

pub reads-deleted : ReadsItems deleted_of (λ n. pos n) IsId
reads-deleted = record {
  item = λ o x e.
      let h = below-ok deleted_of refl o (Some x) e in
      elim (deleted-some h.0 (Some x) h.3) as (λ _. (o ≡ Some (pos x)) × IsId x) [
        | inl g ↦ cc
        | inr g ↦ let same : x ≡ nat_abs h.0 = some-some x (nat_abs h.0) g.2 in (h.1 ∙ ap (λ (z : ℤ). Some z) (g.0 ∙ ap (λ n. pos n) (sym same)), (omega arith, omega arith))
      ];
  end = λ o e.
      let h = below-ok deleted_of refl o None e in
      elim (deleted-some h.0 None h.3) as (λ _. o ≡ Some (pos 0)) [
        | inl g ↦ h.1 ∙ ap (λ (z : ℤ). Some z) g.0
        | inr g ↦ cc
      ];
  reads_item = λ x good.
      let some : nat_eq x 0 ≡ false = let h = good.0 in grind (arith, nat_tests) in
      ap deleted_of (below-small (pos x) good.1)
      ∙ ap (λ b. cond b (Ok None) (cond (is_positive (pos x)) (Ok (Some x)) (Err kinds.Form))) some
      ∙ ap (λ b. cond b (Ok (Some x)) (Err kinds.Form)) (positive-pos x good.0);
  reads_end = refl;
}

-- ---- an id

pub id-ok : (o : Option ℤ) (n : ℕ) → id_of (below o) ≡ Ok n → (o ≡ Some (pos n)) × IsId n
id-ok o n e =
    let h = below-ok id_of refl o n e in
    elim (choose (is_positive h.0) (Ok (nat_abs h.0)) (Err kinds.Form) (Ok n) h.3) as (λ _. (o ≡ Some (pos n)) × IsId n) [
      | inl g ↦ let p = positive-abs h.0 g.0 in let same = ok-ok (nat_abs h.0) n g.1 in
          (h.1 ∙ ap (λ (z : ℤ). Some z) (p.0 ∙ ap (λ n. pos n) same), (omega arith, omega arith))
      | inr g ↦ cc
    ]

pub id-reads : (o : Option ℤ) (n : ℕ) → o ≡ Some (pos n) → IsId n → id_of (below o) ≡ Ok n
id-reads o n is good =
    ap (λ v. id_of (below v)) is ∙ ap id_of (below-small (pos n) good.1) ∙ ap (λ b. cond b (Ok n) (Err kinds.Form)) (positive-pos n good.0)

-- ---- words that aren't read

-- a word is no number at all, or a number that can't come here
abbrev pub NoNumber : Option ℤ → Type 0
NoNumber o = (z : ℤ) → o ≡ Some z → ¬ (nat_abs z < 2 ^ 63)

pub id-err : (o : Option ℤ) (k : LratKind) → id_of (below o) ≡ Err k
    → ((k ≡ kinds.Number) × NoNumber o) ⊎ ((k ≡ kinds.Form) × ((z : ℤ) × (o ≡ Some z) × (nat_abs z < 2 ^ 63) × (z ≤ℤ pos 0)))
id-err o k e =
    let G : Type 0 = ((k ≡ kinds.Number) × NoNumber o) ⊎ ((k ≡ kinds.Form) × ((z : ℤ) × (o ≡ Some z) × (nat_abs z < 2 ^ 63) × (z ≤ℤ pos 0))) in
    elim (below-err id_of refl o k e) as (λ _. G) [
      | inl h ↦ inl h
      | inr h ↦ elim (choose (is_positive h.0) (Ok (nat_abs h.0)) (Err kinds.Form) (Err k) h.3) as (λ _. G) [
        | inl g ↦ cc
        | inr g ↦ inr (sym (err-err kinds.Form k g.1), (h.0, h.1, h.2, other-positive h.0 g.0))
      ]
    ]

pub id-form : (o : Option ℤ) (z : ℤ) → o ≡ Some z → nat_abs z < 2 ^ 63 → z ≤ℤ pos 0 → id_of (below o) ≡ Err kinds.Form
id-form o z is small h =
    ap (λ v. id_of (below v)) is ∙ ap id_of (below-small z small) ∙ ap (λ b. cond b (Ok (nat_abs z)) (Err kinds.Form)) (positive-other z h)

pub literal-err : (o : Option ℤ) (k : LratKind) → literal_of (below o) ≡ Err k → (k ≡ kinds.Number) × ((z : ℤ) → o ≡ Some z → ¬ (fits_i32 z ≡ true))
literal-err o k e =
    let G : Type 0 = (k ≡ kinds.Number) × ((z : ℤ) → o ≡ Some z → ¬ (fits_i32 z ≡ true)) in
    elim (below-err literal_of refl o k e) as (λ _. G) [
      | inl h ↦ (h.0, λ z is fits. h.1 z is (fits-small z fits))
      | inr h ↦ elim (choose (nat_eq (nat_abs h.0) 0) (Ok None) (cond (fits_i32 h.0) (Ok (Some h.0)) (Err kinds.Number)) (Err k) h.3) as (λ _. G) [
        | inl g ↦ cc
        | inr g ↦ elim (choose (fits_i32 h.0) (Ok (Some h.0)) (Err kinds.Number) (Err k) g.1) as (λ _. G) [
          | inl f ↦ cc
          | inr f ↦ (
            sym (err-err kinds.Number k f.1),
            λ z is fits.
                let same : h.0 ≡ z = some-some h.0 z (sym h.1 ∙ is) in
                let fits' : fits_i32 h.0 ≡ true = ap fits_i32 same ∙ fits in cc,
          )
        ]
      ]
    ]

pub literal-number : (o : Option ℤ) → ((z : ℤ) → o ≡ Some z → ¬ (fits_i32 z ≡ true)) → literal_of (below o) ≡ Err kinds.Number
literal-number None other = refl
literal-number (Some z) other =
    let unfit : fits_i32 z ≡ false = false-from-not (fits_i32 z) (other z refl) in
    let some : nat_eq (nat_abs z) 0 ≡ false = some-abs z (λ is. other z refl (ap fits_i32 is)) in
    let step : (b : Bool) → literal_of (cond b (Some z) None) ≡ Err kinds.Number = λ b. elim b as (λ v. literal_of (cond v (Some z) None) ≡ Err kinds.Number) [
      | true ↦ ap (λ c. cond c (Ok None) (cond (fits_i32 z) (Ok (Some z)) (Err kinds.Number))) some ∙ ap (λ c. cond c (Ok (Some z)) (Err kinds.Number)) unfit
      | false ↦ refl
    ] in
    step (nat_lt (nat_abs z) (2 ^ 63))
  where
    false-from-not : (b : Bool) → ¬ (b ≡ true) → b ≡ false
    false-from-not true h = absurd (h refl)
    false-from-not false h = refl

pub hint-err : (o : Option ℤ) (k : LratKind) → hint_of (below o) ≡ Err k → (k ≡ kinds.Number) × NoNumber o
hint-err o k e =
    elim (below-err hint_of refl o k e) as (λ _. (k ≡ kinds.Number) × NoNumber o) [
      | inl h ↦ h
      | inr h ↦ elim (choose (nat_eq (nat_abs h.0) 0) (Ok None) (Ok (Some h.0)) (Err k) h.3) as (λ _. (k ≡ kinds.Number) × NoNumber o) [
        | inl g ↦ cc
        | inr g ↦ cc
      ]
    ]

pub deleted-err : (o : Option ℤ) (k : LratKind) → deleted_of (below o) ≡ Err k
    → ((k ≡ kinds.Number) × NoNumber o) ⊎ ((k ≡ kinds.Form) × ((z : ℤ) × (o ≡ Some z) × (nat_abs z < 2 ^ 63) × (z <ℤ pos 0)))
deleted-err o k e =
    let G : Type 0 = ((k ≡ kinds.Number) × NoNumber o) ⊎ ((k ≡ kinds.Form) × ((z : ℤ) × (o ≡ Some z) × (nat_abs z < 2 ^ 63) × (z <ℤ pos 0))) in
    elim (below-err deleted_of refl o k e) as (λ _. G) [
      | inl h ↦ inl h
      | inr h ↦ elim (choose (nat_eq (nat_abs h.0) 0) (Ok None) (cond (is_positive h.0) (Ok (Some (nat_abs h.0))) (Err kinds.Form)) (Err k) h.3) as (λ _. G) [
        | inl g ↦ cc
        | inr g ↦ elim (choose (is_positive h.0) (Ok (Some (nat_abs h.0))) (Err kinds.Form) (Err k) g.1) as (λ _. G) [
          | inl f ↦ cc
          | inr f ↦ inr (sym (err-err kinds.Form k f.1), (h.0, h.1, h.2, negative h.0 f.0 (λ is. let zero' : nat_abs h.0 ≡ 0 = ap nat_abs is in let some = g.0 in grind (arith, nat_tests))))
        ]
      ]
    ]

pub deleted-form : (o : Option ℤ) (z : ℤ) → o ≡ Some z → nat_abs z < 2 ^ 63 → z <ℤ pos 0 → deleted_of (below o) ≡ Err kinds.Form
deleted-form o z is small h =
    let n = negative-other z h in
    ap (λ v. deleted_of (below v)) is
    ∙ ap deleted_of (below-small z small)
    ∙ ap (λ b. cond b (Ok None) (cond (is_positive z) (Ok (Some (nat_abs z))) (Err kinds.Form))) (some-abs z n.1)
    ∙ ap (λ b. cond b (Ok (Some (nat_abs z))) (Err kinds.Form)) n.0
