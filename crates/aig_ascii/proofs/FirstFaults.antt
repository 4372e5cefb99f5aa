-- The first demand that isn't met, in lists that are put together, as a relation and as what a call answers.
use Rattle.std.proofs.Common.{◌≡◌, ℕ, Bool, true, false, cond, IsTrue, Option, Some, None, Result, Err, List, [], ◌∷◌, ◌++◌, refl, sym, ap, ◌∙◌, subst}
use Rattle.text_words.proofs.Written.{each-append}
use Rattle.aig_ascii.specs.Demands.{Demand, never, AllMet, IsFirstUnmet}
use Rattle.aig_ascii.specs.FirstFaults.{first_unmet, Fails, Says}
use Rattle.aig_ascii.specs.declared.fault.Fault.{Fault}
use Rattle.aig_ascii.specs.declared.fault.Fault.TheVariants as faults

abbrev pub Unmet : Type 0 → Type 0
Unmet K = Option (ℕ × K)

abbrev pub or_else : {K : Type 0} → Unmet K → Unmet K → Unmet K
or_else None o = o
or_else (Some x) o = Some x

pub first_unmet-append : {K : Type 0} → (xs ys : List (Demand K)) → first_unmet (xs ++ ys) ≡ or_else (first_unmet xs) (first_unmet ys)
first_unmet-append [] ys = refl
first_unmet-append (x ∷ xs) ys =
    let step : (t : Bool) → cond t (first_unmet (xs ++ ys)) (Some (x.at, x.kind)) ≡ or_else (cond t (first_unmet xs) (Some (x.at, x.kind))) (first_unmet ys) = λ t. elim t as (λ v. cond v (first_unmet (xs ++ ys)) (Some (x.at, x.kind)) ≡ or_else (cond v (first_unmet xs) (Some (x.at, x.kind))) (first_unmet ys)) [
      | true ↦ first_unmet-append xs ys
      | false ↦ refl
    ] in
    step x.met

pub or_else-none : {K : Type 0} → (o : Unmet K) → or_else o None ≡ o
or_else-none None = refl
or_else-none (Some x) = refl

-- what is met at the front doesn't matter
pub first_unmet-behind : {K : Type 0} → (xs ys : List (Demand K)) → first_unmet xs ≡ None → first_unmet (xs ++ ys) ≡ first_unmet ys
first_unmet-behind xs ys e = first_unmet-append xs ys ∙ ap (λ o. or_else o (first_unmet ys)) e

-- a fault at the front is the first
pub fails-front : {K : Type 0} → (e : Fault K) (xs ys : List (Demand K)) → Fails e (first_unmet xs) → Fails e (first_unmet (xs ++ ys))
fails-front (faults.At at kind) xs ys f = first_unmet-append xs ys ∙ ap (λ o. or_else o (first_unmet ys)) f
fails-front faults.OutOfMemory xs ys f = tt

-- and so is one behind what is met
pub fails-behind : {K : Type 0} → (e : Fault K) (xs ys : List (Demand K)) → first_unmet xs ≡ None → Fails e (first_unmet ys) → Fails e (first_unmet (xs ++ ys))
fails-behind e xs ys m f = subst (λ o. Fails e o) (sym (first_unmet-behind xs ys m)) f

-- an error that a call hands on
pub says-err : {A K : Type 0} (r : Result A (Fault K)) (y e : Fault K) (o : Unmet K) → r ≡ Err y → y ≡ e → Fails e o → Says r o
says-err {A} {K} r y e o is same f = subst (λ (x : Result A (Fault K)). Says x o) (sym (is ∙ ap (λ (x : Fault K). Err x) same)) f

-- ---- lists of which all is met

pub met-front : {K : Type 0} (xs ys : List (Demand K)) → first_unmet (xs ++ ys) ≡ None → first_unmet xs ≡ None
met-front {K} xs ys e =
    let step : (o : Unmet K) → or_else o (first_unmet ys) ≡ None → o ≡ None = λ o. elim o as (λ v. or_else v (first_unmet ys) ≡ None → v ≡ None) [
      | None ↦ λ h. refl
      | Some x ↦ λ h. h
    ] in
    step (first_unmet xs) (sym (first_unmet-append xs ys) ∙ e)

pub met-rest : {K : Type 0} → (xs ys : List (Demand K)) → first_unmet (xs ++ ys) ≡ None → first_unmet ys ≡ None
met-rest xs ys e = sym (first_unmet-behind xs ys (met-front xs ys e)) ∙ e

pub met-first : {K : Type 0} → (d : Demand K) (ds : List (Demand K)) → first_unmet (d ∷ ds) ≡ None → (d.met ≡ true) × (first_unmet ds ≡ None)
met-first d ds e =
    let step : (t : Bool) → cond t (first_unmet ds) (Some (d.at, d.kind)) ≡ None → (t ≡ true) × (first_unmet ds ≡ None) = λ t. elim t as (λ v. cond v (first_unmet ds) (Some (d.at, d.kind)) ≡ None → (v ≡ true) × (first_unmet ds ≡ None)) [
      | true ↦ λ h. (refl, h)
      | false ↦ λ h. cc
    ] in
    step d.met e

pub met-append : {K : Type 0} (xs ys : List (Demand K)) → AllMet xs → AllMet ys → AllMet (xs ++ ys)
met-append {K} xs ys mx my = each-append (λ (d : Demand K). IsTrue d.met) xs ys mx my

-- ---- the first unmet demand, as a relation

some-same : {K : Type 0} → (x y : ℕ × K) → ◌≡◌ {A = Unmet K} (Some x) (Some y) → x ≡ y
some-same x y e = cc

pub one-unmet : {K : Type 0} → (o : Unmet K) (x y : ℕ × K) → o ≡ Some x → o ≡ Some y → x ≡ y
one-unmet o x y p q = some-same x y (sym p ∙ q)

pub clash : {K : Type 0} → (o : Unmet K) (x : ℕ × K) → o ≡ Some x → o ≡ None → ⊥
clash o x p q = cc

pub all-met : {K : Type 0} → (ds : List (Demand K)) → first_unmet ds ≡ None → AllMet ds
all-met [] e = tt
all-met (d ∷ ds) e =
    let step : (t : Bool) → cond t (first_unmet ds) (Some (d.at, d.kind)) ≡ None → (t ≡ true) × AllMet ds = λ t. elim t as (λ v. cond v (first_unmet ds) (Some (d.at, d.kind)) ≡ None → (v ≡ true) × AllMet ds) [
      | true ↦ λ h. (refl, all-met ds h)
      | false ↦ λ h. cc
    ] in
    step d.met e

pub none-unmet : {K : Type 0} → (ds : List (Demand K)) → AllMet ds → first_unmet ds ≡ None
none-unmet [] a = refl
none-unmet (d ∷ ds) a = ap (λ t. cond t (first_unmet ds) (Some (d.at, d.kind))) a.0 ∙ none-unmet ds a.1

pub is-first : {K : Type 0} → (ds : List (Demand K)) (at : ℕ) (kind : K) → first_unmet ds ≡ Some (at, kind) → IsFirstUnmet ds at kind
is-first [] at kind e = cc
is-first {K} (d ∷ ds) at kind e =
    let step : (t : Bool) → d.met ≡ t → cond t (first_unmet ds) (Some (d.at, d.kind)) ≡ Some (at, kind) → IsFirstUnmet (d ∷ ds) at kind = λ t. elim t as (λ v. d.met ≡ v → cond v (first_unmet ds) (Some (d.at, d.kind)) ≡ Some (at, kind) → IsFirstUnmet (d ∷ ds) at kind) [
      | true ↦ λ is h.
          let rest = is-first ds at kind h in
          record { before = d ∷ rest.before; after = rest.after; parts = ap (λ xs. d ∷ xs) rest.parts; met = (is, rest.met) }
      | false ↦ λ is h.
          let place = some-same (d.at, d.kind) (at, kind) h in
          let same : d.at ≡ at = ap (λ (x : ℕ × K). x.0) place in
          let kinds : d.kind ≡ kind = ap (λ (x : ℕ × K). x.1) place in
          let whole : d ≡ never at kind = ap (λ (t : Bool). record d { met = t }) is ∙ ap (λ (n : ℕ). record d { at = n; met = false }) same ∙ ap (λ (k : K). never at k) kinds in
          record { before = []; after = ds; parts = ap (λ x. x ∷ ds) whole; met = tt }
    ] in
    step d.met refl e

pub first-is : {K : Type 0} → (ds : List (Demand K)) (at : ℕ) (kind : K) → IsFirstUnmet ds at kind → first_unmet ds ≡ Some (at, kind)
first-is ds at kind f = ap first_unmet f.parts ∙ first_unmet-behind f.before (never at kind ∷ f.after) (none-unmet f.before f.met)
