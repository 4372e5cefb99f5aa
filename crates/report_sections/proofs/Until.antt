-- Words up to one that ends them.
use Rattle.std.proofs.Common.{◌≡◌, Bool, true, false, cond, Option, Some, List, [], ◌∷◌, ◌++◌, map, refl, sym, ap, ◌∙◌, subst, append_assoc}
use Rattle.std.specs.Prelude.{bytes_eq}
use Rattle.std.specs.List.{AllByRecursion}
use Rattle.std.proofs.lemmas.List.{append-nil}
use Rattle.std.proofs.lemmas.Slice.Eq.{bytes_eq-Decides}
use Rattle.report_lines.specs.Words.{Word, Line, ◌>>?◌, until}
use Rattle.report_sections.proofs.Parses.{IsField, IsParse, some-some, bind-some}

false-from : (t : Bool) → (t ≡ true → ⊥) → t ≡ false
false-from true h = absurd (h refl)
false-from false h = refl

pub words-differ : (v w : Word) → (v ≡ w → ⊥) → bytes_eq v w ≡ false
words-differ v w h = false-from (bytes_eq v w) (λ e. h ((bytes_eq-Decides v w).0 e))

-- the values that are read behind the values xs
pub record IsUntil {A : Type 0} (F : A → Type 0) (form : A → Word) (stop : Word) (xs ys : List A) (r ws : Line) : Type 0 where
  pub more : List A
  pub all : ys ≡ xs ++ more
  pub fits : AllByRecursion F more
  pub words : (map form more ++ stop ∷ []) ++ r ≡ ws

until-tells : {A : Type 0} (F : A → Type 0) (form : A → Word) (read : Word → Option A) (stop : Word) → IsField F form read → (ws : Line) (xs ys : List A) (r : Line) → until stop read xs ws ≡ Some (ys, r)
    → IsUntil F form stop xs ys r ws
until-tells F form read stop good [] xs ys r e = cc
until-tells {A} F form read stop good (w ∷ ws) xs ys r e =
    let after : A → Option (List A × Line) = λ x. until stop read (xs ++ x ∷ []) ws in
    let step : (t : Bool) → (t ≡ true → w ≡ stop) → cond t (Some (xs, ws)) (read w >>? after) ≡ Some (ys, r) → IsUntil F form stop xs ys r (w ∷ ws) = λ t. elim t as (λ s. (s ≡ true → w ≡ stop) → cond s (Some (xs, ws)) (read w >>? after) ≡ Some (ys, r) → IsUntil F form stop xs ys r (w ∷ ws)) [
      | true ↦ λ h g.
          let same = some-some (xs, ws) (ys, r) g in
          let first : w ≡ stop = h refl in
          let rest : ws ≡ r = ap (λ (p : List A × Line). p.1) same in
          let all : xs ≡ ys = ap (λ (p : List A × Line). p.0) same in
          record { more = []; all = sym all ∙ sym (append-nil xs); fits = tt; words = cc }
      | false ↦ λ h g.
          let first = bind-some (read w) after (ys, r) g in
          let told = good.tells w first.0 first.1 in
          let rest = until-tells F form read stop good ws (xs ++ first.0 ∷ []) ys r first.2 in
          let head : form first.0 ≡ w = told.1 in
          let tail : (map form rest.more ++ stop ∷ []) ++ r ≡ ws = rest.words in
          record { more = first.0 ∷ rest.more; all = rest.all ∙ append_assoc xs (first.0 ∷ []) rest.more; fits = (told.0, rest.fits); words = cc }
    ] in
    step (bytes_eq w stop) (bytes_eq-Decides w stop).0 e

until-back : {A : Type 0} (F : A → Type 0) (form : A → Word) (read : Word → Option A) (stop : Word) → IsField F form read → ((a : A) → F a → form a ≡ stop → ⊥) → (zs xs : List A) (r : Line) → AllByRecursion F zs
    → until stop read xs ((map form zs ++ stop ∷ []) ++ r) ≡ Some (xs ++ zs, r)
until-back {A} F form read stop good apart [] xs r f =
    ap (λ (t : Bool). cond t (Some (xs, r)) (read stop >>? λ x. until stop read (xs ++ x ∷ []) r)) ((bytes_eq-Decides stop stop).1 refl) ∙ ap (λ (l : List A). Some (l, r)) (sym (append-nil xs))
until-back {A} F form read stop good apart (z ∷ zs) xs r f =
    let ws = (map form zs ++ stop ∷ []) ++ r in
    let after : A → Option (List A × Line) = λ x. until stop read (xs ++ x ∷ []) ws in
    ap (λ (t : Bool). cond t (Some (xs, ws)) (read (form z) >>? after)) (words-differ (form z) stop (apart z f.0))
    ∙ (ap (λ (o : Option A). o >>? after) (good.back z f.0)
    ∙ (until-back F form read stop good apart zs (xs ++ z ∷ []) r f.1 ∙ ap (λ (l : List A). Some (l, r)) (append_assoc xs (z ∷ []) zs)))

pub until_parse : {A : Type 0} (F : A → Type 0) (form : A → Word) (read : Word → Option A) (stop : Word) → IsField F form read → ((a : A) → F a → form a ≡ stop → ⊥)
    → IsParse (λ (xs : List A). AllByRecursion F xs) (λ xs. map form xs ++ stop ∷ []) (until stop read [])
until_parse {A} F form read stop good apart = record {
  tells = λ ws ys r e.
      let told = until-tells F form read stop good ws [] ys r e in
      subst (λ (l : List A). AllByRecursion F l × ((map form l ++ stop ∷ []) ++ r ≡ ws)) (sym told.all) (told.fits, told.words);
  back = λ xs r f. until-back F form read stop good apart xs [] r f;
}

-- ---- values that pass a test
pub kept_field : {A : Type 0} (F G : A → Type 0) (form : A → Word) (read : Word → Option A) (test : A → Option A) → IsField F form read → ((a b : A) → F a → test a ≡ Some b → (a ≡ b) × G a) → ((a : A) → G a → F a × (test a ≡ Some a))
    → IsField G form (λ w. read w >>? test)
kept_field {A} F G form read test good passes back = record {
  tells = λ w a e.
      let first = bind-some (read w) test a e in
      let told = good.tells w first.0 first.1 in
      let kept = passes first.0 a told.0 first.2 in
      (subst G kept.0 kept.1, ap form (sym kept.0) ∙ told.1);
  back = λ a g.
      let from = back a g in
      ap (λ (o : Option A). o >>? test) (good.back a from.0) ∙ from.1;
}
