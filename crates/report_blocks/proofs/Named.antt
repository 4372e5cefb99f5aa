-- Lines whose first word names the kind of what follows.
use Rattle.std.proofs.Common.{◌≡◌, ◌⊎◌, inl, inr, Bool, true, false, cond, Option, Some, ◌∷◌, refl, sym, ap, ◌∙◌, subst}
use Rattle.std.specs.Prelude.{bytes_eq}
use Rattle.std.specs.Option.{option_map}
use Rattle.std.proofs.lemmas.Slice.Eq.{bytes_eq-Decides}
use Rattle.report_lines.specs.Words.{Word, Line, whole_line}
use Rattle.report_sections.proofs.Parses.{IsParse, mapped-some, whole-tells, whole-back}

-- a choice by a word
pub cond-or : {A : Type 0} (w name : Word) (a o : Option A) (x : A) → cond (bytes_eq w name) a o ≡ Some x → ((w ≡ name) × (a ≡ Some x)) ⊎ (o ≡ Some x)
cond-or {A} w name a o x e =
    let G : Type 0 = ((w ≡ name) × (a ≡ Some x)) ⊎ (o ≡ Some x) in
    let step : (t : Bool) → (t ≡ true → w ≡ name) → cond t a o ≡ Some x → G = λ t. elim t as (λ s. (s ≡ true → w ≡ name) → cond s a o ≡ Some x → G) [
      | true ↦ λ h g. inl (h refl, g)
      | false ↦ λ h g. inr g
    ] in
    step (bytes_eq w name) (bytes_eq-Decides w name).0 e

-- the words of a value that fits
abbrev pub Told : {B : Type 0} → (B → Type 0) → (B → Line) → B → Line → Type 0
Told G words b ws = G b × (words b ≡ ws)

-- a name, and a line that tells a value of another shape
pub named-tells : {A B : Type 0} {F : A → Type 0} {v : A → Line} {p : Line → Option (A × Line)} (G : B → Type 0) (words : B → Line) (w name : Word) → IsParse F v p → (make : A → B)
    → ((a : A) → F a → Told G words (make a) (name ∷ v a)) → (ws : Line) (b : B) → (w ≡ name) × (option_map make (whole_line p ws) ≡ Some b) → Told G words b (w ∷ ws)
named-tells {A} {B} {F} {v} {p} G words w name good make fits ws b e =
    let made = mapped-some make (whole_line p ws) b e.1 in
    let told = whole-tells good ws made.0 made.1 in
    let to = fits made.0 told.0 in
    let line : words (make made.0) ≡ w ∷ ws = to.1 ∙ (ap (λ (r : Line). name ∷ r) told.1 ∙ ap (λ (n : Word). n ∷ ws) (sym e.0)) in
    subst (λ (c : B). Told G words c (w ∷ ws)) made.2 (to.0, line)

pub named-back : {A B : Type 0} {F : A → Type 0} {v : A → Line} {p : Line → Option (A × Line)} → IsParse F v p → (make : A → B) (a : A) → F a → option_map make (whole_line p (v a)) ≡ Some (make a)
named-back good make a f = ap (option_map make) (whole-back good a f)
