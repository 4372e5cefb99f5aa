-- The items of a section, one after another: the first condition that fails at one of them.
use Rattle.std.proofs.Common.{◌≡◌, ℕ, ◌+◌, ◌<◌, ◌≤◌, List, length, get_or, sym, ap, ◌∙◌, subst, arith, inl, inr, Some, slice_get}
use Rattle.std.proofs.lemmas.Bool.{cases_eq}
use Rattle.std.proofs.lemmas.Option.{same_Some, slice_get-get_or, slice_get_within}
use Rattle.report_check.specs.declared.fault.CheckKind.{CheckKind}
use Rattle.report_check.specs.Order.{IsFirstKind, IsFirstIn}

-- the items before this place have what each is to have
abbrev pub HoldsBelow : {X : Type 0} → (ℕ → X → Type 0) → List X → ℕ → Type 0
HoldsBelow {X} P xs place = (k : ℕ) (x : X) → k < place → slice_get xs k ≡ Some x → P k x

pub none_below : {X : Type 0} (P : ℕ → X → Type 0) (xs : List X) → HoldsBelow P xs 0
none_below P xs k x lt at = absurd (omega arith)

pub item_at : {X : Type 0} (xs items : List X) (place : ℕ) (d : X) → items ≡ xs → place < length items → slice_get xs place ≡ Some (get_or items place d)
item_at {X} xs items place d same inside = ap (λ (l : List X). slice_get l place) (sym same) ∙ slice_get-get_or items place d inside

pub more_below : {X : Type 0} (P : ℕ → X → Type 0) (xs : List X) (place : ℕ) (x : X) → slice_get xs place ≡ Some x → HoldsBelow P xs place → P place x → HoldsBelow P xs (place + 1)
more_below {X} P xs place x here below holds k y lt at =
    elim (cases_eq k place) [
      | inl last ↦ (
          let read : slice_get xs place ≡ Some y = subst (λ (n : ℕ). slice_get xs n ≡ Some y) last at in
          let is : x ≡ y = same_Some x y (sym here ∙ read) in
          subst (λ (n : ℕ). P n y) (sym last) (subst (λ (z : X). P place z) is holds)
          )
      | inr other ↦ below k y (omega (arith, other, lt)) at
    ]

pub all_below : {X : Type 0} (P : ℕ → X → Type 0) (xs : List X) (place : ℕ) → length xs ≤ place → HoldsBelow P xs place → (k : ℕ) (x : X) → slice_get xs k ≡ Some x → P k x
all_below P xs place done below k x at = below k x (omega (arith, slice_get_within xs k x at, done)) at

-- the condition of this kind fails at an item, all before it hold there, and all hold at the items before
pub first_in : {X : Type 0} (P : ℕ → X → CheckKind → Type 0) (xs : List X) (place : ℕ) (x : X) (kind : CheckKind) → slice_get xs place ≡ Some x
    → HoldsBelow (λ k y. (q : CheckKind) → P k y q) xs place → IsFirstKind (P place x) kind
    → IsFirstIn (λ k q. (y : X) → slice_get xs k ≡ Some y → P k y q) place kind
first_in {X} P xs place x kind here below first = record {
  fails = λ meets. first.fails (meets x here);
  places = λ k q lt y at. below k y lt at q;
  before = λ q lt y at. subst (λ (z : X). P place z q) (same_Some x y (sym here ∙ at)) (first.before q lt);
}
