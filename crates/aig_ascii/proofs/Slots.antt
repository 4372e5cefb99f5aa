-- Where it is kept which items have a name.
use Rattle.std.proofs.Common.{◌≡◌, ◌≢◌, ℕ, ◌<◌, Bool, true, false, ◌||◌, eqb, nat_lt, nat_eq, List, [], ◌∷◌, ◌++◌, length, get_or, refl, sym, ap, ◌∙◌, arith}
use Rattle.std.proofs.Math.ListN.{set}
use Rattle.std.proofs.lemmas.List.{get_or-set_same, get_or-set_other}
use Rattle.std.proofs.lemmas.Bool.Decides.{nat_tests}
use Rattle.aig_model.specs.declared.parts.Place.{Place}
use Rattle.aig_model.specs.declared.parts.Place.TheVariants as places
use Rattle.aig_model.specs.declared.parts.Named.{Named}
use Rattle.aig_ascii.specs.Symbols.{exists_in, same_place, is_named}
use Rattle.aig_ascii.specs.SymbolTables.{slot}
use Rattle.aig_ascii.specs.declared.header.Sizes.{Sizes}

pub below : (j k : ℕ) → nat_lt j k ≡ true → j < k
below j k e = grind (arith, nat_tests)

equal : (j k : ℕ) → j ≡ k → nat_eq j k ≡ true
equal j k e = grind (arith, nat_tests)

same : (j k : ℕ) → nat_eq j k ≡ true → j ≡ k
same j k e = grind (arith, nat_tests)

-- no two items have one slot
slot-apart : (s : Sizes) (p q : Place) → exists_in s p ≡ true → exists_in s q ≡ true → slot s p ≡ slot s q → same_place p q ≡ true
slot-apart s (places.Input j) (places.Input k) p q e = equal j k (omega arith)
slot-apart s (places.Input j) (places.Latch k) p q e = absurd (omega (arith, below j s.inputs p, below k s.latches q))
slot-apart s (places.Input j) (places.Output k) p q e = absurd (omega (arith, below j s.inputs p, below k s.outputs q))
slot-apart s (places.Input j) (places.Bad k) p q e = absurd (omega (arith, below j s.inputs p, below k s.bads q))
slot-apart s (places.Input j) (places.Constraint k) p q e = absurd (omega (arith, below j s.inputs p, below k s.constraints q))
slot-apart s (places.Latch j) (places.Input k) p q e = absurd (omega (arith, below j s.latches p, below k s.inputs q))
slot-apart s (places.Latch j) (places.Latch k) p q e = equal j k (omega arith)
slot-apart s (places.Latch j) (places.Output k) p q e = absurd (omega (arith, below j s.latches p, below k s.outputs q))
slot-apart s (places.Latch j) (places.Bad k) p q e = absurd (omega (arith, below j s.latches p, below k s.bads q))
slot-apart s (places.Latch j) (places.Constraint k) p q e = absurd (omega (arith, below j s.latches p, below k s.constraints q))
slot-apart s (places.Output j) (places.Input k) p q e = absurd (omega (arith, below j s.outputs p, below k s.inputs q))
slot-apart s (places.Output j) (places.Latch k) p q e = absurd (omega (arith, below j s.outputs p, below k s.latches q))
slot-apart s (places.Output j) (places.Output k) p q e = equal j k (omega arith)
slot-apart s (places.Output j) (places.Bad k) p q e = absurd (omega (arith, below j s.outputs p, below k s.bads q))
slot-apart s (places.Output j) (places.Constraint k) p q e = absurd (omega (arith, below j s.outputs p, below k s.constraints q))
slot-apart s (places.Bad j) (places.Input k) p q e = absurd (omega (arith, below j s.bads p, below k s.inputs q))
slot-apart s (places.Bad j) (places.Latch k) p q e = absurd (omega (arith, below j s.bads p, below k s.latches q))
slot-apart s (places.Bad j) (places.Output k) p q e = absurd (omega (arith, below j s.bads p, below k s.outputs q))
slot-apart s (places.Bad j) (places.Bad k) p q e = equal j k (omega arith)
slot-apart s (places.Bad j) (places.Constraint k) p q e = absurd (omega (arith, below j s.bads p, below k s.constraints q))
slot-apart s (places.Constraint j) (places.Input k) p q e = absurd (omega (arith, below j s.constraints p, below k s.inputs q))
slot-apart s (places.Constraint j) (places.Latch k) p q e = absurd (omega (arith, below j s.constraints p, below k s.latches q))
slot-apart s (places.Constraint j) (places.Output k) p q e = absurd (omega (arith, below j s.constraints p, below k s.outputs q))
slot-apart s (places.Constraint j) (places.Bad k) p q e = absurd (omega (arith, below j s.constraints p, below k s.bads q))
slot-apart s (places.Constraint j) (places.Constraint k) p q e = equal j k (omega arith)

slot-same : (s : Sizes) (p q : Place) → same_place p q ≡ true → slot s p ≡ slot s q
slot-same s (places.Input j) (places.Input k) e = let at : j ≡ k = same j k e in omega arith
slot-same s (places.Input j) (places.Latch k) e = cc
slot-same s (places.Input j) (places.Output k) e = cc
slot-same s (places.Input j) (places.Bad k) e = cc
slot-same s (places.Input j) (places.Constraint k) e = cc
slot-same s (places.Latch j) (places.Input k) e = cc
slot-same s (places.Latch j) (places.Latch k) e = let at : j ≡ k = same j k e in omega arith
slot-same s (places.Latch j) (places.Output k) e = cc
slot-same s (places.Latch j) (places.Bad k) e = cc
slot-same s (places.Latch j) (places.Constraint k) e = cc
slot-same s (places.Output j) (places.Input k) e = cc
slot-same s (places.Output j) (places.Latch k) e = cc
slot-same s (places.Output j) (places.Output k) e = let at : j ≡ k = same j k e in omega arith
slot-same s (places.Output j) (places.Bad k) e = cc
slot-same s (places.Output j) (places.Constraint k) e = cc
slot-same s (places.Bad j) (places.Input k) e = cc
slot-same s (places.Bad j) (places.Latch k) e = cc
slot-same s (places.Bad j) (places.Output k) e = cc
slot-same s (places.Bad j) (places.Bad k) e = let at : j ≡ k = same j k e in omega arith
slot-same s (places.Bad j) (places.Constraint k) e = cc
slot-same s (places.Constraint j) (places.Input k) e = cc
slot-same s (places.Constraint j) (places.Latch k) e = cc
slot-same s (places.Constraint j) (places.Output k) e = cc
slot-same s (places.Constraint j) (places.Bad k) e = cc
slot-same s (places.Constraint j) (places.Constraint k) e = let at : j ≡ k = same j k e in omega arith

pub is_named-push : (names : List Named) (n : Named) (p : Place) → is_named (names ++ n ∷ []) p ≡ (is_named names p || same_place n.place p)
is_named-push [] n p = let step : (t : Bool) → (t || false) ≡ t = λ t. elim t as (λ v. (v || false) ≡ v) [ true ↦ refl | false ↦ refl ] in step (same_place n.place p)
is_named-push (m ∷ names) n p =
    let step : (t a b : Bool) → (t || (a || b)) ≡ ((t || a) || b) = λ t a b. elim t as (λ v. (v || (a || b)) ≡ ((v || a) || b)) [ true ↦ refl | false ↦ refl ] in
    ap (λ t. same_place m.place p || t) (is_named-push names n p) ∙ step (same_place m.place p) (is_named names p) (same_place n.place p)

-- one more name
pub taken-more : (s : Sizes) (taken new : List Bool) (names : List Named) (n : Named) (k : ℕ) → ((p : Place) → exists_in s p ≡ true → get_or taken (slot s p) false ≡ is_named names p) → exists_in s n.place ≡ true
    → k ≡ slot s n.place → k < length taken → new ≡ set taken k true → (p : Place) → exists_in s p ≡ true → get_or new (slot s p) false ≡ is_named (names ++ n ∷ []) p
taken-more s taken new names n k kept here at within is p there =
    let i = slot s p in
    let after : (t : Bool) → same_place n.place p ≡ t → is_named (names ++ n ∷ []) p ≡ (is_named names p || t) = λ t e. is_named-push names n p ∙ ap (λ v. is_named names p || v) e in
    let yes : (a : Bool) → (a || true) ≡ true = λ a. elim a as (λ v. (v || true) ≡ true) [ true ↦ refl | false ↦ refl ] in
    let no : (a : Bool) → (a || false) ≡ a = λ a. elim a as (λ v. (v || false) ≡ v) [ true ↦ refl | false ↦ refl ] in
    let different : (t : Bool) → k ≢ i → same_place n.place p ≡ t → t ≡ false = λ t apart. elim t as (λ v. same_place n.place p ≡ v → v ≡ false) [
      | true ↦ λ e. absurd (apart (at ∙ slot-same s n.place p e))
      | false ↦ λ e. refl
    ] in
    let step : (t : Bool) → eqb k i ≡ t → get_or (set taken k true) i false ≡ is_named (names ++ n ∷ []) p = λ t. elim t as (λ v. eqb k i ≡ v → get_or (set taken k true) i false ≡ is_named (names ++ n ∷ []) p) [
      | true ↦ λ e.
          let one : k ≡ i = grind (arith, nat_tests, e) in
          ap (λ j. get_or (set taken k true) j false) (sym one) ∙ get_or-set_same taken k true false within
          ∙ sym (after true (slot-apart s n.place p here there (sym at ∙ one)) ∙ yes (is_named names p))
      | false ↦ λ e.
          let other : k ≢ i = λ q. grind (arith, nat_tests, e) in
          get_or-set_other taken k i true false (λ q. other (sym q)) ∙ kept p there ∙ sym (after false (different (same_place n.place p) other refl) ∙ no (is_named names p))
    ] in
    ap (λ xs. get_or xs i false) is ∙ step (eqb k i) refl
