-- Uses of gates on one side, listed one after another.
use Rattle.std.proofs.Common.{◌≡◌, ℕ, inl, inr, false, ◌+◌, ◌-◌, ◌<◌, min, not, nat_eq, List, [], ◌∷◌, ◌++◌, length, get_or, arith, sym, ap, ◌∙◌, subst}
use mir.Val.{bool_byte}
use Rattle.std.proofs.lemmas.Bool.{cases_eq}
use Rattle.std.proofs.lemmas.Bool.Decides.{nat_tests}
use Rattle.std.proofs.lemmas.List.{length_push, get_or_push, get_or_append_left, get_or_default}
use Rattle.aig_model.specs.Literal.{var}
use Rattle.aig_model.specs.declared.parts.AndGate.{AndGate}
use Rattle.gate_order.specs.declared.order.sorted.Side.{Side}
use Rattle.gate_order.specs.PlaceOrder.{waits_of}
use Rattle.gate_order.specs.UserLists.{AreWithin}
use Rattle.gate_order.specs.SortedGates.{gate_at, input, IsUseOf, AreUses}
use Rattle.gate_order.proofs.Times.{times-nil}

pub uses_more : (side : Side) (gates : List AndGate) (uses : List ℕ) (count named : ℕ) → AreUses side gates count uses
    → IsUseOf gates (var (input side (gate_at gates count))) named → AreUses side gates (count + 1) (uses ++ named ∷ [])
uses_more side gates uses count named are is = record {
  size = length_push uses named ∙ ap (λ n. n + 1) are.size;
  each = λ user h. elim (cases_eq user count) [
    | inl e ↦
        let P : ℕ → ℕ → Type 0 = λ u n. IsUseOf gates (var (input side (gate_at gates u))) n in
        let read : get_or (uses ++ named ∷ []) user 0 ≡ named = get_or_push uses named 0 user (are.size ∙ sym e) in
        subst (P user) (sym read) (subst (λ (u : ℕ). P u named) (sym e) is)
    | inr ne ↦
        subst (IsUseOf gates (var (input side (gate_at gates user)))) (sym (get_or_append_left uses (named ∷ []) 0 user (omega (arith, are.size, h, ne))))
        (are.each user (omega (arith, h, ne)))
  ];
}

-- ---- the counts at the start
byte_of_some : (n : ℕ) → bool_byte (not (nat_eq n 0)) ≡ min 1 n
byte_of_some n =
    elim (cases_eq n 0) [
      | inl e ↦ rw e
      | inr ne ↦ let no : nat_eq n 0 ≡ false = grind (arith, nat_tests) in ap (λ b. bool_byte (not b)) no ∙ omega arith
    ]

waits_at_start : (left right : List ℕ) (place : ℕ) → waits_of left right [] place ≡ min 1 (get_or left place 0) + min 1 (get_or right place 0)
waits_at_start left right place = omega (arith, times-nil (get_or left place 0 - 1), times-nil (get_or right place 0 - 1))

pub counts_more : (left right waits : List ℕ) (place first second : ℕ) → length waits ≡ place
    → ((k : ℕ) → k < place → get_or waits k 0 ≡ waits_of left right [] k)
    → first ≡ bool_byte (not (nat_eq (get_or left place 0) 0)) → second ≡ bool_byte (not (nat_eq (get_or right place 0) 0))
    → (k : ℕ) → k < place + 1 → get_or (waits ++ (first + second) ∷ []) k 0 ≡ waits_of left right [] k
counts_more left right waits place first second size counts is_first is_second k h =
    elim (cases_eq k place) [
      | inl e ↦
          get_or_push waits (first + second) 0 k (size ∙ sym e)
          ∙ (omega (arith, is_first, is_second, byte_of_some (get_or left place 0), byte_of_some (get_or right place 0))
          ∙ (sym (waits_at_start left right place) ∙ ap (waits_of left right []) (sym e)))
      | inr ne ↦ get_or_append_left waits ((first + second) ∷ []) 0 k (omega (arith, h, ne)) ∙ counts k (omega (arith, h, ne))
    ]

-- each use names a place of the list
pub uses_within : (side : Side) (gates : List AndGate) (uses : List ℕ) → AreUses side gates (length gates) uses → AreWithin uses
uses_within side gates uses are k d h =
    let inside : k < length gates = omega (arith, h, are.size) in
    let read : get_or uses k d ≡ get_or uses k 0 = get_or_default uses k d 0 h in
    elim (cases_eq (get_or uses k 0) 0) [
      | inl none ↦ omega (arith, read, none)
      | inr some ↦ omega (arith, read, are.size, ((are.each k inside).some (get_or uses k 0 - 1) (omega (arith, some))).inside)
    ]
