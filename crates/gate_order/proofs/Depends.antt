-- Gates that depend on one another, and orders in which none does before its time.
use Rattle.std.proofs.Common.{◌≡◌, ℕ, zero, suc, inl, inr, ◌+◌, ◌<◌, List, ◌∷◌, ◌++◌, length, take, drop, arith, sym, ap, ◌∙◌, subst, refl, Contains, length-take, append_assoc}
use Rattle.std.specs.List.Sorted.{IsPermutation}
use Rattle.std.proofs.lemmas.List.Sorted.{Contains-permutation, IsPermutation-sym, IsPermutation-trans}
use Rattle.std.proofs.lemmas.List.Elements.{Contains-append_left}
use Rattle.aig_model.specs.declared.parts.AndGate.{AndGate}
use Rattle.aig_model.proofs.Elements.{items_split}
use Rattle.gate_order.specs.GateOrder.{IsReady, IsGateOrder, DependsOn, IsAcyclic, DependsOnCycle, IsCycle}
use Rattle.gate_order.specs.GateOrder.DependsOn.{Directly, Through}

pub depends_inside : {gates : List AndGate} {g h : AndGate} → DependsOn gates g h → Contains gates g
depends_inside (Directly inside _ _) = inside
depends_inside (Through inside _ _) = inside

pub depends_trans : {gates : List AndGate} {g k h : AndGate} → DependsOn gates g k → DependsOn gates k h → DependsOn gates g h
depends_trans (Directly inside _ uses) more = Through inside uses more
depends_trans (Through inside uses rest) more = Through inside uses (depends_trans rest more)

-- the same gates in another order
pub depends_again : {gates : List AndGate} (other : List AndGate) → ((x : AndGate) → Contains gates x → Contains other x) → {g h : AndGate} → DependsOn gates g h → DependsOn other g h
depends_again other within (Directly inside also uses) = Directly (within _ inside) (within _ also) uses
depends_again other within (Through inside uses rest) = Through (within _ inside) uses (depends_again other within rest)

cycle_again : {gates : List AndGate} (other : List AndGate) → ((x : AndGate) → Contains gates x → Contains other x) → {g : AndGate} → DependsOnCycle gates g → DependsOnCycle other g
cycle_again other within is = record {
  on = is.on;
  cycle = depends_again other within is.cycle;
  reached = elim is.reached [ inl e ↦ inl e | inr depends ↦ inr (depends_again other within depends) ];
}

-- ---- gates that are placed after all that they use
abbrev pub IsPlacedInOrder : List AndGate → List AndGate → Type 0
IsPlacedInOrder gates placed = (before later : List AndGate) (g : AndGate) → placed ≡ before ++ g ∷ later → IsReady gates before g

-- a list round an item that it contains
record Parted (list : List AndGate) (g : AndGate) : Type 0 where
  before : List AndGate
  later : List AndGate
  is : list ≡ before ++ g ∷ later
  shorter : length before < length list

parted : (list : List AndGate) (g : AndGate) → Contains list g → Parted list g
parted list g found = record {
  before = take found.0 list;
  later = drop (found.0 + 1) list;
  is = items_split list found.0 g found.1 (sym found.2);
  shorter = omega (arith, length-take found.0 list, found.1);
}

module _ (gates placed : List AndGate) (in_order : IsPlacedInOrder gates placed) where
  -- what a gate depends on stands before it
  depends_before : {g h : AndGate} → DependsOn gates g h → (before later : List AndGate) → placed ≡ before ++ g ∷ later → Contains before h
  depends_before (Directly _ also uses) before later is = in_order before later _ is _ also uses
  depends_before {g} {h} (Through {k = k} inside uses rest) before later is =
      let part = parted before k (in_order before later g is k (depends_inside rest) uses) in
      let split : placed ≡ part.before ++ k ∷ (part.later ++ g ∷ later) = is ∙ (ap (λ (b : List AndGate). b ++ g ∷ later) part.is ∙ append_assoc part.before (k ∷ part.later) (g ∷ later)) in
      subst (λ (b : List AndGate). Contains b h) (sym part.is)
      (Contains-append_left part.before (k ∷ part.later) h (depends_before rest part.before (part.later ++ g ∷ later) split))

  no_cycle_below : (n : ℕ) (g : AndGate) (before later : List AndGate) → length before < n → DependsOn gates g g → placed ≡ before ++ g ∷ later → ⊥
  no_cycle_below zero g before later small cycle is = omega (arith, small)
  no_cycle_below (suc n) g before later small cycle is =
      let part = parted before g (depends_before cycle before later is) in
      let split : placed ≡ part.before ++ g ∷ (part.later ++ g ∷ later) = is ∙ (ap (λ (b : List AndGate). b ++ g ∷ later) part.is ∙ append_assoc part.before (g ∷ part.later) (g ∷ later)) in
      no_cycle_below n g part.before (part.later ++ g ∷ later) (omega (arith, small, part.shorter)) cycle split

  no_cycle_placed : (g : AndGate) → DependsOn gates g g → ¬ Contains placed g
  no_cycle_placed g cycle found = let part = parted placed g found in no_cycle_below (suc (length part.before)) g part.before part.later (omega arith) cycle part.is

  -- a placed gate depends on no gate that depends on itself
  pub placed_on_no_cycle : (g : AndGate) → DependsOnCycle gates g → ¬ Contains placed g
  placed_on_no_cycle g is found =
      elim is.reached [
        | inl e ↦ no_cycle_placed is.on is.cycle (subst (Contains placed) e found)
        | inr depends ↦
            let part = parted placed g found in
            no_cycle_placed is.on is.cycle
            (subst (λ (ps : List AndGate). Contains ps is.on) (sym part.is) (Contains-append_left part.before (g ∷ part.later) is.on (depends_before depends part.before part.later part.is)))
      ]

-- ---- orders and cycles
pub acyclic_from_order : (gates ordered : List AndGate) → IsGateOrder gates ordered → IsAcyclic gates
acyclic_from_order gates ordered order g cycle =
    placed_on_no_cycle gates ordered (λ before later h is. (order.next before later h is).ready) g (record { on = g; cycle = cycle; reached = inl refl })
    (Contains-permutation gates ordered g order.same (depends_inside cycle))

pub order_or_cycle : (gates ordered : List AndGate) (lhs : ℕ) → IsGateOrder gates ordered → IsCycle gates lhs → ⊥
order_or_cycle gates ordered lhs order is = acyclic_from_order gates ordered order is.depends.on is.depends.cycle

pub one_cycle : (gates : List AndGate) (lhs other : ℕ) → IsCycle gates lhs → IsCycle gates other → lhs ≡ other
one_cycle gates lhs other one two = omega (arith, one.least two.gate two.depends, two.least one.gate one.depends, one.named, two.named)

pub order_again : (gates other ordered : List AndGate) → IsPermutation gates other → IsGateOrder other ordered → IsGateOrder gates ordered
order_again gates other ordered same order =
    let within = λ (x : AndGate) (h : Contains gates x). Contains-permutation gates other x same h in
    let back = λ (x : AndGate) (h : Contains other x). Contains-permutation other gates x (IsPermutation-sym gates other same) h in
    record {
      same = IsPermutation-trans gates other ordered same order.same;
      next = λ placed later g is.
          let next = order.next placed later g is in
          record {
            ready = λ h inside uses. next.ready h (within h inside) uses;
            least = λ h waits ready. next.least h waits (λ k inside uses. ready k (back k inside) uses);
          };
    }

pub is_cycle_again : (gates other : List AndGate) (lhs : ℕ) → IsPermutation gates other → IsCycle other lhs → IsCycle gates lhs
is_cycle_again gates other lhs same is =
    let within = λ (x : AndGate) (h : Contains gates x). Contains-permutation gates other x same h in
    let back = λ (x : AndGate) (h : Contains other x). Contains-permutation other gates x (IsPermutation-sym gates other same) h in
    record {
      gate = is.gate;
      depends = cycle_again gates back is.depends;
      named = is.named;
      least = λ h depends. is.least h (cycle_again other within depends);
    }
