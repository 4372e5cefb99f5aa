-- Gates that stand in their order already are their own order.
use Rattle.std.proofs.Common.{◌≡◌, ℕ, zero, suc, inl, inr, ◌⊎◌, ◌+◌, ◌-◌, ◌<◌, ◌≤◌, List, ◌∷◌, ◌++◌, length, get_or, arith, sym, ap, ◌∙◌, subst, refl, Contains}
use Rattle.std.proofs.lemmas.Bool.{cases_eq}
use Rattle.std.proofs.lemmas.List.{get_or_at, get_or_default, get_or-append-add, length-append}
use Rattle.std.proofs.lemmas.List.Elements.{Contains-append_cases}
use Rattle.std.proofs.lemmas.List.Sorted.{IsPermutation-refl}
use Rattle.aig_model.specs.Literal.{var}
use Rattle.aig_model.specs.declared.parts.AndGate.{AndGate}
use Rattle.gate_order.specs.GateOrder.{Uses, IsGateOrder}
use Rattle.gate_order.specs.SortedGates.{gate_at, no_gate}
use Rattle.gate_order.specs.StandingGates.{IsAboveInputs, StandInOrder, StandSoFar}

-- ---- they are their own order
module _ (gates : List AndGate) (stand : StandInOrder gates) (before later : List AndGate) (g : AndGate) (split : gates ≡ before ++ g ∷ later) where
  here : (d : AndGate) → get_or gates (length before) d ≡ g
  here d = ap (λ (l : List AndGate). get_or l (length before) d) split ∙ get_or_at before g later d (length before) refl

  size : length gates ≡ length before + length (g ∷ later)
  size = ap length split ∙ length-append before (g ∷ later)

  -- a gate from this one on is this one, or has a greater variable
  from_here : (k : ℕ) (h : AndGate) → k < length (g ∷ later) → get_or (g ∷ later) k h ≡ h → (g ≡ h) ⊎ (var g.lhs < var h.lhs)
  from_here zero h inside is = inl is
  from_here (suc k) h inside is =
      let there : get_or gates (length before + suc k) h ≡ h =
      ap (λ (l : List AndGate). get_or l (length before + suc k) h) split ∙ (get_or-append-add before (g ∷ later) (suc k) h ∙ is)
      in
      let rise = stand.rise (length before) (length before + suc k) h (omega arith) (omega (arith, inside, size)) in
      inr (omega (arith, rise, ap (λ (x : AndGate). var x.lhs) (here h), ap (λ (x : AndGate). var x.lhs) there))

  not_below : (h : AndGate) → Contains (g ∷ later) h → var g.lhs ≤ var h.lhs
  not_below h found =
      elim (from_here found.0 h found.1 found.2) [ inl e ↦ omega (arith, ap (λ (x : AndGate). var x.lhs) e) | inr after ↦ omega (arith, after) ]

  least_side : (h : AndGate) → Contains (g ∷ later) h → g.lhs ≤ h.lhs
  least_side h found =
      elim (from_here found.0 h found.1 found.2) [ inl e ↦ omega (arith, ap (λ (x : AndGate). x.lhs) e) | inr after ↦ omega (arith, after) ]

  above_here : IsAboveInputs g
  above_here = subst IsAboveInputs (here g) (stand.above (length before) g (omega (arith, size)))

  not_used : (h : AndGate) → Contains (g ∷ later) h → ¬ Uses g h
  not_used h found uses =
      elim uses [
        | inl left ↦ omega (arith, left, above_here.left, not_below h found)
        | inr right ↦ omega (arith, right, above_here.right, not_below h found)
      ]

  used_before : (h : AndGate) → Contains gates h → Uses g h → Contains before h
  used_before h inside uses =
      elim (Contains-append_cases before (g ∷ later) h (subst (λ (l : List AndGate). Contains l h) split inside)) [
        | inl early ↦ early
        | inr late ↦ absurd (not_used h late uses)
      ]

pub own_order : (gates : List AndGate) → StandInOrder gates → IsGateOrder gates gates
own_order gates stand = record {
  same = IsPermutation-refl gates;
  next = λ before later g split. record {
    ready = λ h inside uses. used_before gates stand before later g split h inside uses;
    least = λ h waits ready. least_side gates stand before later g split h waits;
  };
}

-- ---- seen one after another
pub none_so_far : (gates : List AndGate) → StandSoFar gates 0 0
none_so_far gates = record {
  rise = λ j k before inside. absurd (omega (arith, inside));
  above = λ k inside. absurd (omega (arith, inside));
  none = λ e. refl;
  last = λ k e. absurd (omega (arith, e));
}

pub one_more : (gates : List AndGate) (i before : ℕ) → StandSoFar gates i before → before < var (gate_at gates i).lhs → IsAboveInputs (gate_at gates i)
    → StandSoFar gates (i + 1) (var (gate_at gates i).lhs)
one_more gates i before so rises above = record {
  rise = λ j k less inside.
      elim (cases_eq k i) [
        | inl here ↦
            elim (cases_eq (j + 1) i) [
              | inl next ↦ omega (arith, rises, so.last j next, ap (λ n. var (gate_at gates n).lhs) here)
              | inr earlier ↦
                  omega (
                    arith,
                    rises,
                    so.rise j (i - 1) (omega (arith, less, here, earlier)) (omega (arith, less, here)),
                    so.last (i - 1) (omega (arith, less, here)),
                    ap (λ n. var (gate_at gates n).lhs) here,
                  )
            ]
        | inr earlier ↦ so.rise j k less (omega (arith, inside, earlier))
      ];
  above = λ k inside.
      elim (cases_eq k i) [
        | inl here ↦ subst (λ n. IsAboveInputs (gate_at gates n)) (sym here) above
        | inr earlier ↦ so.above k (omega (arith, inside, earlier))
      ];
  none = λ e. absurd (omega (arith, e));
  last = λ k e. let here : i ≡ k = omega (arith, e) in ap (λ n. var (gate_at gates n).lhs) here;
}

pub all_stand : (gates : List AndGate) (free : ℕ) → StandSoFar gates (length gates) free → StandInOrder gates
all_stand gates free so = record {
  rise = λ i j d before inside.
      let in_i : i < length gates = omega (arith, before, inside) in
      omega (
        arith,
        so.rise i j before inside,
        ap (λ (x : AndGate). var x.lhs) (get_or_default gates i d no_gate in_i),
        ap (λ (x : AndGate). var x.lhs) (get_or_default gates j d no_gate inside),
      );
  above = λ k d inside. subst IsAboveInputs (get_or_default gates k no_gate d inside) (so.above k inside);
}

-- a gate that isn't above the one before it, or not above its inputs
pub one_low : (gates : List AndGate) (i before : ℕ) → StandSoFar gates i before → i < length gates
    → ¬ ((before < var (gate_at gates i).lhs) × IsAboveInputs (gate_at gates i)) → ¬ StandInOrder gates
one_low gates i before so inside low stand =
    let above : IsAboveInputs (gate_at gates i) = stand.above i no_gate inside in
    elim (cases_eq i 0) [
      | inl none ↦ low (omega (arith, so.none none, above.left), above)
      | inr some ↦ low (omega (arith, so.last (i - 1) (omega (arith, some)), stand.rise (i - 1) i no_gate (omega (arith, some)) inside), above)
    ]
