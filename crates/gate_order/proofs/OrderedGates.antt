-- Gates in order: there is one order, and it makes a circuit.
use Rattle.std.proofs.Common.{◌≡◌, ◌≢◌, ℕ, zero, suc, inl, inr, ◌+◌, ◌%◌, ◌<◌, ◌≤◌, List, [], ◌∷◌, ◌++◌, map, length, get_or, take, drop, arith, sym, ap, ◌∙◌, subst, refl, All, AllPairs, Contains, length-take, length-drop}
use Rattle.std.specs.List.Sorted.{IsPermutation}
use Rattle.std.proofs.lemmas.Bool.{cases_lt}
use Rattle.std.proofs.lemmas.List.{get_or_at, get_or_append_left, get_or_default, get_or-map, length-map, length-append, take_all, take_more_same, get_or-drop, get_or-append-add}
use Rattle.std.proofs.lemmas.List.Sorted.{Contains-permutation, All-permutation, IsPermutation-sym, IsPermutation-map, IsPermutation-append_right, length_permutation}
use Rattle.std.proofs.lemmas.List.Elements.{Contains-append_cases, Contains-get_or, All-weaker}
use Rattle.std.proofs.lemmas.Option.{get_or_from_slice_get}
use Rattle.aig_model.specs.Literal.{var}
use Rattle.aig_model.specs.WellFormed.{left_sides, latch_lits, literals, latch_literals, next_lits, definers, defined, uses, IsOrdered, IsInRange, IsDefining, IsKnown, Exists, IsCircuit}
use Rattle.aig_model.specs.declared.parts.AndGate.{AndGate}
use Rattle.aig_model.specs.declared.parts.Parts.{Parts}
use Rattle.aig_model.specs.declared.parts.Named.{Named}
use Rattle.aig_model.specs.declared.parts.Place.{Place}
use Rattle.aig_model.specs.declared.parts.Place.TheVariants as places
use Rattle.aig_model.proofs.Elements.{items_split, All-right}
use Rattle.aig_model.proofs.GateOrder.{ordered_by_places}
use Rattle.gate_order.specs.GateOrder.{DefineApart, Uses, IsReady, IsGateOrder}
use Rattle.gate_order.specs.OrderLaws.{IsUnordered}
use Rattle.gate_order.specs.SortedGates.{no_gate, gate_at}
use Rattle.gate_order.proofs.Times.{apart-permutation, permutation-flat_map}
use Rattle.gate_order.proofs.Gates.{apart_again}

-- ---- gates whose left sides differ
side_at : (list : List AndGate) (i : ℕ) (g : AndGate) → i < length list → get_or list i g ≡ g → get_or (left_sides list) i 0 ≡ g.lhs
side_at list i g h at = get_or-map (λ (x : AndGate). x.lhs) list i g 0 h ∙ ap (λ (x : AndGate). x.lhs) at

module _ (list : List AndGate) (apart : AllPairs (λ l m. l ≢ m) (left_sides list)) where
  sides_differ : (i j : ℕ) (g h : AndGate) → i < j → j < length list → get_or list i g ≡ g → get_or list j h ≡ h → g.lhs ≢ h.lhs
  sides_differ i j g h before inside at_i at_j same =
      apart i j 0 before (omega (arith, length-map list (λ (x : AndGate). x.lhs)))
      (side_at list i g (omega arith) at_i ∙ (same ∙ sym (side_at list j h inside at_j)))

  pub one_gate : (g h : AndGate) → Contains list g → Contains list h → g.lhs ≡ h.lhs → g ≡ h
  one_gate g h one two same =
      elim (cases_lt one.0 two.0) [
        | inl before ↦ absurd (sides_differ one.0 two.0 g h before two.1 one.2 two.2 same)
        | inr not_before ↦ elim (cases_lt two.0 one.0) [
          | inl after ↦ absurd (sides_differ two.0 one.0 h g after one.1 two.2 one.2 (sym same))
          | inr not_after ↦
              let place : one.0 ≡ two.0 = omega arith in
              sym one.2 ∙ (get_or_default list one.0 g h one.1 ∙ (ap (λ i. get_or list i h) place ∙ two.2))
        ]
      ]

  pub not_twice : (before later : List AndGate) (g : AndGate) → list ≡ before ++ g ∷ later → ¬ Contains before g
  not_twice before later g is found =
      let at_i : get_or list found.0 g ≡ g = ap (λ (l : List AndGate). get_or l found.0 g) is ∙ (get_or_append_left before (g ∷ later) g found.0 found.1 ∙ found.2) in
      let at_j : get_or list (length before) g ≡ g = ap (λ (l : List AndGate). get_or l (length before) g) is ∙ get_or_at before g later g (length before) refl in
      let size : length list ≡ length before + length (g ∷ later) = ap length is ∙ length-append before (g ∷ later) in
      let inside : length before < length list = omega (arith, size) in
      sides_differ found.0 (length before) g g found.1 inside at_i at_j refl

sides_again : (gates ordered : List AndGate) → DefineApart gates → IsGateOrder gates ordered → AllPairs (λ l m. l ≢ m) (left_sides ordered)
sides_again gates ordered define order = (apart_again gates ordered order.same define).apart

-- ---- one order
module _ (gates : List AndGate) (define : DefineApart gates) where
  split_at : (list : List AndGate) (k : ℕ) → k < length list → list ≡ take k list ++ gate_at list k ∷ drop (k + 1) list
  split_at list k h = items_split list k (gate_at list k) h (get_or_default list k no_gate (gate_at list k) h)

  -- the next gate of one order is no later than that of another
  next_is_least : (one other : List AndGate) (k : ℕ) → IsGateOrder gates one → IsGateOrder gates other → k < length one → k < length other
      → take k one ≡ take k other → (gate_at one k).lhs ≤ (gate_at other k).lhs
  next_is_least one other k order_one order_other in_one in_other same =
      let g = gate_at other k in
      let split = split_at other k in_other in
      let inside : Contains gates g = Contains-permutation other gates g (IsPermutation-sym gates other order_other.same) (Contains-get_or other k no_gate in_other) in
      let found : Contains (take k one ++ gate_at one k ∷ drop (k + 1) one) g =
      subst (λ (l : List AndGate). Contains l g) (split_at one k in_one) (Contains-permutation gates one g order_one.same inside)
      in
      let ready : IsReady gates (take k one) g =
      subst (λ (p : List AndGate). IsReady gates p g) (sym same) (order_other.next (take k other) (drop (k + 1) other) g split).ready
      in
      elim (Contains-append_cases (take k one) (gate_at one k ∷ drop (k + 1) one) g found) [
        | inl before ↦
            absurd (not_twice other (sides_again gates other define order_other) (take k other) (drop (k + 1) other) g split
            (subst (λ (p : List AndGate). Contains p g) same before))
        | inr waits ↦ (order_one.next (take k one) (drop (k + 1) one) (gate_at one k) (split_at one k in_one)).least g waits ready
      ]

  module _ (one other : List AndGate) (order_one : IsGateOrder gates one) (order_other : IsGateOrder gates other) where
    same_size : length one ≡ length other
    same_size = length_permutation gates one order_one.same ∙ sym (length_permutation gates other order_other.same)

    fronts : (k : ℕ) → k ≤ length one → take k one ≡ take k other
    fronts zero h = refl
    fronts (suc k) h =
        let before : take k one ≡ take k other = fronts k (omega arith) in
        let in_one : k < length one = omega arith in
        let in_other : k < length other = omega (arith, same_size) in
        let le = next_is_least one other k order_one order_other in_one in_other before in
        let ge = next_is_least other one k order_other order_one in_other in_one (sym before) in
        let found : Contains one (gate_at other k) =
        Contains-permutation gates one (gate_at other k) order_one.same
        (Contains-permutation other gates (gate_at other k) (IsPermutation-sym gates other order_other.same) (Contains-get_or other k no_gate in_other))
        in
        let here : gate_at one k ≡ gate_at other k =
        one_gate one (sides_again gates one define order_one) (gate_at one k) (gate_at other k) (Contains-get_or one k no_gate in_one) found (omega (arith, le, ge))
        in
        let step : take (k + 1) one ≡ take (k + 1) other = take_more_same one other k no_gate in_one in_other before here in
        let next : k + 1 ≡ suc k = omega arith in
        subst (λ (n : ℕ). take n one ≡ take n other) next step

    pub one_order : one ≡ other
    one_order = sym (take_all (length one) one (omega arith)) ∙ (fronts (length one) (omega arith) ∙ take_all (length one) other (omega (arith, same_size)))

  -- ---- no gate uses its own or a later left side
  module _ (ordered : List AndGate) (order : IsGateOrder gates ordered) where
    late_use : (k : ℕ) (g : AndGate) → ordered ≡ take k ordered ++ g ∷ drop (k + 1) ordered → (lit : ℕ) → ((h : AndGate) → var lit ≡ var h.lhs → Uses g h)
        → ¬ Contains (map var (left_sides (drop k ordered))) (var lit)
    late_use k g split lit using_it found =
        let late = drop k ordered in
        let i = found.0 in
        let size : length (map var (left_sides late)) ≡ length late = length-map (left_sides late) var ∙ length-map late (λ (x : AndGate). x.lhs) in
        let in_late : i < length late = omega (arith, found.1, size) in
        let h = gate_at late i in
        let named : var lit ≡ var h.lhs =
        sym found.2
        ∙ (get_or-map var (left_sides late) i h.lhs (var lit) (omega (arith, in_late, length-map late (λ (x : AndGate). x.lhs)))
        ∙ ap var (get_or-map (λ (x : AndGate). x.lhs) late i no_gate h.lhs in_late))
        in
        let at_j : get_or ordered (k + i) h ≡ h = sym (get_or-drop k ordered i h) ∙ get_or_default late i h no_gate in_late in
        let inside : k + i < length ordered = omega (arith, in_late, length-drop k ordered) in
        let in_gates : Contains gates h = Contains-permutation ordered gates h (IsPermutation-sym gates ordered order.same) (k + i, inside, at_j) in
        let early = (order.next (take k ordered) (drop (k + 1) ordered) g split).ready h in_gates (using_it h named) in
        let first : early.0 < k = omega (arith, early.1, length-take k ordered) in
        let at_i : get_or ordered early.0 h ≡ h =
        ap (λ (l : List AndGate). get_or l early.0 h) split ∙ (get_or_append_left (take k ordered) (g ∷ drop (k + 1) ordered) h early.0 early.1 ∙ early.2)
        in
        sides_differ ordered (sides_again gates ordered define order) early.0 (k + i) h h (omega (arith, first)) inside at_i at_j refl

    pub ordered_gates : IsOrdered ordered
    ordered_gates =
        ordered_by_places ordered (λ k h m.
        let at : get_or ordered k m.gate ≡ m.gate = get_or_from_slice_get ordered k m.gate m.gate m.at in
        let split : ordered ≡ take k ordered ++ m.gate ∷ drop (k + 1) ordered = items_split ordered k m.gate h (sym at) in
        elim m.used [
          | inl left ↦ late_use k m.gate split m.gate.left (λ x e. inl e) left
          | inr right ↦ late_use k m.gate split m.gate.right (λ x e. inr e) right
        ])

-- ---- the circuit that they make
abbrev pub with_gates : Parts → List AndGate → Parts
with_gates c gates = record c { gates = gates }

names_stay : (c : Parts) (ordered : List AndGate) (place : Place) → Exists c place → Exists (with_gates c ordered) place
names_stay c ordered (places.Input k) h = h
names_stay c ordered (places.Latch k) h = h
names_stay c ordered (places.Output k) h = h
names_stay c ordered (places.Bad k) h = h
names_stay c ordered (places.Constraint k) h = h

apart_right : (R : ℕ → ℕ → Type 0) (xs ys : List ℕ) → AllPairs R (xs ++ ys) → AllPairs R ys
apart_right R xs ys apart i j d before inside =
    let first : get_or (xs ++ ys) (length xs + i) d ≡ get_or ys i d = get_or-append-add xs ys i d in
    let second : get_or (xs ++ ys) (length xs + j) d ≡ get_or ys j d = get_or-append-add xs ys j d in
    subst (λ (m : ℕ). R (get_or ys i d) m) second
    (subst (λ (m : ℕ). R m (get_or (xs ++ ys) (length xs + j) d)) first
    (apart (length xs + i) (length xs + j) d (omega arith) (omega (arith, inside, length-append xs ys))))

-- the left sides of gates among definers that differ
pub apart_from_defined : (c : Parts) → All IsDefining (definers c) → AllPairs (λ v w. v ≢ w) (defined c) → DefineApart c.gates
apart_from_defined c defining once =
    let sides = left_sides c.gates in
    let latches = latch_lits c.latches in
    let differ : AllPairs (λ l m. var l ≢ var m) (definers c) =
    λ i j d before inside same.
    once i j (var d) before (omega (arith, inside, length-map (definers c) var))
    (get_or-map var (definers c) i d (var d) (omega arith) ∙ (same ∙ sym (get_or-map var (definers c) j d (var d) inside)))
    in
    let sides_differ : AllPairs (λ l m. var l ≢ var m) sides = let R : ℕ → ℕ → Type 0 = λ l m. var l ≢ var m in apart_right R latches sides (apart_right R c.inputs (latches ++ sides) differ) in
    record {
      even = All-weaker IsDefining (λ lhs. lhs % 2 ≡ 0) (λ lhs is. is.even) sides (All-right IsDefining latches sides (All-right IsDefining c.inputs (latches ++ sides) defining));
      apart = λ i j d before inside same. sides_differ i j d before inside (ap var same);
    }

module _ (c : Parts) (ordered : List AndGate) (is : IsUnordered c) (order : IsGateOrder c.gates ordered) where
  literals_same : IsPermutation (literals c) (literals (with_gates c ordered))
  literals_same =
      let gates = permutation-flat_map (λ (g : AndGate). g.lhs ∷ g.left ∷ g.right ∷ []) c.gates ordered order.same in
      IsPermutation-append_right c.inputs _ _ (IsPermutation-append_right (latch_literals c.latches) _ _
      (IsPermutation-append_right c.outputs _ _ (IsPermutation-append_right c.bads _ _ (IsPermutation-append_right c.constraints _ _ gates))))

  definers_same : IsPermutation (definers c) (definers (with_gates c ordered))
  definers_same =
      IsPermutation-append_right c.inputs _ _ (IsPermutation-append_right (latch_lits c.latches) _ _ (IsPermutation-map (λ (g : AndGate). g.lhs) c.gates ordered order.same))

  uses_same : IsPermutation (uses c) (uses (with_gates c ordered))
  uses_same =
      let gates = permutation-flat_map (λ (g : AndGate). g.left ∷ g.right ∷ []) c.gates ordered order.same in
      IsPermutation-append_right (next_lits c.latches) _ _ (IsPermutation-append_right c.outputs _ _
      (IsPermutation-append_right c.bads _ _ (IsPermutation-append_right c.constraints _ _ gates)))

  defined_same : IsPermutation (defined c) (defined (with_gates c ordered))
  defined_same = IsPermutation-map var (definers c) (definers (with_gates c ordered)) definers_same

  gates_apart : DefineApart c.gates
  gates_apart = apart_from_defined c is.defining is.once

  pub ordered_parts : IsCircuit (with_gates c ordered)
  ordered_parts = record {
    sized = record {
      top = is.sized.top;
      inputs = is.sized.inputs;
      latches = is.sized.latches;
      outputs = is.sized.outputs;
      bads = is.sized.bads;
      constraints = is.sized.constraints;
      gates = omega (arith, is.sized.gates, length_permutation c.gates ordered order.same);
    };
    in_range = All-permutation (IsInRange c.top) (literals c) (literals (with_gates c ordered)) literals_same is.in_range;
    defining = All-permutation IsDefining (definers c) (definers (with_gates c ordered)) definers_same is.defining;
    once = apart-permutation (defined c) (defined (with_gates c ordered)) defined_same is.once;
    known = All-weaker (IsKnown c) (IsKnown (with_gates c ordered))
        (λ lit h. elim h [ inl constant ↦ inl constant | inr found ↦ inr (Contains-permutation (defined c) (defined (with_gates c ordered)) (var lit) defined_same found) ])
        (uses (with_gates c ordered)) (All-permutation (IsKnown c) (uses c) (uses (with_gates c ordered)) uses_same is.known);
    ordered = ordered_gates c.gates gates_apart ordered order;
    names = record {
      exist = All-weaker (λ (n : Named). Exists c n.place) (λ (n : Named). Exists (with_gates c ordered) n.place) (λ n h. names_stay c ordered n.place h) c.names is.names.exist;
      once = is.names.once;
      forms = is.names.forms;
    };
  }
