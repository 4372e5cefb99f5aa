-- What a text spells and what its first fault is, against what is answered.
use Rattle.std.proofs.Common.{◌≡◌, ◌≢◌, ℕ, zero, suc, ◌+◌, ◌<◌, None, Ok, Err, List, [], ◌∷◌, map, Contains, length, get_or, refl, sym, ap, ◌∙◌, subst, inl, inr, arith}
use Rattle.std.proofs.lemmas.Bool.{cases_lt}
use Rattle.std.proofs.lemmas.List.{get_or-map, length-map}
use Rattle.aig_model.specs.WellFormed.{left_sides}
use Rattle.aig_model.specs.declared.parts.AndGate.{AndGate}
use Rattle.aig_model.specs.declared.parts.Parts.{Parts}
use Rattle.gate_order.specs.GateOrder.{DefineApart, IsGateOrder, IsCycle}
use Rattle.gate_order.specs.StandingGates.{StandInOrder}
use Rattle.text_words.specs.Text.{Rest, next_line, lines_of, after_lines, whole}
use Rattle.aig_ascii.specs.Sections.{number_at, gate_of, latch_of}
use Rattle.aig_ascii.specs.Aag.{layout_of, parts_in, demands, SpellsCircuit, HasCycle, IsFirstFault, IsFault, Answers}
use Rattle.aig_ascii.specs.ReadSections.{lines_before, IsGatePlace, IsOrderFault}
use Rattle.gate_order.specs.declared.order.fault.OrderFault.{OrderFault}
use Rattle.gate_order.specs.declared.order.fault.OrderFault.TheVariants as orders
use Rattle.aig_ascii.specs.FirstFaults.{first_unmet, Fails}
use Rattle.aig_ascii.specs.declared.fault.AagKind.{AagKind}
use Rattle.aig_ascii.specs.declared.fault.AagKind.TheVariants.{Cycle}
use Rattle.aig_ascii.specs.declared.fault.Fault.{Fault}
use Rattle.aig_ascii.specs.declared.fault.Fault.TheVariants as faults
use Rattle.gate_order.proofs.Depends.{depends_inside, order_or_cycle, one_cycle}
use Rattle.gate_order.proofs.OrderedGates.{one_order}
use Rattle.gate_order.proofs.Standing.{own_order}
use Rattle.aig_ascii.proofs.RightParts.{length-lines, length-items, text-apart}
use Rattle.aig_ascii.proofs.RightSections.{left_sides-lines}
use Rattle.aig_ascii.proofs.FirstFaults.{clash, one-unmet, all-met, none-unmet, is-first, first-is}

-- ---- a demand that isn't met

pub fault-unmet : (text : List ℕ) (e : Fault AagKind) → Fails e (first_unmet (demands text)) → IsFault text e
fault-unmet text (faults.At at kind) f = inl (is-first (demands text) at kind f)
fault-unmet text faults.OutOfMemory f = tt

pub no-circuit : (text : List ℕ) (e : Fault AagKind) (c : Parts) → Fails e (first_unmet (demands text)) → SpellsCircuit text c → Answers (Err e) (Ok c)
no-circuit text (faults.At at kind) c f s = absurd (clash (first_unmet (demands text)) (at, kind) f (none-unmet (demands text) s.right))
no-circuit text faults.OutOfMemory c f s = inr refl

pub this-fault : (text : List ℕ) (e : Fault AagKind) (at : ℕ) (kind : AagKind) → Fails e (first_unmet (demands text)) → IsFirstFault text at kind → Answers (Err e) (Err (faults.At at kind))
this-fault text (faults.At a k) at kind f (inl u) =
    inl (ap (λ (x : ℕ × AagKind). Err (faults.At x.0 x.1)) (one-unmet (first_unmet (demands text)) (a, k) (at, kind) f (first-is (demands text) at kind u)))
this-fault text (faults.At a k) at kind f (inr h) = absurd (clash (first_unmet (demands text)) (a, k) f (none-unmet (demands text) h.1.right))
this-fault text faults.OutOfMemory at kind f h = inr refl

-- ---- gates in order

pub circuit-spelled : (text : List ℕ) (gates : List AndGate) (c : Parts) → first_unmet (demands text) ≡ None → IsGateOrder (parts_in (layout_of text)).gates gates → c ≡ record (parts_in (layout_of text)) { gates = gates }
    → SpellsCircuit text c
circuit-spelled text gates c met order is = record { right = all-met (demands text) met; gates = gates; ordered = order; parts = is }

-- the parts that are read, whose gates stand in order
pub standing-spelled : (text : List ℕ) (parts c : Parts) → first_unmet (demands text) ≡ None → parts ≡ parts_in (layout_of text) → StandInOrder parts.gates → c ≡ parts → SpellsCircuit text c
standing-spelled text parts c met is stand same =
    let read = parts_in (layout_of text) in
    let order = own_order read.gates (subst (λ (x : Parts). StandInOrder x.gates) is stand) in
    circuit-spelled text read.gates c met order (same ∙ is)

pub one-circuit : (text : List ℕ) (c d : Parts) → DefineApart (parts_in (layout_of text)).gates → SpellsCircuit text c → SpellsCircuit text d → c ≡ d
one-circuit text c d apart s t =
    let same = one_order (parts_in (layout_of text)).gates apart s.gates t.gates s.ordered t.ordered in
    s.parts ∙ ap (λ (gs : List AndGate). record (parts_in (layout_of text)) { gates = gs }) same ∙ sym t.parts

pub no-fault : (text : List ℕ) (c : Parts) (at : ℕ) (kind : AagKind) → SpellsCircuit text c → IsFirstFault text at kind → ⊥
no-fault text c at kind s (inl u) = clash (first_unmet (demands text)) (at, kind) (first-is (demands text) at kind u) (none-unmet (demands text) s.right)
no-fault text c at kind s (inr h) = order_or_cycle (parts_in (layout_of text)).gates s.gates h.1.lhs s.ordered h.1.cycle

-- ---- gates that depend on themselves

pub after-sum : (m n : ℕ) (r : Rest) → after_lines (m + n) r ≡ after_lines n (after_lines m r)
after-sum zero n r = let e : 0 + n ≡ n = omega arith in ap (λ k. after_lines k r) e
after-sum (suc m) n r = let e : suc m + n ≡ suc (m + n) = omega arith in ap (λ k. after_lines k r) e ∙ after-sum m n (next_line r)

pub nth-line : (n k : ℕ) (r d : Rest) → k < n → get_or (lines_of n r) k d ≡ after_lines k r
nth-line zero k r d h = absurd (omega arith)
nth-line (suc n) zero r d h = refl
nth-line (suc n) (suc k) r d h = nth-line n k (next_line r) d (omega arith)

-- where the gates begin
gates-begin : (text : List ℕ) → after_lines (lines_before (parts_in (layout_of text))) (whole text) ≡ (layout_of text).gates
gates-begin text =
    let l = layout_of text in
    let s = l.sizes in
    let lits = λ (r : Rest). number_at r 0 in
    let start = whole text in
    let sum : lines_before (parts_in l) ≡ 1 + s.inputs + s.latches + s.outputs + s.bads + s.constraints = omega (
      arith,
      length-items lits s.inputs l.inputs,
      length-items latch_of s.latches l.latches,
      length-items lits s.outputs l.outputs,
      length-items lits s.bads l.bads,
      length-items lits s.constraints l.constraints,
    ) in
    ap (λ n. after_lines n start) sum
    ∙ after-sum (1 + s.inputs + s.latches + s.outputs + s.bads) s.constraints start
    ∙ ap (after_lines s.constraints) (after-sum (1 + s.inputs + s.latches + s.outputs) s.bads start
    ∙ ap (after_lines s.bads) (after-sum (1 + s.inputs + s.latches) s.outputs start
    ∙ ap (after_lines s.outputs) (after-sum (1 + s.inputs) s.latches start
    ∙ ap (after_lines s.latches) (after-sum 1 s.inputs start))))

-- the line of a gate
pub gate-line : (text : List ℕ) (lhs at : ℕ) → IsGatePlace text (parts_in (layout_of text)) lhs at
    → (line : Rest) × Contains (lines_of (layout_of text).sizes.gates (layout_of text).gates) line × (number_at line 0 ≡ lhs) × (at ≡ line.at)
gate-line text lhs at p =
    let l = layout_of text in
    let n = l.sizes.gates in
    let line = after_lines p.index l.gates in
    let within : p.index < n = omega (arith, length-items gate_of n l.gates, p.within) in
    let here : get_or (lines_of n l.gates) p.index line ≡ line = nth-line n p.index l.gates line within in
    let side : number_at line 0 ≡ lhs =
    ap (λ (r : Rest). number_at r 0) (sym here)
    ∙ sym (get_or-map (λ (r : Rest). number_at r 0) (lines_of n l.gates) p.index line 0 (omega (arith, length-lines n l.gates, within)))
    ∙ ap (λ xs. get_or xs p.index 0) (sym (left_sides-lines (lines_of n l.gates))) ∙ p.side in
    (line, (p.index, omega (arith, length-lines n l.gates, within), here), side, p.place ∙ ap (λ (r : Rest). r.at) (after-sum (lines_before (parts_in l)) p.index (whole text) ∙ ap (after_lines p.index) (gates-begin text)))

pub cycle-fault : (text : List ℕ) (lhs at : ℕ) → first_unmet (demands text) ≡ None → IsCycle (parts_in (layout_of text)).gates lhs → IsGatePlace text (parts_in (layout_of text)) lhs at → HasCycle text at
cycle-fault text lhs at met cycle place =
    let g = gate-line text lhs at place in
    record { right = all-met (demands text) met; lhs = lhs; cycle = cycle; line = g.0; stands = g.1; defines = g.2; place = g.3 }

-- two lines of one left side are one
one-line : (text : List ℕ) (x y : Rest) → DefineApart (parts_in (layout_of text)).gates → Contains (lines_of (layout_of text).sizes.gates (layout_of text).gates) x
    → Contains (lines_of (layout_of text).sizes.gates (layout_of text).gates) y → number_at x 0 ≡ number_at y 0 → x ≡ y
one-line text x y apart one two same =
    let lines = lines_of (layout_of text).sizes.gates (layout_of text).gates in
    let side : (k : ℕ) (z : Rest) → k < length lines → get_or lines k z ≡ z → get_or (left_sides (map gate_of lines)) k 0 ≡ number_at z 0 = λ k z h at.
    ap (λ xs. get_or xs k 0) (left_sides-lines lines) ∙ get_or-map (λ (r : Rest). number_at r 0) lines k z 0 h ∙ ap (λ (r : Rest). number_at r 0) at in
    let differ : (i j : ℕ) (p q : Rest) → i < j → j < length lines → get_or lines i p ≡ p → get_or lines j q ≡ q → number_at p 0 ≢ number_at q 0 = λ i j p q before inside at_i at_j equal.
    apart.apart i j 0 before (omega (arith, ap length (left_sides-lines lines), length-map lines (λ (r : Rest). number_at r 0)))
    (side i p (omega arith) at_i ∙ equal ∙ sym (side j q inside at_j)) in
    elim (cases_lt one.0 two.0) as (λ _. x ≡ y) [
      | inl before ↦ absurd (differ one.0 two.0 x y before two.1 one.2 two.2 same)
      | inr not_before ↦ elim (cases_lt two.0 one.0) as (λ _. x ≡ y) [
        | inl after ↦ absurd (differ two.0 one.0 y x after one.1 two.2 one.2 (sym same))
        | inr not_after ↦
            let index : one.0 ≡ two.0 = omega arith in
            sym one.2 ∙ get-same lines one.0 x y one.1 ∙ ap (λ k. get_or lines k y) index ∙ two.2
      ]
    ]
  where
    get-same : (xs : List Rest) (k : ℕ) (a b : Rest) → k < length xs → get_or xs k a ≡ get_or xs k b
    get-same [] k a b h = absurd (omega arith)
    get-same (z ∷ xs) zero a b h = refl
    get-same (z ∷ xs) (suc k) a b h = get-same xs k a b (omega arith)

-- no text has two first faults
pub one-fault : (text : List ℕ) (m n : ℕ) (j k : AagKind) → IsFirstFault text m j → IsFirstFault text n k → (m ≡ n) × (j ≡ k)
one-fault text m n j k (inl u) (inl v) =
    let same = one-unmet (first_unmet (demands text)) (m, j) (n, k) (first-is (demands text) m j u) (first-is (demands text) n k v) in
    (ap (λ (x : ℕ × AagKind). x.0) same, ap (λ (x : ℕ × AagKind). x.1) same)
one-fault text m n j k (inl u) (inr h) = absurd (clash (first_unmet (demands text)) (m, j) (first-is (demands text) m j u) (none-unmet (demands text) h.1.right))
one-fault text m n j k (inr g) (inl v) = absurd (clash (first_unmet (demands text)) (n, k) (first-is (demands text) n k v) (none-unmet (demands text) g.1.right))
one-fault text m n j k (inr g) (inr h) =
    let gates = (parts_in (layout_of text)).gates in
    let lhs = one_cycle gates g.1.lhs h.1.lhs g.1.cycle h.1.cycle in
    let apart = text-apart text (none-unmet (demands text) g.1.right) in
    let line = one-line text g.1.line h.1.line apart g.1.stands h.1.stands (g.1.defines ∙ lhs ∙ sym h.1.defines) in
    (g.1.place ∙ ap (λ (r : Rest). r.at) line ∙ sym h.1.place, g.0 ∙ sym h.0)

-- ---- what is answered where the gates have no order

-- the gate whose left side names the gates that depend on themselves
pub cycle-side : (gates : List AndGate) (lhs : ℕ) → IsCycle gates lhs → Contains (left_sides gates) lhs
cycle-side gates lhs c =
    let inside : Contains gates c.gate = elim c.depends.reached as (λ _. Contains gates c.gate) [
      | inl same ↦ subst (λ (g : AndGate). Contains gates g) (sym same) (depends_inside c.depends.cycle)
      | inr through ↦ depends_inside through
    ] in
    (inside.0, omega (arith, length-map gates (λ (g : AndGate). g.lhs), inside.1), get_or-map (λ (g : AndGate). g.lhs) gates inside.0 c.gate lhs inside.1 ∙ ap (λ (g : AndGate). g.lhs) inside.2 ∙ sym c.named)

abbrev pub CyclesOf : List AndGate → OrderFault → Type 0
CyclesOf gates fault = (lhs : ℕ) → fault ≡ orders.Cycle lhs → IsCycle gates lhs

pub order-fault : (text : List ℕ) (c : Parts) (fault : OrderFault) (e : Fault AagKind) → c ≡ parts_in (layout_of text) → first_unmet (demands text) ≡ None → CyclesOf c.gates fault → IsOrderFault text c fault e → IsFault text e
order-fault text c (orders.Cycle lhs) e is met cycles f =
    let cycle = subst (λ (x : Parts). IsCycle x.gates lhs) is (cycles lhs refl) in
    subst (λ (x : Fault AagKind). IsFault text x) (sym f.1) (inr (refl, cycle-fault text lhs f.0 met cycle (subst (λ (x : Parts). IsGatePlace text x lhs f.0) is f.2)))
order-fault text c orders.OutOfMemory e is met cycles f = subst (λ (x : Fault AagKind). IsFault text x) (sym f) tt

pub order-no-circuit : (text : List ℕ) (c d : Parts) (fault : OrderFault) (e : Fault AagKind) → c ≡ parts_in (layout_of text) → CyclesOf c.gates fault → IsOrderFault text c fault e → SpellsCircuit text d → Answers (Err e) (Ok d)
order-no-circuit text c d (orders.Cycle lhs) e is cycles f s =
    absurd (order_or_cycle (parts_in (layout_of text)).gates s.gates lhs s.ordered (subst (λ (x : Parts). IsCycle x.gates lhs) is (cycles lhs refl)))
order-no-circuit text c d orders.OutOfMemory e is cycles f s = inr (ap (λ (x : Fault AagKind). Err x) f)

pub order-this-fault : (text : List ℕ) (c : Parts) (fault : OrderFault) (e : Fault AagKind) (at : ℕ) (kind : AagKind) → c ≡ parts_in (layout_of text) → first_unmet (demands text) ≡ None
    → CyclesOf c.gates fault → IsOrderFault text c fault e → IsFirstFault text at kind → Answers (Err e) (Err (faults.At at kind))
order-this-fault text c (orders.Cycle lhs) e at kind is met cycles f g =
    let cycle = subst (λ (x : Parts). IsCycle x.gates lhs) is (cycles lhs refl) in
    let own : IsFirstFault text f.0 Cycle = inr (refl, cycle-fault text lhs f.0 met cycle (subst (λ (x : Parts). IsGatePlace text x lhs f.0) is f.2)) in
    let same = one-fault text f.0 at Cycle kind own g in
    inl (ap (λ (x : Fault AagKind). Err x) f.1 ∙ ap (λ n. Err (faults.At n Cycle)) same.0 ∙ ap (λ k. Err (faults.At at k)) same.1)
order-this-fault text c orders.OutOfMemory e at kind is met cycles f g = inr (ap (λ (x : Fault AagKind). Err x) f)
