-- At most one assignment fits a circuit, a state and a row of inputs.
use Rattle.std.proofs.Common.{◌≡◌, ℕ, ◌%◌, inl, inr, Bool, false, not, ◌&&◌, if◌then◌else◌, List, [], ◌∷◌, ◌++◌, map, get_or, refl, sym, ap, ◌∙◌, All, Contains}
use Rattle.std.proofs.lemmas.Bool.{cases_eq}
use Rattle.std.proofs.lemmas.List.{ext_get_or, map-append}
use Rattle.std.proofs.lemmas.List.Elements.{All-head, All-tail, Contains-append_cases}
use Rattle.aig_model.specs.Literal.{var, is_negated, value_of}
use Rattle.aig_model.specs.WellFormed.{IsCircuit, IsDefining, IsOrdered, defined, left_sides, latch_lits}
use Rattle.aig_model.specs.Meaning.{Assignment, IsStep, IsConjunction}
use Rattle.aig_model.specs.Laws.{OneAssignment}
use Rattle.aig_model.specs.declared.parts.AndGate.{AndGate}
use Rattle.aig_model.specs.declared.parts.Parts.{Parts}
use Rattle.aig_model.proofs.Elements.{Contains-nil, Contains-cons_cases, Contains-or_not, All-left, All-right}

-- ---- two assignments that agree at a variable
abbrev Agree : Assignment → Assignment → ℕ → Type 0
Agree a b v = get_or a v false ≡ get_or b v false

value_agrees : (a b : Assignment) (lit : ℕ) → Agree a b (var lit) → value_of a lit ≡ value_of b lit
value_agrees a b lit h = ap (λ x. if is_negated lit then not x else x) h

-- an even literal has the value of its variable
value_of-even : (a : Assignment) (lit : ℕ) → lit % 2 ≡ 0 → value_of a lit ≡ get_or a (var lit) false
value_of-even a lit even = rw even refl

agrees_by_even : (a b : Assignment) (lit : ℕ) → lit % 2 ≡ 0 → value_of a lit ≡ value_of b lit → Agree a b (var lit)
agrees_by_even a b lit even same = sym (value_of-even a lit even) ∙ (same ∙ value_of-even b lit even)

-- where the values of defining literals agree, their variables do
agrees_by_values : (lits : List ℕ) (a b : Assignment) → All IsDefining lits → map (value_of a) lits ≡ map (value_of b) lits
    → (v : ℕ) → Contains (map var lits) v → Agree a b v
agrees_by_values [] a b defining same v h = absurd (Contains-nil v h)
agrees_by_values (lit ∷ lits) a b defining same v h =
    let first : value_of a lit ≡ value_of b lit = cc in
    let rest : map (value_of a) lits ≡ map (value_of b) lits = cc in
    elim (Contains-cons_cases (var lit) v (map var lits) h) [
      | inl e ↦ rw (← e) (agrees_by_even a b lit (All-head IsDefining lit lits defining).even first)
      | inr later ↦ agrees_by_values lits a b (All-tail IsDefining lit lits defining) rest v later
    ]

-- where two assignments solve the gates, and agree outside the gates' left sides, they agree everywhere
gates_agree : (gates : List AndGate) (a b : Assignment) → All (IsConjunction a) gates → All (IsConjunction b) gates
    → All IsDefining (left_sides gates) → IsOrdered gates
    → ((v : ℕ) → (¬ Contains (map var (left_sides gates)) v) → Agree a b v) → (v : ℕ) → Agree a b v
gates_agree [] a b solved_a solved_b defining ordered outside v = outside v (Contains-nil v)
gates_agree (g ∷ gates) a b solved_a solved_b defining ordered outside v =
    let left = value_agrees a b g.left (outside (var g.left) ordered.0) in
    let right = value_agrees a b g.right (outside (var g.right) ordered.1) in
    let in_a : value_of a g.lhs ≡ (value_of a g.left && value_of a g.right) = All-head (IsConjunction a) g gates solved_a in
    let in_b : value_of b g.lhs ≡ (value_of b g.left && value_of b g.right) = All-head (IsConjunction b) g gates solved_b in
    let same : value_of a g.lhs ≡ value_of b g.lhs = in_a ∙ (rw (left, right) (sym in_b)) in
    let here = agrees_by_even a b g.lhs (All-head IsDefining g.lhs (left_sides gates) defining).even same in
    gates_agree gates a b
    (All-tail (IsConjunction a) g gates solved_a)
    (All-tail (IsConjunction b) g gates solved_b)
    (All-tail IsDefining g.lhs (left_sides gates) defining)
    ordered.2
    (λ w none. elim (cases_eq w (var g.lhs)) [
      | inl e ↦ rw e here
      | inr ne ↦ outside w (λ h. elim (Contains-cons_cases (var g.lhs) w (map var (left_sides gates)) h) [ inl e ↦ ne (sym e) | inr later ↦ none later ])
    ])
    v

-- outside the gates' left sides the state and the row decide
agree_outside_gates : (c : Parts) (s r : List Bool) (a b : Assignment) → IsCircuit c → IsStep c s r a → IsStep c s r b
    → (v : ℕ) → (¬ Contains (map var (left_sides c.gates)) v) → Agree a b v
agree_outside_gates c s r a b well step_a step_b v none =
    let inputs = All-left IsDefining c.inputs (latch_lits c.latches ++ left_sides c.gates) well.defining in
    let others = All-right IsDefining c.inputs (latch_lits c.latches ++ left_sides c.gates) well.defining in
    let latches = All-left IsDefining (latch_lits c.latches) (left_sides c.gates) others in
    elim (Contains-or_not (defined c) v) [
      | inr undefined ↦ step_a.fits.undefined v undefined ∙ sym (step_b.fits.undefined v undefined)
      | inl h ↦ elim (Contains-append_cases (map var c.inputs) (map var (latch_lits c.latches ++ left_sides c.gates)) v (rw map-append at h)) [
        | inl i ↦ agrees_by_values c.inputs a b inputs (step_a.row ∙ sym step_b.row) v i
        | inr o ↦ elim (Contains-append_cases (map var (latch_lits c.latches)) (map var (left_sides c.gates)) v (rw map-append at o)) [
          | inl l ↦ agrees_by_values (latch_lits c.latches) a b latches (step_a.state ∙ sym step_b.state) v l
          | inr g ↦ absurd (none g)
        ]
      ]
    ]

pub one_assignment_lem : OneAssignment
one_assignment_lem c s r a b well step_a step_b =
    let others = All-right IsDefining c.inputs (latch_lits c.latches ++ left_sides c.gates) well.defining in
    let gates = All-right IsDefining (latch_lits c.latches) (left_sides c.gates) others in
    let agree = gates_agree c.gates a b step_a.fits.gates step_b.fits.gates gates well.ordered (agree_outside_gates c s r a b well step_a step_b) in
    ext_get_or false a b (step_a.fits.size ∙ sym step_b.fits.size) (λ k h. agree k)
