-- Assignments that agree on the variables of a circuit.
use Rattle.std.proofs.Common.{◌≡◌, ℕ, ◌+◌, ◌*◌, ◌%◌, ◌≤◌, false, not, ◌&&◌, nat_eq, if◌then◌else◌, List, [], ◌∷◌, ◌++◌, map, get_or, refl, sym, ap, ◌∙◌, arith, All}
use Rattle.std.proofs.lemmas.List.Elements.{All-nil, All-cons, All-head, All-tail}
use Rattle.aig_model.specs.Literal.{var, value_of, number}
use Rattle.aig_model.specs.WellFormed.{IsCircuit, IsInRange, latch_lits, next_lits, left_sides, gate_inputs, gate_literals}
use Rattle.aig_model.specs.Meaning.{Assignment, IsConjunction, IsLegal, input_values, latch_values, next_values, goal_of}
use Rattle.aig_model.specs.declared.parts.AndGate.{AndGate}
use Rattle.aig_model.specs.declared.parts.Parts.{Parts}
use Rattle.aig_model.proofs.Elements.{All-left, All-right}
use Rattle.aig_model.proofs.Building.{sections, gates_in_range}

abbrev pub Agree : ℕ → Assignment → Assignment → Type 0
Agree top a b = (v : ℕ) → v ≤ top → get_or a v false ≡ get_or b v false

value_same : (top : ℕ) (a b : Assignment) (lit : ℕ) → Agree top a b → IsInRange top lit → value_of a lit ≡ value_of b lit
value_same top a b lit agree range = ap (λ x. if nat_eq (lit % 2) 1 then not x else x) (agree (var lit) (omega arith))

values_same : (top : ℕ) (a b : Assignment) (lits : List ℕ) → Agree top a b → All (IsInRange top) lits → map (value_of a) lits ≡ map (value_of b) lits
values_same top a b [] agree range = refl
values_same top a b (l ∷ lits) agree range =
    ap (λ x. x ∷ map (value_of a) lits) (value_same top a b l agree (All-head (IsInRange top) l lits range))
    ∙ ap (λ xs. value_of b l ∷ xs) (values_same top a b lits agree (All-tail (IsInRange top) l lits range))

pub goal_same : (top : ℕ) (a b : Assignment) (sig : List ℕ) → Agree top a b → All (IsInRange top) sig → goal_of sig a ≡ goal_of sig b
goal_same top a b [] agree range = refl
goal_same top a b (l ∷ sig) agree range =
    ap (λ x. number x + 2 * goal_of sig a) (value_same top a b l agree (All-head (IsInRange top) l sig range))
    ∙ ap (λ n. number (value_of b l) + 2 * n) (goal_same top a b sig agree (All-tail (IsInRange top) l sig range))

pub conjunctions_same : (top : ℕ) (a b : Assignment) (gates : List AndGate) → Agree top a b → All (IsInRange top) (gate_literals gates)
    → All (IsConjunction a) gates → All (IsConjunction b) gates
conjunctions_same top a b [] agree range solved = All-nil (IsConjunction b)
conjunctions_same top a b (g ∷ gates) agree range solved =
    let P = IsInRange top in
    let after_lhs : All P (g.left ∷ g.right ∷ gate_literals gates) = All-tail P g.lhs (g.left ∷ g.right ∷ gate_literals gates) range in
    let after_left : All P (g.right ∷ gate_literals gates) = All-tail P g.left (g.right ∷ gate_literals gates) after_lhs in
    let lhs = value_same top a b g.lhs agree (All-head P g.lhs (g.left ∷ g.right ∷ gate_literals gates) range) in
    let left = value_same top a b g.left agree (All-head P g.left (g.right ∷ gate_literals gates) after_lhs) in
    let right = value_same top a b g.right agree (All-head P g.right (gate_literals gates) after_left) in
    let here : value_of a g.lhs ≡ (value_of a g.left && value_of a g.right) = All-head (IsConjunction a) g gates solved in
    All-cons (IsConjunction b) g gates
    (sym lhs ∙ (here ∙ (ap (λ x. x && value_of a g.right) left ∙ ap (λ x. value_of b g.left && x) right)))
    (conjunctions_same top a b gates agree (All-tail P g.right (gate_literals gates) after_left) (All-tail (IsConjunction a) g gates solved))

-- ---- what a circuit's sections say
pub inputs_same : (c : Parts) (a b : Assignment) → IsCircuit c → Agree c.top a b → input_values c a ≡ input_values c b
inputs_same c a b ok agree =
    values_same c.top a b c.inputs agree (All-left (IsInRange c.top) c.inputs (latch_lits c.latches ++ left_sides c.gates) (sections (IsInRange c.top) c ok.in_range).0)

pub latches_same : (c : Parts) (a b : Assignment) → IsCircuit c → Agree c.top a b → latch_values c a ≡ latch_values c b
latches_same c a b ok agree =
    let P = IsInRange c.top in
    values_same c.top a b (latch_lits c.latches) agree
    (All-left P (latch_lits c.latches) (left_sides c.gates) (All-right P c.inputs (latch_lits c.latches ++ left_sides c.gates) (sections P c ok.in_range).0))

pub next_same : (c : Parts) (a b : Assignment) → IsCircuit c → Agree c.top a b → next_values c a ≡ next_values c b
next_same c a b ok agree =
    let P = IsInRange c.top in
    values_same c.top a b (next_lits c.latches) agree
    (All-left P (next_lits c.latches) (c.outputs ++ (c.bads ++ (c.constraints ++ gate_inputs c.gates))) (sections P c ok.in_range).1)

pub legal_same : (c : Parts) (a b : Assignment) → IsCircuit c → Agree c.top a b → IsLegal c a → IsLegal c b
legal_same c a b ok agree legal k d inside =
    let P = IsInRange c.top in
    let range : All P c.constraints =
    All-left P c.constraints (gate_inputs c.gates) (All-right P c.bads (c.constraints ++ gate_inputs c.gates)
    (All-right P c.outputs (c.bads ++ (c.constraints ++ gate_inputs c.gates))
    (All-right P (next_lits c.latches) (c.outputs ++ (c.bads ++ (c.constraints ++ gate_inputs c.gates))) (sections P c ok.in_range).1)))
    in
    sym (value_same c.top a b (get_or c.constraints k d) agree (range k d inside)) ∙ legal k d inside

pub gates_same : (c : Parts) (a b : Assignment) → IsCircuit c → Agree c.top a b → All (IsConjunction a) c.gates → All (IsConjunction b) c.gates
gates_same c a b ok agree solved = conjunctions_same c.top a b c.gates agree (gates_in_range (IsInRange c.top) c ok.in_range) solved
