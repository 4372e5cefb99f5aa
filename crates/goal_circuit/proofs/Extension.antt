-- An assignment that fits the circuit is extended, gate by gate, to one that fits the goal circuit.
use Rattle.std.proofs.Common.{◌≡◌, ℕ, ◌+◌, ◌%◌, ◌<◌, inl, inr, Bool, false, not, ◌&&◌, nat_eq, if◌then◌else◌, List, [], ◌∷◌, ◌++◌, map, take, length, get_or, refl, sym, ap, ◌∙◌, subst, arith, All, Contains, length-append}
use Rattle.std.proofs.lemmas.Bool.{cases_lt}
use Rattle.std.proofs.lemmas.List.{ext_get_or, get_or-take, get_or_past, get_or_append_left, get_or_push, length-take-le}
use Rattle.std.proofs.lemmas.List.Elements.{All-nil, All-cons, All-append, Contains-append_left, Contains-append_right}
use Rattle.aig_model.specs.Literal.{var, value_of}
use Rattle.aig_model.specs.WellFormed.{IsCircuit, defined, left_sides}
use Rattle.aig_model.specs.SignalList.{IsSignals}
use Rattle.aig_model.specs.Meaning.{Assignment, Fits, IsConjunction}
use Rattle.aig_model.specs.declared.parts.AndGate.{AndGate}
use Rattle.aig_model.specs.declared.parts.Parts.{Parts}
use Rattle.goal_circuit.specs.GoalCircuit.{goal_gates, goal_parts}
use Rattle.goal_circuit.proofs.Agreement.{Agree, gates_same}
use Rattle.goal_circuit.proofs.Appended.{AreAppended, usable_below, appended_contain}
use Rattle.goal_circuit.proofs.Form.{goals_appended, defined-goal}
use Rattle.goal_circuit.proofs.Values.{value_by}

abbrev solved_value : Assignment → AndGate → Bool
solved_value a g = value_of a g.left && value_of a g.right

-- the values of these gates, one after another, at the end
abbrev pub extended : List AndGate → Assignment → Assignment
extended [] a = a
extended (g ∷ gates) a = extended gates (a ++ solved_value a g ∷ [])

pub length-extended : (gates : List AndGate) (a : Assignment) → length (extended gates a) ≡ length a + length gates
length-extended [] a = omega arith
length-extended (g ∷ gates) a = omega (arith, length-extended gates (a ++ solved_value a g ∷ []), length-append a (solved_value a g ∷ []))

pub extended_keeps : (gates : List AndGate) (a : Assignment) (v : ℕ) → v < length a → get_or (extended gates a) v false ≡ get_or a v false
extended_keeps [] a v inside = refl
extended_keeps (g ∷ gates) a v inside =
    extended_keeps gates (a ++ solved_value a g ∷ []) v (omega (arith, length-append a (solved_value a g ∷ [])))
    ∙ get_or_append_left a (solved_value a g ∷ []) false v inside

value_keeps : (gates : List AndGate) (a : Assignment) (lit : ℕ) → var lit < length a → value_of (extended gates a) lit ≡ value_of a lit
value_keeps gates a lit inside = ap (λ x. if nat_eq (lit % 2) 1 then not x else x) (extended_keeps gates a (var lit) inside)

-- the first of the gates is solved
first_solved : (c : Parts) (g : AndGate) (gates : List AndGate) (a : Assignment) → c.top < length a → AreAppended c (length a) (g ∷ gates)
    → IsConjunction (extended (g ∷ gates) a) g
first_solved c g gates a above new =
    let longer = a ++ solved_value a g ∷ [] in
    let room : length a < length longer = omega (arith, length-append a (solved_value a g ∷ [])) in
    let lhs : value_of (extended (g ∷ gates) a) g.lhs ≡ get_or (extended (g ∷ gates) a) (length a) false =
    value_by (extended (g ∷ gates) a) g.lhs (length a) 0 (omega (arith, new.0)) (omega (arith, new.0))
    in
    let here : get_or longer (length a) false ≡ solved_value a g = get_or_push a (solved_value a g) false (length a) refl in
    let left = value_keeps (g ∷ gates) a g.left (usable_below c (length a) g.left above new.1) in
    let right = value_keeps (g ∷ gates) a g.right (usable_below c (length a) g.right above new.2) in
    lhs ∙ (extended_keeps gates longer (length a) room ∙ (here
    ∙ (ap (λ x. x && value_of a g.right) (sym left) ∙ ap (λ x. value_of (extended (g ∷ gates) a) g.left && x) (sym right))))

pub extended_solved : (c : Parts) (gates : List AndGate) (a : Assignment) → c.top < length a → AreAppended c (length a) gates
    → All (IsConjunction (extended gates a)) gates
extended_solved c [] a above new = All-nil (IsConjunction a)
extended_solved c (g ∷ gates) a above new =
    let longer = a ++ solved_value a g ∷ [] in
    let e : length a + 1 ≡ length longer = omega (arith, length-append a (solved_value a g ∷ [])) in
    All-cons (IsConjunction (extended (g ∷ gates) a)) g gates (first_solved c g gates a above new)
    (extended_solved c gates longer (omega arith) (subst (λ n. AreAppended c n gates) e new.3))

pub agree_extended : (c : Parts) (gates : List AndGate) (a : Assignment) → length a ≡ c.top + 1 → Agree c.top a (extended gates a)
agree_extended c gates a size v le = sym (extended_keeps gates a v (omega (arith, size)))

pub fit_extended : (c : Parts) (sig : List ℕ) (a : Assignment) → IsCircuit c → IsSignals c sig → Fits c a → Fits (goal_parts c sig) (extended (goal_gates c sig) a)
fit_extended c sig a ok signals fits =
    let gates = goal_gates c sig in
    let whole = extended gates a in
    let new : AreAppended c (length a) gates = subst (λ n. AreAppended c n gates) (sym fits.size) (goals_appended c sig signals.in_range).0 in
    let size : length whole ≡ c.top + length gates + 1 = omega (arith, length-extended gates a, fits.size) in
    record {
      size = size;
      constant = extended_keeps gates a 0 (omega (arith, fits.size)) ∙ fits.constant;
      undefined = λ v none. elim (cases_lt v (c.top + 1)) [
        | inl below ↦
            extended_keeps gates a v (omega (arith, fits.size))
            ∙ fits.undefined v (λ h. none (subst (λ (xs : List ℕ). Contains xs v) (sym (defined-goal c sig)) (Contains-append_left (defined c) (map var (left_sides gates)) v h)))
        | inr past ↦ elim (cases_lt v (length whole)) [
          | inl inside ↦ absurd (none (subst (λ (xs : List ℕ). Contains xs v) (sym (defined-goal c sig)) (Contains-append_right (defined c) (map var (left_sides gates)) v
              (appended_contain c (length a) gates v new (omega (arith, fits.size)) (omega (arith, length-extended gates a))))))
          | inr beyond ↦ get_or_past whole v false beyond
        ]
      ];
      gates = All-append (IsConjunction whole) c.gates gates (gates_same c a whole ok (agree_extended c gates a fits.size) fits.gates)
          (extended_solved c gates a (omega (arith, fits.size)) new);
    }

pub front_extended : (c : Parts) (gates : List AndGate) (a : Assignment) → length a ≡ c.top + 1 → take (c.top + 1) (extended gates a) ≡ a
front_extended c gates a size =
    let count : length (take (c.top + 1) (extended gates a)) ≡ c.top + 1 = length-take-le (c.top + 1) (extended gates a) (omega (arith, length-extended gates a)) in
    ext_get_or false (take (c.top + 1) (extended gates a)) a (omega (arith, count, size))
    (λ k h. get_or-take (c.top + 1) (extended gates a) k false (omega (arith, count)) ∙ extended_keeps gates a k (omega (arith, count, size)))

pub fit_extends : (c : Parts) (sig : List ℕ) (a : Assignment) → IsCircuit c → IsSignals c sig → Fits c a
    → (b : Assignment) × Fits (goal_parts c sig) b × (take (c.top + 1) b ≡ a)
fit_extends c sig a ok signals fits =
    (extended (goal_gates c sig) a, fit_extended c sig a ok signals fits, front_extended c (goal_gates c sig) a fits.size)
