-- The front of an assignment that fits the goal circuit fits the circuit.
use Rattle.std.proofs.Common.{◌≡◌, ℕ, ◌+◌, ◌≤◌, inl, inr, false, List, map, take, length, sym, ◌∙◌, subst, arith, Contains}
use Rattle.std.proofs.lemmas.Bool.{cases_lt}
use Rattle.std.proofs.lemmas.List.{get_or-take, get_or_past, length-take-le}
use Rattle.std.proofs.lemmas.List.Elements.{Contains-append_cases}
use Rattle.aig_model.specs.Literal.{var}
use Rattle.aig_model.specs.WellFormed.{IsCircuit, defined, left_sides}
use Rattle.aig_model.specs.SignalList.{IsSignals}
use Rattle.aig_model.specs.Meaning.{Assignment, Fits, IsConjunction}
use Rattle.aig_model.specs.declared.parts.Parts.{Parts}
use Rattle.aig_model.proofs.Elements.{All-left}
use Rattle.goal_circuit.specs.GoalCircuit.{goal_gates, goal_parts}
use Rattle.goal_circuit.proofs.Agreement.{Agree, gates_same}
use Rattle.goal_circuit.proofs.Appended.{AreAppended, appended_within}
use Rattle.goal_circuit.proofs.Form.{goals_appended, defined-goal}

pub agree_front : (top : ℕ) (a : Assignment) → Agree top a (take (top + 1) a)
agree_front top a v le = sym (get_or-take (top + 1) a v false (omega arith))

-- a variable of the circuit that nothing defines is defined by no new gate
pub still_undefined : (c : Parts) (sig : List ℕ) (v : ℕ) → AreAppended c (c.top + 1) (goal_gates c sig) → v ≤ c.top → (¬ Contains (defined c) v)
    → ¬ Contains (defined (goal_parts c sig)) v
still_undefined c sig v new le none h =
    elim (Contains-append_cases (defined c) (map var (left_sides (goal_gates c sig))) v (subst (λ (xs : List ℕ). Contains xs v) (defined-goal c sig) h)) [
      | inl old ↦ none old
      | inr late ↦ omega (arith, (appended_within c (c.top + 1) (goal_gates c sig) v new late).0)
    ]

pub fit_restricts : (c : Parts) (sig : List ℕ) (a : Assignment) → IsCircuit c → IsSignals c sig → Fits (goal_parts c sig) a → Fits c (take (c.top + 1) a)
fit_restricts c sig a ok signals fits =
    let new = (goals_appended c sig signals.in_range).0 in
    let size : length (take (c.top + 1) a) ≡ c.top + 1 = length-take-le (c.top + 1) a (omega (arith, fits.size)) in
    record {
      size = size;
      constant = sym (agree_front c.top a 0 (omega arith)) ∙ fits.constant;
      undefined = λ v none. elim (cases_lt v (c.top + 1)) [
        | inl below ↦ sym (agree_front c.top a v (omega arith)) ∙ fits.undefined v (still_undefined c sig v new (omega arith) none)
        | inr past ↦ get_or_past (take (c.top + 1) a) v false (omega (arith, size))
      ];
      gates = gates_same c a (take (c.top + 1) a) ok (agree_front c.top a) (All-left (IsConjunction a) c.gates (goal_gates c sig) fits.gates);
    }
