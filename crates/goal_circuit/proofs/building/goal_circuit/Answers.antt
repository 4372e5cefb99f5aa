use Rattle.std.proofs.Common.{◌≡◌, ℕ, ◌+◌, ◌-◌, ◌*◌, ◌≤◌, List, length, sym, ap, ◌∙◌, subst, arith}
use Rattle.aig_model.specs.WellFormed.{IsCircuit, limit}
use Rattle.aig_model.specs.SignalList.{IsSignals}
use Rattle.aig_model.specs.declared.parts.Parts.{Parts}
use Rattle.goal_circuit.specs.GoalCircuit.{goal_parts, goal_gates}
use Rattle.goal_circuit.proofs.Form.{goal_is_circuit, length-goal_gates, power_bounds, power_more}
use Rattle.goal_circuit.proofs.building.goal_circuit.Goals as goal

pub overflow_sub-top : goal.overflow_sub-top
overflow_sub-top c =
    let formed = c.lits-lits.ensures.well_formed in
    omega (arith, c.goals.ensures, (power_bounds (length c.args.signals.now.lits) formed.some formed.few).0)

pub goal_parts-requires-clause-top : goal.goal_parts-requires-clause-top
goal_parts-requires-clause-top c =
    let circuit = c.args.circuit.now in
    let same : c.as_slice.result.now ≡ c.args.signals.now.lits = c.as_slice.ensures ∙ c.lits-lits.ensures.value in
    subst (λ (sig : List ℕ). c.top.result + 2 * c.goals.result - 4 ≡ circuit.top + length (goal_gates circuit sig)) (sym same)
    (omega (arith, c.top.ensures.value, c.goals.ensures, length-goal_gates circuit c.args.signals.now.lits c.lits-lits.ensures.well_formed.some))

pub new-requires : goal.new-requires
new-requires c =
    let circuit = c.args.circuit.now in
    let sig = c.args.signals.now.lits in
    let same : c.as_slice.result.now ≡ sig = c.as_slice.ensures ∙ c.lits-lits.ensures.value in
    let signals : IsSignals circuit sig = subst (λ (k : Parts). IsSignals k sig) c.requires c.lits-lits.ensures.well_formed in
    let few : circuit.top + length (goal_gates circuit sig) ≤ limit =
    omega (arith, c.if-top-gt3999999.false, c.top.ensures.value, c.goals.ensures, length-goal_gates circuit sig signals.some)
    in
    subst IsCircuit (sym (c.in_ok-parts.ensures ∙ ap (goal_parts circuit) same)) (goal_is_circuit circuit sig c.top.ensures.well_formed signals few)

pub returns-clause-too_large : goal.returns-clause-too_large
returns-clause-too_large c = record {
  only = λ e. absurd (cc);
  comes = λ large. absurd (omega (arith, large, c.if-top-gt3999999.false, c.top.ensures.value, c.goals.ensures, power_more (length c.args.signals.now.lits)));
}
