use Rattle.std.proofs.Common.{ℕ, List, ◌∙◌, subst}
use Rattle.aig_model.specs.WellFormed.{latch_lits}
use Rattle.aig_model.specs.declared.parts.AndGate.{AndGate}
use Rattle.aig_model.specs.declared.parts.Latch.{Latch}
use Rattle.aig_eval.proofs.Sections.{assignable_inputs, assignable_latches, solvable_gates}
use Rattle.sim_lanes.specs.LaneValues.{AssignsLanes, SolvesLanes}
use Rattle.sim_lanes.proofs.LaneSteps.{filled_lanes, stays_blank}
use Rattle.sim_lanes.proofs.values.evaluate.Goals as goal

pub assign-requires-clause-lits : goal.assign-requires-clause-lits
assign-requires-clause-lits c = rw (c.requires.blank.size, c.as_slice.ensures, c.inputs.ensures) (assignable_inputs c.args.circuit.now c.is_well_formed.ensures)

pub assign_latches-requires-clause-lits : goal.assign_latches-requires-clause-lits
assign_latches-requires-clause-lits c =
    rw (c.assign.auto.values, c.requires.blank.size, c.as_slice-2.ensures, c.latches.ensures) (assignable_latches c.args.circuit.now c.is_well_formed.ensures)

pub solve-requires : goal.solve-requires
solve-requires c =
    rw (c.assign_latches.auto.values, c.assign.auto.values, c.requires.blank.size, c.as_slice-3.ensures, c.gates.ensures) (solvable_gates c.args.circuit.now c.is_well_formed.ensures)

pub returns-clause-steps : goal.returns-clause-steps
returns-clause-steps c =
    filled_lanes c.args.circuit.now c.args.state.now c.args.row.now c.args.values.now c.assign.new.values c.assign_latches.new.values c.solve.new.values
    c.is_well_formed.ensures c.requires.blank
    (subst (λ (ls : List ℕ). AssignsLanes ls c.args.row.now c.args.values.now c.assign.new.values) (c.as_slice.ensures ∙ c.inputs.ensures) c.assign.ensures)
    (subst (λ (ls : List Latch). AssignsLanes (latch_lits ls) c.args.state.now c.assign.new.values c.assign_latches.new.values) (c.as_slice-2.ensures ∙ c.latches.ensures) c.assign_latches.ensures)
    (subst (λ (gs : List AndGate). SolvesLanes gs c.assign_latches.new.values c.solve.new.values) (c.as_slice-3.ensures ∙ c.gates.ensures) c.solve.ensures)

pub returns-clause-blank : goal.returns-clause-blank
returns-clause-blank c =
    stays_blank c.args.circuit.now c.args.state.now c.args.row.now c.solve.new.values
    (c.solve.auto.values ∙ (c.assign_latches.auto.values ∙ (c.assign.auto.values ∙ c.requires.blank.size)))
    (filled_lanes c.args.circuit.now c.args.state.now c.args.row.now c.args.values.now c.assign.new.values c.assign_latches.new.values c.solve.new.values
    c.is_well_formed.ensures c.requires.blank
    (subst (λ (ls : List ℕ). AssignsLanes ls c.args.row.now c.args.values.now c.assign.new.values) (c.as_slice.ensures ∙ c.inputs.ensures) c.assign.ensures)
    (subst (λ (ls : List Latch). AssignsLanes (latch_lits ls) c.args.state.now c.assign.new.values c.assign_latches.new.values) (c.as_slice-2.ensures ∙ c.latches.ensures) c.assign_latches.ensures)
    (subst (λ (gs : List AndGate). SolvesLanes gs c.assign_latches.new.values c.solve.new.values) (c.as_slice-3.ensures ∙ c.gates.ensures) c.solve.ensures))
