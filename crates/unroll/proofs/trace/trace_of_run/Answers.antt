use Rattle.std.proofs.Common.{◌+◌, ◌<◌, ℕ, List, All, sym, ◌∙◌, subst}
use Rattle.aig_model.specs.Literal.{var}
use Rattle.unroll.proofs.Rows.{latches_inside, inputs_inside}
use Rattle.unroll.proofs.trace.trace_of_run.Goals as goal

pub trace_by_lits-requires-clause-latches : goal.trace_by_lits-requires-clause-latches
trace_by_lits-requires-clause-latches c =
    let w = c.top.result + 1 in
    let inside = latches_inside c.args.circuit.now c.is_well_formed.ensures in
    let lits = subst (λ (ls : List ℕ). All (λ lit. var lit < c.args.circuit.now.top + 1) ls) (sym (c.deref.ensures.value ∙ c.in_ok-latches.ensures)) inside in
    subst (λ n. All (λ lit. var lit < n + 1) c.deref.result.now) (sym c.top.ensures.value) lits

pub trace_by_lits-requires-clause-inputs : goal.trace_by_lits-requires-clause-inputs
trace_by_lits-requires-clause-inputs c =
    let inside = inputs_inside c.args.circuit.now c.is_well_formed.ensures in
    let lits = subst (λ (ls : List ℕ). All (λ lit. var lit < c.args.circuit.now.top + 1) ls) (sym (c.as_slice-inputs.ensures ∙ c.inputs.ensures)) inside in
    subst (λ n. All (λ lit. var lit < n + 1) c.as_slice-inputs.result.now) (sym c.top.ensures.value) lits
