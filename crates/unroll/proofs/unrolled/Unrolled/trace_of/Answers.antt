use Rattle.std.proofs.Common.{ℕ, ◌<◌, List, All, sym, ◌∙◌, subst}
use Rattle.aig_model.specs.Literal.{var}
use Rattle.aig_model.specs.WellFormed.{latch_lits}
use Rattle.unroll.proofs.Rows.{latches_inside, inputs_inside}
use Rattle.unroll.proofs.unrolled.Unrolled.trace_of.Goals as goal

pub trace_by_lits-requires-clause-latches : goal.trace_by_lits-requires-clause-latches
trace_by_lits-requires-clause-latches c =
    let kept = c.self.invariant in
    let circuit = c.self.inside.circuit.value in
    let inside = subst (λ n. All (λ lit. var lit < n) (latch_lits circuit.latches)) (sym kept.width_is) (latches_inside circuit kept.circuit) in
    subst (λ (ls : List ℕ). All (λ lit. var lit < c.self.inside.width) ls) (sym (c.deref.ensures.value ∙ kept.latches_are)) inside

pub trace_by_lits-requires-clause-inputs : goal.trace_by_lits-requires-clause-inputs
trace_by_lits-requires-clause-inputs c =
    let kept = c.self.invariant in
    let circuit = c.self.inside.circuit.value in
    let inside = subst (λ n. All (λ lit. var lit < n) circuit.inputs) (sym kept.width_is) (inputs_inside circuit kept.circuit) in
    subst (λ (ls : List ℕ). All (λ lit. var lit < c.self.inside.width) ls) (sym (c.deref-2.ensures.value ∙ kept.inputs_are)) inside
