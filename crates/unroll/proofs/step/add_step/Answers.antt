use Rattle.std.proofs.Common.{◌≡◌, ℕ, List, All, sym, ap, ◌∙◌, subst, arith}
use Rattle.cnf_base.specs.Meaning.{CnfFormula}
use Rattle.aig_model.specs.declared.parts.AndGate.{AndGate}
use Rattle.unroll.specs.Building.{HasVar, HasLit, HasGate}
use Rattle.unroll.proofs.Room.{undefined_have_vars, constraints_have_lits, gates_have_lits}
use Rattle.unroll.proofs.step.add_step.Goals as goal

pub add_false-requires-2-clause-vars : goal.add_false-requires-2-clause-vars
add_false-requires-2-clause-vars c =
    let n = c.add_false.new.formula.vars in
    let same : n ≡ c.args.formula.now.vars = ap (λ (f : CnfFormula). f.vars) c.in_ok-add_false.ensures in
    subst (λ (vars : List ℕ). All (HasVar n c.args.before) vars) (sym c.requires.undefined)
    (undefined_have_vars c.args.circuit.now n c.args.before (omega arith))

pub add_gates-requires-clause-gates : goal.add_gates-requires-clause-gates
add_gates-requires-clause-gates c =
    let n = c.add_false-2.new.formula.vars in
    let same : n ≡ c.args.formula.now.vars =
    ap (λ (f : CnfFormula). f.vars) c.in_ok-add_false-2.ensures ∙ ap (λ (f : CnfFormula). f.vars) c.in_ok-add_false.ensures
    in
    subst (λ (gates : List AndGate). All (HasGate n c.args.before) gates) (sym (c.as_slice.ensures ∙ c.gates.ensures))
    (gates_have_lits c.args.circuit.now n c.args.before c.is_well_formed.ensures (omega arith))

pub add_true-requires-clause-lits : goal.add_true-requires-clause-lits
add_true-requires-clause-lits c =
    let n = c.add_gates.new.formula.vars in
    let same : n ≡ c.args.formula.now.vars =
    ap (λ (f : CnfFormula). f.vars) c.in_ok-add_gates.ensures
    ∙ (ap (λ (f : CnfFormula). f.vars) c.in_ok-add_false-2.ensures ∙ ap (λ (f : CnfFormula). f.vars) c.in_ok-add_false.ensures)
    in
    subst (λ (lits : List ℕ). All (HasLit n c.args.before) lits) (sym (c.as_slice-2.ensures ∙ c.constraints.ensures))
    (constraints_have_lits c.args.circuit.now n c.args.before c.is_well_formed.ensures (omega arith))
