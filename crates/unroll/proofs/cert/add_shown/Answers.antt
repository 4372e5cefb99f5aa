use Rattle.std.proofs.Common.{ℕ, List, sym, ap, ◌∙◌, subst, arith}
use Rattle.cnf_base.specs.Meaning.{IsWithin}
use Rattle.aig_model.specs.SignalList.{IsSignals}
use Rattle.aig_model.specs.declared.parts.Parts.{Parts}
use Rattle.unroll.specs.Queries.{goal_lits}
use Rattle.unroll.proofs.Within.{goal_within, signals_have_room}
use Rattle.unroll.proofs.cert.add_shown.Goals as goal

pub add_units-requires : goal.add_units-requires
add_units-requires c =
    let circuit = c.args.circuit.now in
    let sig = c.args.signals.now.lits in
    let n = c.args.formula.now.vars in
    let are : IsSignals circuit sig = subst (λ (p : Parts). IsSignals p sig) c.requires.signals c.lits.ensures.well_formed in
    let same = ap (λ (xs : List ℕ). goal_lits 0 xs c.args.goal) (c.as_slice.ensures ∙ c.lits.ensures.value) in
    subst (IsWithin n) (sym (c.deref.ensures.value ∙ (c.in_ok-shown.ensures ∙ same)))
    (goal_within n 0 sig c.args.goal (signals_have_room circuit n 0 sig are (omega (arith, c.requires.room))))
