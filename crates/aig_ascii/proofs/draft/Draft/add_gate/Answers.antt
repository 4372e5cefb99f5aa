use Rattle.std.proofs.Common.{◌≡◌, ◌||◌, eqb, [], ◌∷◌, ◌++◌, append_assoc, sym, ap, ◌∙◌, arith}
use Rattle.std.proofs.lemmas.List.{map-append, append-nil}
use Rattle.aig_model.specs.Literal.{var}
use Rattle.aig_model.specs.WellFormed.{latch_lits, left_sides}
use Rattle.aig_ascii.specs.Sections.{defines}
use Rattle.aig_ascii.proofs.Defined.{defines-more, marks-more}
use Rattle.aig_ascii.proofs.draft.Draft.add_gate.Goals as goal

pub invariant_of-self-2 : goal.invariant_of-self-2
invariant_of-self-2 c =
    let d = c.self.inside in
    let both = d.inputs ++ latch_lits d.latches in
    let lits : left_sides c.push.new.self ≡ (left_sides d.gates ++ c.args.gate.lhs ∷ []) ++ [] = ap left_sides c.in_ok-push.ensures.ok ∙ map-append _ d.gates (c.args.gate ∷ []) ∙ sym (append-nil (left_sides d.gates ++ c.args.gate.lhs ∷ [])) in (
      c.self.invariant.0,
      marks-more d.defined c.grow.new.bits c.set.new.self (d.inputs ++ (latch_lits d.latches ++ left_sides d.gates)) (d.inputs ++ (latch_lits d.latches ++ left_sides c.push.new.self)) c.args.gate.lhs c.var-place.result c.self.invariant.1
          c.grow.ensures.same c.var-place.ensures (omega (arith, c.in_ok-grow.ensures.reaches)) c.set.ensures
          (λ v. ap (λ xs. defines (d.inputs ++ (latch_lits d.latches ++ xs)) v) lits
          ∙ ap (λ xs. defines xs v) (sym (append_assoc d.inputs (latch_lits d.latches) ((left_sides d.gates ++ c.args.gate.lhs ∷ []) ++ [])))
          ∙ defines-more both (left_sides d.gates) [] c.args.gate.lhs v
          ∙ ap (λ xs. eqb (var c.args.gate.lhs) v || defines xs v) (ap (λ xs. both ++ xs) (append-nil (left_sides d.gates)) ∙ append_assoc d.inputs (latch_lits d.latches) (left_sides d.gates))),
    )
