use Rattle.std.proofs.Common.{◌≡◌, ℕ, subst, inl, inr, eqb-true, eq-eqb}
use Rattle.aig_model.specs.Replays.{Shows}
use Rattle.report_check.proofs.evidence.shows.Goals as goal

pub returns-in-Ok : goal.returns-in-Ok
returns-in-Ok c = (
  λ yes. subst (λ (g : ℕ). Shows c.args.circuit.now c.args.signals.now.lits c.args.witness.now g) (eqb-true c.in-Ok.shown c.args.goal yes) c.in-Ok.ensures.shows,
  λ shown. elim (c.in-Ok.ensures.shown c.args.goal shown) [
    | inl same ↦ eq-eqb c.in-Ok.shown c.args.goal (let is : c.in-Ok.shown ≡ c.args.goal = cc in is)
    | inr memory ↦ absurd cc
  ],
)

pub returns-in-Err-Shape : goal.returns-in-Err-Shape
returns-in-Err-Shape c = (
  λ never. absurd cc,
  λ shown. let is = c.in-Err-Shape.field-0-is in elim (c.in-Err-Shape.ensures.shown c.args.goal shown) [ inl same ↦ absurd cc | inr memory ↦ absurd cc ],
)

pub returns-in-Err-NotReset : goal.returns-in-Err-NotReset
returns-in-Err-NotReset c = (
  λ never. absurd cc,
  λ shown. let is = c.in-Err-NotReset.field-0-is in elim (c.in-Err-NotReset.ensures.shown c.args.goal shown) [ inl same ↦ absurd cc | inr memory ↦ absurd cc ],
)

pub returns-in-Err-Constraint : goal.returns-in-Err-Constraint
returns-in-Err-Constraint c = (
  λ never. absurd cc,
  λ shown. let is = c.in-Err-Constraint.field-0-is in elim (c.in-Err-Constraint.ensures.shown c.args.goal shown) [ inl same ↦ absurd cc | inr memory ↦ absurd cc ],
)
