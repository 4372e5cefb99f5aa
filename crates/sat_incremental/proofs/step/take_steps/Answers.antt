use Rattle.std.proofs.Common.{ℕ, Option, refl, sym, subst}
use Rattle.cnf_base.specs.Meaning.{IsWithin}
use Rattle.sat_incremental.specs.declared.step.End.{End}
use Rattle.sat_incremental.specs.Searching.{StepIs}
use Rattle.sat_incremental.proofs.Growth.{continues_same, continues_then}
use Rattle.sat_incremental.proofs.step.take_steps.Goals as goal

pub steps-init : goal.steps-init
steps-init c = record { query = c.requires.query; in_range = c.requires.in_range; continues = continues_same _ _ refl refl refl refl }

pub steps-preserved : goal.steps-preserved
steps-preserved c =
    let P : ℕ → Type 0 = λ n. IsWithin n c.args.assumptions.now in
    let e = c.in_ok-end.ensures in
    record {
      query = e.query;
      in_range = subst P (sym e.continues.vars) c.steps.invariant.in_range;
      continues = continues_then _ _ _ c.steps.invariant.continues e.continues;
    }

pub returns-in-Some-clause-continues : goal.returns-in-Some-clause-continues
returns-in-Some-clause-continues c = continues_then _ _ _ c.steps.invariant.continues c.in_ok-end.ensures.continues
