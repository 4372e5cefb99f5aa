use Rattle.std.proofs.Common.{◌≡◌, ℕ, false, refl, sym, ◌∙◌, Option, Some, None}
use Rattle.std.specs.Prelude.{is_some}
use Rattle.report_check.specs.Known.{search_step}
use Rattle.report_check.proofs.Bounding.{first_found, steps_none}
use Rattle.report_check.proofs.bounds.first_step.Goals as goal

none_if : (o : Option ℕ) → false ≡ is_some o → o ≡ None
none_if None h = refl
none_if (Some t) h = absurd cc

pub returns-then-is_some : goal.returns-then-is_some
returns-then-is_some c =
    sym (first_found (search_step c.args.search) c.args.spents.now c.loop-block.block-index c.block-item.result c.search_step-step.result
    c.loop-block-test.true c.block-item.is c.loop-block.invariant c.search_step-step.ensures (sym c.if-is_some.ensures))

pub loop-block-preserved : goal.loop-block-preserved
loop-block-preserved c =
    steps_none (search_step c.args.search) c.args.spents.now c.loop-block.block-index c.block-item.result
    c.loop-block-test.true c.block-item.is c.loop-block.invariant (sym c.search_step-step.ensures ∙ none_if c.search_step-step.result c.if-is_some.ensures)
