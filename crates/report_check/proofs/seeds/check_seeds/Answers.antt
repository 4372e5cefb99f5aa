use Rattle.std.proofs.Common.{◌≡◌, ◌≤◌, ℕ, List, length, refl, sym, ap, ◌∙◌, arith, Option, Some, slice_get}
use Rattle.std.specs.Prelude.{IfSome}
use Rattle.report_text.specs.declared.report.SeedLine.{SeedLine}
use Rattle.report_check.specs.Seeds.{IsSeed}
use Rattle.report_check.proofs.Items.{item_at, more_below}
use Rattle.report_check.proofs.Ways.{seeds_met, trace_first}
use Rattle.report_check.proofs.seeds.check_seeds.Goals as goal

pub returns-then-not-branch : goal.returns-then-not-branch
returns-then-not-branch c =
    let seeds = c.args.report.now.seeds in
    let batch = c.loop-batch.batch in
    let line = c.line-item.result in
    let at : slice_get seeds batch ≡ Some line =
    item_at seeds c.as_slice-line-items.result.now batch line c.as_slice-line-items.ensures c.loop-batch-test.true ∙ ap (λ (l : Option SeedLine). Some l) (sym c.line-item.is) in (
      refl,
      trace_first c.args.circuit.now c.args.report.now batch line (sym c.len.ensures ∙ c.if-len-report.false) at c.loop-batch.invariant
          (λ seed. let yes = c.in_ok-is_line.ensures.1 seed in let no = c.if-not-branch.true in cc),
    )

pub loop-batch-preserved : goal.loop-batch-preserved
loop-batch-preserved c =
    let seeds = c.args.report.now.seeds in
    let batch = c.loop-batch.batch in
    let line = c.line-item.result in
    let at : slice_get seeds batch ≡ Some line =
    item_at seeds c.as_slice-line-items.result.now batch line c.as_slice-line-items.ensures c.loop-batch-test.true ∙ ap (λ (l : Option SeedLine). Some l) (sym c.line-item.is) in
    more_below (λ (k : ℕ) (l : Option SeedLine). IfSome l (IsSeed c.args.circuit.now)) seeds batch line at c.loop-batch.invariant (c.in_ok-is_line.ensures.0 c.if-not-branch.false)

pub returns : goal.returns
returns c =
    let all : length c.args.report.now.seeds ≤ c.loop-batch.batch = omega (arith, ap (λ (xs : List (Option SeedLine)). length xs) c.as_slice-line-items.ensures, c.loop-batch-test.false) in
    seeds_met c.args.circuit.now c.args.report.now c.loop-batch.batch (sym c.len.ensures ∙ c.if-len-report.false) all c.loop-batch.invariant
