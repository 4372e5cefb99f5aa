use Rattle.std.proofs.Common.{◌≡◌, ◌<◌, List, [], ◌∷◌, ◌++◌, length, take, get_or, sym, ap, ◌∙◌, arith, Option}
use Rattle.report_text.specs.declared.report.HopBound.{HopBound}
use Rattle.report_text.specs.declared.report.SeedLine.{SeedLine}
use Rattle.report_check.proofs.Bounding.{hops_from, hops_more}
use Rattle.report_check.proofs.bounds.hop_bounds.Goals as goal

pub loop-batch-preserved : goal.loop-batch-preserved
loop-batch-preserved c =
    let r = c.args.report.now in
    let k = c.loop-batch.batch in
    let seed = c.seed-item.result in
    let inside : k < length r.seeds = omega (arith, ap (λ (xs : List (Option SeedLine)). length xs) c.as_slice-seed-items.ensures, c.loop-batch-test.true) in
    let here : seed ≡ get_or r.seeds k seed = c.seed-item.is ∙ ap (λ (xs : List (Option SeedLine)). get_or xs k seed) c.as_slice-seed-items.ensures in
    c.in_ok-push.ensures.ok
    ∙ (ap (λ (hs : List HopBound). hs ++ c.hop_bound.result ∷ []) c.loop-batch.invariant
    ∙ (ap (λ (h : HopBound). hops_from r.options r.spents 0 (take k r.seeds) ++ h ∷ []) c.hop_bound.ensures ∙ sym (hops_more r.options r.spents r.seeds k seed inside here)))
