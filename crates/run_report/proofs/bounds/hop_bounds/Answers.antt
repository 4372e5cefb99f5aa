use Rattle.std.proofs.Common.{◌≡◌, ◌<◌, ◌++◌, ◌∷◌, [], List, length, get_or, sym, ap, ◌∙◌, arith}
use Rattle.report_text.specs.declared.report.HopBound.{HopBound}
use Rattle.run_report.specs.declared.ends.BatchEnd.{BatchEnd}
use Rattle.run_report.specs.Ended.{end_bound}
use Rattle.run_report.proofs.Cutting.{hops-step}
use Rattle.run_report.proofs.bounds.hop_bounds.Goals as goal

pub loop-batch-preserved : goal.loop-batch-preserved
loop-batch-preserved c =
    let k = c.loop-batch.batch in
    let end = c.end-item.result in
    let ends = c.args.ends.now in
    let here : end ≡ get_or ends k end = c.end-item.is ∙ ap (λ (es : List BatchEnd). get_or es k end) c.as_slice-end-items.ensures in
    let inside : k < length ends = omega (arith, ap length c.as_slice-end-items.ensures, c.loop-batch-test.true) in
    c.in_ok-push.ensures.ok
    ∙ (ap (λ (h : HopBound). c.loop-batch.hops ++ h ∷ []) c.hop_bound.ensures
    ∙ (ap (λ (hs : List HopBound). hs ++ end_bound c.args.options.now k end ∷ []) c.loop-batch.invariant ∙ sym (hops-step c.args.options.now ends k end inside here)))
