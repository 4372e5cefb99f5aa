use Rattle.std.proofs.Common.{◌≡◌, ◌<◌, List, length, get_or, sym, ap, subst, ◌∙◌, arith}
use Rattle.report_text.specs.declared.report.Block.{Block}
use Rattle.run_report.specs.Ended.{NamesGoal}
use Rattle.run_report.proofs.Cutting.{cut_length, cut_more}
use Rattle.run_report.proofs.bounds.cut_goals.Goals as goal

pub loop-block-preserved : goal.loop-block-preserved
loop-block-preserved c =
    let k = c.loop-block.block-index in
    let b = c.block-item.result in
    let cut = c.loop-block.cut in
    let spents = c.args.spents.now in
    let here : b ≡ get_or spents k b = c.block-item.is ∙ ap (λ (bs : List Block). get_or bs k b) c.as_slice-block-items.ensures in
    let inside : k < length spents = omega (arith, ap length c.as_slice-block-items.ensures, c.loop-block-test.true) in
    let named : NamesGoal c.args.goals b.name = subst (λ (x : Block). NamesGoal c.args.goals x.name) (sym here) (c.requires k b inside) in (
      cut_length b.name cut c.cut_one.new.cut c.args.goals c.loop-block.invariant.0 c.cut_one.ensures,
      rw c.cut_one.ensures
          (cut_more spents k b cut inside here (rw c.loop-block.invariant.0 named) c.loop-block.invariant.1),
    )
