use Rattle.std.proofs.Common.{◌≡◌, ◌<◌, true, List, take, length, get_or, ap, sym, subst, ◌∙◌, arith}
use Rattle.std.specs.Prelude.{◌↔◌}
use Rattle.std.proofs.lemmas.List.{length-set, take_all}
use Rattle.sweep_search.specs.Sweep.{IsMarked, IsSettled}
use Rattle.sweep_search.specs.declared.swept.FoundGoal.{FoundGoal}
use Rattle.sweep_search.proofs.Marks.{mark_more}
use Rattle.sweep_search.proofs.blocked.marks.Goals as goal

pub loop-new-preserved : goal.loop-new-preserved
loop-new-preserved c =
    let found = c.args.found.now in
    let items : c.as_slice-new-items.result.now ≡ found = c.as_slice-new-items.ensures in
    let f : FoundGoal = c.new-item.result in
    let inside : c.loop-new.new-index < length found = omega (arith, ap length items) in
    let here : f ≡ get_or found c.loop-new.new-index f = c.new-item.is ∙ ap (λ (xs : List FoundGoal). get_or xs c.loop-new.new-index f) items in
    let low : f.goal < length c.args.known.now =
    subst (λ (x : FoundGoal). x.goal < length c.args.known.now) (sym here) (c.requires c.loop-new.new-index f inside) in
    record {
      size = ap length c.set.ensures ∙ (length-set c.loop-new.marks f.goal true ∙ c.loop-new.invariant.size);
      marked = rw c.set.ensures (mark_more c.args.known.now c.loop-new.marks found c.loop-new.new-index f inside here (omega (arith, low, c.loop-new.invariant.size)) c.loop-new.invariant.marked);
    }

pub returns-clause-marks : goal.returns-clause-marks
returns-clause-marks c =
    let found = c.args.found.now in
    let whole : take c.loop-new.new-index found ≡ found = take_all c.loop-new.new-index found (omega (arith, ap length c.as_slice-new-items.ensures)) in
    λ g. subst (λ (xs : List FoundGoal). IsMarked c.loop-new.marks g ↔ IsSettled c.args.known.now xs g) whole (c.loop-new.invariant.marked g)
