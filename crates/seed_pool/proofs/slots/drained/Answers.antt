use Rattle.std.proofs.Common.{arith, ℕ, ◌++◌, [], ◌∷◌, length, ap, sym, ◌∙◌, false, get_or, set, length-append}
use Rattle.std.proofs.lemmas.List.{get_or-set_other, get_or-set_same}
use Rattle.std.specs.Slots.{slots_items, slots_filled}
use mathlib.Core.Logic.{dite}
use native.Mathlib.Decide.{ℕ_discrete}
use Rattle.seed_pool.specs.Rule.{held, held_then}
use Rattle.seed_pool.proofs.Ends.{held_more, held_few, take_more}
use Rattle.seed_pool.proofs.slots.drained.Goals as goal

pub loop-cell-preserved : goal.loop-cell-preserved
loop-cell-preserved g c =
    let i = c.loop-cell.invariant in let o = c.take.ensures.others in let k = c.keep.ensures in
    let at = ap (λ l. lib.ListN.get_elem? l c.loop-cell.cell) (sym i.same) ∙ c.take.ensures.value in
    record {
      items = k.items ∙ ap (λ l. l ++ held_then c.take.result []) i.items ∙ sym (ap held (take_more (slots_items c.args.closed.slots) c.loop-cell.cell c.take.result at) ∙ held_more (lib.ListN.take c.loop-cell.cell (slots_items c.args.closed.slots)) (c.take.result ∷ []));
      same = o.0 ∙ i.same;
      long = o.2 ∙ i.long;
      few = omega (arith, i.few, ap length k.items, length-append c.loop-cell.left.items (held_then c.take.result []), held_few c.take.result);
      room = omega (arith, i.room, k.capacity);
      full = λ j le lt. ap (λ l. get_or l j false) o.1 ∙ get_or-set_other (slots_filled c.loop-cell.closed.slots) c.loop-cell.cell j false false (λ e. omega arith) ∙ i.full j (omega arith) lt;
      gone = λ j lt. dite (ℕ_discrete j c.loop-cell.cell)
          (λ e. ap (λ l. get_or l j false) o.1 ∙ ap (λ (x : ℕ). get_or (set (slots_filled c.loop-cell.closed.slots) c.loop-cell.cell false) x false) e ∙ get_or-set_same (slots_filled c.loop-cell.closed.slots) c.loop-cell.cell false false (omega (arith, c.loop-cell.closed.slots.ok.1, i.long, c.loop-cell-test.true)))
          (λ ne. ap (λ l. get_or l j false) o.1 ∙ get_or-set_other (slots_filled c.loop-cell.closed.slots) c.loop-cell.cell j false false ne ∙ i.gone j (omega arith));
    }
