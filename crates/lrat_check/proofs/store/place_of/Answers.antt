use Rattle.std.proofs.Common.{arith, ◌+◌, ◌-◌, ◌/◌, ◌<◌, ℕ, get_or}
use Rattle.lrat_check.proofs.Blank.{blank}
use Rattle.lrat_check.proofs.EntryOrder.{ids_below, ids_above}
use Rattle.lrat_check.proofs.store.place_of.Goals as goal

pub loop-low-preserved-then-found-id-2 : goal.loop-low-preserved-then-found-id-2
loop-low-preserved-then-found-id-2 c =
    let middle : ℕ = c.loop-low.low + (c.loop-low.high - c.loop-low.low) / 2 in
    record {
      within = c.loop-low.invariant.within;
      below = ids_below c.args.entries.now middle c.args.id blank c.requires (omega arith) c.if-found-id-2.true;
      above = c.loop-low.invariant.above;
    }

pub loop-low-preserved : goal.loop-low-preserved
loop-low-preserved c =
    let middle : ℕ = c.loop-low.low + (c.loop-low.high - c.loop-low.low) / 2 in
    let greater : c.args.id < (get_or c.args.entries.now middle blank).id = omega arith in
    record {
      within = omega arith;
      below = c.loop-low.invariant.below;
      above = ids_above c.args.entries.now middle c.args.id blank c.requires (omega arith) greater;
    }
