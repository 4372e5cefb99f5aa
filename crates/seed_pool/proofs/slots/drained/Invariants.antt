use Rattle.std.proofs.Common.{◌≡◌, ℕ, ◌<◌, ◌≤◌, true, false, take, length, get_or}
use Rattle.std.specs.Slots.{slots_items, slots_filled, slots_len}
use Rattle.std.specs.Vec.{vec_capacity}
use Rattle.seed_pool.specs.Rule.{held}
use Rattle.seed_pool.proofs.slots.drained.Given as goal

abbrev pub invariant-loop-cell : goal.invariant-loop-cell
invariant-loop-cell g l = record {
  items : l.left.items ≡ held (take l.cell (slots_items l.fn.closed.slots));
  same : slots_items l.closed.slots ≡ slots_items l.fn.closed.slots;
  long : slots_len l.closed.slots ≡ 64;
  few : length l.left.items ≤ l.cell;
  room : 64 ≤ vec_capacity l.left;
  full : (k : ℕ) → l.cell ≤ k → k < 64 → get_or (slots_filled l.closed.slots) k false ≡ true;
  gone : (k : ℕ) → k < l.cell → get_or (slots_filled l.closed.slots) k false ≡ false;
}
