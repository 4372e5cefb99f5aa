use Rattle.std.proofs.Common.{◌≡◌, ◌++◌, take}
use Rattle.sim_batch.proofs.copies.append_rows.Given as goal

abbrev pub invariant-loop-place : goal.invariant-loop-place
invariant-loop-place l = record {
  width : l.rows.width ≡ l.fn.rows.width;
  rows : l.rows.rows ≡ l.fn.rows.rows ++ take l.place l.more.rows;
}
