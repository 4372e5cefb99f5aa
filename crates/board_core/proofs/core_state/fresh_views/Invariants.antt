use Rattle.std.proofs.Common.{◌≡◌, ◌≤◌, Some}
use Rattle.std.specs.Prelude.{replicate}
use Rattle.std.specs.Vec.{vec_capacity}
use Rattle.board_core.specs.Core.{fresh_view}
use Rattle.board_core.proofs.core_state.fresh_views.Given as goal

abbrev pub invariant-loop : goal.invariant-loop
invariant-loop l = record {
  room : l.callers ≤ vec_capacity l.views;
  views : l.views.items ≡ replicate l.counter (Some fresh_view);
}
