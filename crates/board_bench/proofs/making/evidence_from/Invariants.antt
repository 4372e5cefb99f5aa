use Rattle.std.proofs.Common.{◌≡◌, All, ◌<◌}
use Rattle.board_bench.specs.Callers.{IsReached}
use Rattle.board_bench.proofs.making.evidence_from.Given as goal

abbrev pub invariant-loop : goal.invariant-loop
invariant-loop l = All (IsReached l.signals) l.all.items
