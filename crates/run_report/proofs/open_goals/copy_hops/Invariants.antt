use Rattle.std.proofs.Common.{◌≡◌, take}
use Rattle.run_report.proofs.open_goals.copy_hops.Given as goal

abbrev pub invariant-loop-hop : goal.invariant-loop-hop
invariant-loop-hop l = l.copy ≡ take l.hop-index l.hops
