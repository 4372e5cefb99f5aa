use Rattle.std.proofs.Common.{◌≡◌, ◌↔◌, ◌^◌, ℕ, length, take, Contains}
use Rattle.sweep_search.specs.Sweep.{IsMarked}
use Rattle.run_report.specs.Run.{goals_of}
use Rattle.run_report.proofs.findings.marks.Given as goal

abbrev pub invariant-loop-finding : goal.invariant-loop-finding
invariant-loop-finding l =
    (length l.marks ≡ 2 ^ length l.signals.lits) × ((goal : ℕ) → IsMarked l.marks goal ↔ Contains (goals_of (take l.finding-index l.findings)) goal)
