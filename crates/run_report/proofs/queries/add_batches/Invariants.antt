use Rattle.std.proofs.Common.{◌≡◌, ◌++◌}
use Rattle.run_report.specs.Ended.{hop_refutes, hop_spents, seeds_of}
use Rattle.run_report.proofs.queries.add_batches.Given as goal

abbrev pub invariant-loop-end : goal.invariant-loop-end
invariant-loop-end l = (l.seeds ≡ seeds_of l.yielded) × (l.spents ≡ l.fn.spents ++ hop_spents l.yielded) × (l.refutes ≡ l.fn.refutes ++ hop_refutes l.yielded)
