use Rattle.std.proofs.Common.{◌≡◌, ◌-◌, length}
use Rattle.run_io.specs.Sink.{Takes}
use Rattle.run_io.proofs.write.write_all.Given as goal

abbrev pub invariant-loop-at : goal.invariant-loop-at
invariant-loop-at g l =
    let old = g.S.Sink.state l.initial.sink in
    let new = g.S.Sink.state l.sink in
    record {
      same_faults : new.faults ≡ old.faults;
      same_idle : new.idle ≡ old.idle;
      takes : Takes old.taken new.taken l.bytes l.at;
    }

abbrev pub decreases-loop-at : goal.decreases-loop-at
decreases-loop-at g l = length l.bytes - l.at
