-- Why a write failed.
use Rattle.std.proofs.Common.{◌≡◌, refl, inl, inr, Err}
use Rattle.std.specs.Prelude.{Result}
use Rattle.run_io.specs.Count.{Rose}
use Rattle.run_io.specs.declared.write.WriteFault.{WriteFault}
use Rattle.run_io.specs.declared.write.WriteFault.TheVariants as faults
use Rattle.cover_run.specs.Seen.{SinkSeen, Failed}

abbrev pub Fails : WriteFault → Result (Unit {0}) WriteFault
Fails fault = Err fault

pub failed-by : (s : SinkSeen) (fault : WriteFault) → (Fails fault ≡ Err faults.Failed → Rose s.old.faults s.new.faults)
    → (Fails fault ≡ Err faults.TookNothing → Rose s.old.idle s.new.idle) → Failed s
failed-by s faults.Failed failed idle = inl (failed refl)
failed-by s faults.TookNothing failed idle = inr (idle refl)
