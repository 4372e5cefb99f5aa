use Rattle.std.proofs.Common.{refl}
use Rattle.cover_run.proofs.Rooms.{hop_fits, runnable, sweep_fits}
use Rattle.cover_run.proofs.covering.report_of.Goals as goal

pub run_engines-requires-clause-room : goal.run_engines-requires-clause-room
run_engines-requires-clause-room c = sweep_fits c.args.options.now c.args.circuit.now c.requires.room

pub run_engines-requires-clause-hop_room : goal.run_engines-requires-clause-hop_room
run_engines-requires-clause-hop_room c = hop_fits c.args.options.now c.args.circuit.now c.requires.room

pub run_engines-requires-clause-options : goal.run_engines-requires-clause-options
run_engines-requires-clause-options c = runnable c.args.options.now c.requires.options

pub returns : goal.returns
returns c = record {
  report = (
    record { report = c.in_ok-report.report; form = c.in_ok-report.ensures.form; tells = c.in_ok-report.ensures.tells; spelled = c.in_ok-bytes.ensures },
    refl,
  );
}
