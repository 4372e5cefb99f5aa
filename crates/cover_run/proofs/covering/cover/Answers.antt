use Rattle.std.proofs.lemmas.Result.{err_from_is_err_and}
use Rattle.command_words.specs.Commands.{cover_call}
use Rattle.cover_run.specs.Files.{files_of}
use Rattle.cover_run.specs.Seen.{seen}
use Rattle.command_words.specs.Words.{Cover}
use Rattle.cover_run.proofs.Opening.{all_fine}
use Rattle.cover_run.proofs.Reading.{read_then, subject_stops_cover}
use Rattle.cover_run.proofs.Rooms.{room_stop}
use Rattle.cover_run.proofs.covering.cover.Goals as goal

pub returns-clause-output : goal.returns-clause-output
returns-clause-output g c = record {
  circuit = c.in_ok-circuit.circuit;
  signals = c.in_ok-circuit.signals.lits;
  has_circuit = c.in_ok-circuit.ensures.circuit;
  has_signals = c.in_ok-circuit.ensures.signals;
  room = c.in_ok-has_room.ensures.room;
  is_report = c.in_ok-output.ensures.report.0;
  settled_is = c.in_ok-output.ensures.report.1;
}

pub returns-in_err-circuit-clause-cause : goal.returns-in_err-circuit-clause-cause
returns-in_err-circuit-clause-cause g c =
    let p = err_from_is_err_and c.from_residual.result c.from_residual.ensures.1 in
    rw (p.1, p.2) (subject_stops_cover (cover_call c.args.call.now) (seen (g.D.Desk.state c.args.desk.now) (g.D.Desk.state c.read_subject.new.desk)) c.in_err-circuit.field-0.0
    c.in_err-circuit.ensures.cause)

pub returns-in_err-has_room-clause-cause : goal.returns-in_err-has_room-clause-cause
returns-in_err-has_room-clause-cause g c =
    let p = err_from_is_err_and c.from_residual-in_err-has_room.result c.from_residual-in_err-has_room.ensures.1 in
    rw (p.1, p.2) (room_stop (cover_call c.args.call.now) (seen (g.D.Desk.state c.args.desk.now) (g.D.Desk.state c.read_subject.new.desk)) c.in_ok-circuit.circuit
    c.in_ok-circuit.signals.lits c.in_err-has_room.field-0.0 c.in_ok-circuit.ensures.circuit c.in_ok-circuit.ensures.signals c.in_err-has_room.ensures.cause)

pub returns-in_err-has_room-clause-left : goal.returns-in_err-has_room-clause-left
returns-in_err-has_room-clause-left g c =
    let p = err_from_is_err_and c.from_residual-in_err-has_room.result c.from_residual-in_err-has_room.ensures.1 in
    rw (p.1, p.2) (read_then (files_of (Cover (cover_call c.args.call.now))) (seen (g.D.Desk.state c.args.desk.now) (g.D.Desk.state c.read_subject.new.desk)) c.in_err-has_room.field-0.0
    c.in_err-has_room.ensures.read (all_fine _ _ c.in_ok-circuit.ensures.read))

pub returns-in_err-output-clause-left : goal.returns-in_err-output-clause-left
returns-in_err-output-clause-left g c =
    let p = err_from_is_err_and c.from_residual-in_err-output.result c.from_residual-in_err-output.ensures.1 in
    rw (p.1, p.2) (all_fine _ _ c.in_ok-circuit.ensures.read)
