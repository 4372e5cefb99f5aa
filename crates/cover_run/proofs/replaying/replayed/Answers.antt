use Rattle.std.proofs.lemmas.Result.{err_from_is_err_and}
use Rattle.command_words.specs.Commands.{replay_call}
use Rattle.cover_run.specs.Files.{files_of}
use Rattle.cover_run.specs.Seen.{seen}
use Rattle.command_words.specs.Words.{Replay}
use Rattle.cover_run.proofs.Opening.{all_fine}
use Rattle.cover_run.proofs.Reading.{read_then}
use Rattle.cover_run.proofs.ReplayRead.{misfit_refused}
use Rattle.cover_run.proofs.replaying.replayed.Goals as goal

pub returns-clause-output : goal.returns-clause-output
returns-clause-output g c = record {
  circuit = c.in_ok-circuit.circuit;
  signals = c.in_ok-circuit.signals.lits;
  witness = c.in_ok-circuit.witness;
  has_circuit = c.in_ok-circuit.ensures.circuit;
  has_signals = c.in_ok-circuit.ensures.signals;
  has_witness = c.in_ok-circuit.ensures.witness;
  shows = c.in_ok-judge.ensures.shows;
  bytes_are = c.in_ok-output.ensures.bytes;
  settled_is = c.in_ok-output.ensures.settled;
}

pub returns-in_err-judge-clause-cause : goal.returns-in_err-judge-clause-cause
returns-in_err-judge-clause-cause g c =
    let p = err_from_is_err_and c.from_residual-in_err-judge.result c.from_residual-in_err-judge.ensures.1 in
    rw (p.1, p.2) (misfit_refused (replay_call c.args.call.now) (seen (g.D.Desk.state c.args.desk.now) (g.D.Desk.state c.read_all.new.desk)) c.in_ok-circuit.circuit
    c.in_ok-circuit.signals.lits c.in_ok-circuit.witness c.in_err-judge.field-0.0 c.in_ok-circuit.ensures.circuit c.in_ok-circuit.ensures.signals c.in_ok-circuit.ensures.witness
    c.in_err-judge.ensures.cause)

pub returns-in_err-judge-clause-left : goal.returns-in_err-judge-clause-left
returns-in_err-judge-clause-left g c =
    let p = err_from_is_err_and c.from_residual-in_err-judge.result c.from_residual-in_err-judge.ensures.1 in
    rw (p.1, p.2) (read_then (files_of (Replay (replay_call c.args.call.now))) (seen (g.D.Desk.state c.args.desk.now) (g.D.Desk.state c.read_all.new.desk)) c.in_err-judge.field-0.0
    c.in_err-judge.ensures.read (all_fine _ _ c.in_ok-circuit.ensures.read))

pub returns-in_err-output-clause-left : goal.returns-in_err-output-clause-left
returns-in_err-output-clause-left g c =
    let p = err_from_is_err_and c.from_residual-in_err-output.result c.from_residual-in_err-output.ensures.1 in
    rw (p.1, p.2) (all_fine _ _ c.in_ok-circuit.ensures.read)
