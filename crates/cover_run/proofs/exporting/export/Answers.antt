use Rattle.std.proofs.lemmas.Result.{err_from_is_err_and}
use Rattle.command_words.specs.Commands.{subject_named}
use Rattle.cover_run.specs.Files.{files_of}
use Rattle.cover_run.specs.Seen.{seen}
use Rattle.command_words.specs.Words.{Goals}
use Rattle.cover_run.proofs.Exported.{goals_stop, goal_text}
use Rattle.cover_run.proofs.Opening.{all_fine}
use Rattle.cover_run.proofs.Reading.{read_then, subject_stops_goals}
use Rattle.cover_run.proofs.exporting.export.Goals as goal

pub returns-clause-output : goal.returns-clause-output
returns-clause-output g c = record {
  circuit = c.in_ok-circuit.circuit;
  signals = c.in_ok-circuit.signals.lits;
  has_circuit = c.in_ok-circuit.ensures.circuit;
  has_signals = c.in_ok-circuit.ensures.signals;
  is_text = goal_text c.in_ok-circuit.circuit c.in_ok-circuit.signals.lits c.in_ok-goals.goals _ c.in_ok-goals.ensures.room c.in_ok-goals.ensures.circuit
      c.in_ok-output.ensures.text c.in_ok-output.ensures.reads_back;
  settled_is = c.in_ok-output.ensures.settled;
}

pub returns-in_err-circuit-clause-cause : goal.returns-in_err-circuit-clause-cause
returns-in_err-circuit-clause-cause g c =
    let p = err_from_is_err_and c.from_residual.result c.from_residual.ensures.1 in
    rw (p.1, p.2) (subject_stops_goals (subject_named c.args.subject.now) (seen (g.D.Desk.state c.args.desk.now) (g.D.Desk.state c.read_subject.new.desk)) c.in_err-circuit.field-0.0
    c.in_err-circuit.ensures.cause)

pub returns-in_err-goals-clause-cause : goal.returns-in_err-goals-clause-cause
returns-in_err-goals-clause-cause g c =
    let p = err_from_is_err_and c.from_residual-in_err-goals.result c.from_residual-in_err-goals.ensures.1 in
    rw (p.1, p.2) (goals_stop (subject_named c.args.subject.now) (seen (g.D.Desk.state c.args.desk.now) (g.D.Desk.state c.read_subject.new.desk)) c.in_ok-circuit.circuit
    c.in_ok-circuit.signals.lits c.in_err-goals.field-0.0 c.in_ok-circuit.ensures.circuit c.in_ok-circuit.ensures.signals c.in_err-goals.ensures.cause)

pub returns-in_err-goals-clause-left : goal.returns-in_err-goals-clause-left
returns-in_err-goals-clause-left g c =
    let p = err_from_is_err_and c.from_residual-in_err-goals.result c.from_residual-in_err-goals.ensures.1 in
    rw (p.1, p.2) (read_then (files_of (Goals (subject_named c.args.subject.now))) (seen (g.D.Desk.state c.args.desk.now) (g.D.Desk.state c.read_subject.new.desk)) c.in_err-goals.field-0.0
    c.in_err-goals.ensures.read (all_fine _ _ c.in_ok-circuit.ensures.read))

pub returns-in_err-output-clause-left : goal.returns-in_err-output-clause-left
returns-in_err-output-clause-left g c =
    let p = err_from_is_err_and c.from_residual-in_err-output.result c.from_residual-in_err-output.ensures.1 in
    rw (p.1, p.2) (all_fine _ _ c.in_ok-circuit.ensures.read)
