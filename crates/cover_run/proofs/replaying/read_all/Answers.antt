use Rattle.std.proofs.Common.{◌≡◌, ◌∷◌, [], subst, List, ℕ, Option, IfSome, refl}
use Rattle.std.proofs.lemmas.Result.{err_from_is_err_and}
use Rattle.command_words.specs.declared.stop.File.TheVariants as files
use Rattle.command_words.specs.Commands.{replay_call}
use Rattle.cover_run.specs.Covering.{IsCircuitText, IsSignalsText}
use Rattle.cover_run.specs.Files.{subject_files, files_of}
use Rattle.cover_run.specs.Seen.{seen}
use Rattle.command_words.specs.Words.{Replay}
use Rattle.cover_run.proofs.Behind.{same_counts, read_before, read_behind, all_behind}
use Rattle.cover_run.proofs.Opening.{all_fine}
use Rattle.cover_run.proofs.Reading.{all_one, part_after, part_unread, read_then, subject_stops_replay}
use Rattle.cover_run.proofs.ReplayRead.{has_witness, witness_refused}
use Rattle.cover_run.proofs.WhereTold.{text-by}
use Rattle.cover_run.proofs.replaying.read_all.Goals as goal

pub returns-in_err-circuit-clause-cause : goal.returns-in_err-circuit-clause-cause
returns-in_err-circuit-clause-cause g c =
    let p = err_from_is_err_and c.from_residual.result c.from_residual.ensures.1 in
    rw (p.1, p.2) (subject_stops_replay (replay_call c.args.call.now) (seen (g.D.Desk.state c.args.desk.now) (g.D.Desk.state c.read_subject.new.desk)) c.in_err-circuit.field-0.0
    c.in_err-circuit.ensures.cause)

pub returns-in_err-circuit-clause-left : goal.returns-in_err-circuit-clause-left
returns-in_err-circuit-clause-left g c =
    let p = err_from_is_err_and c.from_residual.result c.from_residual.ensures.1 in
    let s = (replay_call c.args.call.now).subject in
    rw (p.1, p.2) (read_before s (subject_files s) ((files.Witness, c.args.call.now.witness.now) ∷ []) (seen (g.D.Desk.state c.args.desk.now) (g.D.Desk.state c.read_subject.new.desk))
    c.in_err-circuit.field-0.0 c.in_err-circuit.ensures.cause c.in_err-circuit.ensures.left)

pub returns-in_err-bytes-clause-cause : goal.returns-in_err-bytes-clause-cause
returns-in_err-bytes-clause-cause g c =
    let p = err_from_is_err_and c.from_residual-in_err-bytes.result c.from_residual-in_err-bytes.ensures.1 in
    let a = g.D.Desk.state c.args.desk.now in
    let b = g.D.Desk.state c.read_subject.new.desk in
    let e = g.D.Desk.state c.read_part.new.desk in
    let call = replay_call c.args.call.now in
    let circuit = text-by a b e call.subject.circuit (IsCircuitText c.in_ok-circuit.circuit) c.in_ok-circuit.ensures.circuit in
    let signals = text-by a b e call.subject.signals (IsSignalsText c.in_ok-circuit.circuit c.in_ok-circuit.signals.lits) c.in_ok-circuit.ensures.signals in
    rw (p.1, p.2) (part_unread (Replay call) (seen a e) files.Witness call.witness c.in_err-bytes.field-0.0 (λ e. cc) refl
    (c.in_ok-circuit.circuit, c.in_ok-circuit.signals.lits, circuit, signals)
    (part_after a b e files.Witness call.witness c.in_err-bytes.field-0.0 c.read_subject.ensures.text (same_counts a b c.in_ok-circuit.ensures.read.no_fault) c.in_err-bytes.ensures.cause))

pub returns-in_err-bytes-clause-left : goal.returns-in_err-bytes-clause-left
returns-in_err-bytes-clause-left g c =
    let p = err_from_is_err_and c.from_residual-in_err-bytes.result c.from_residual-in_err-bytes.ensures.1 in
    let a = g.D.Desk.state c.args.desk.now in
    let b = g.D.Desk.state c.read_subject.new.desk in
    let e = g.D.Desk.state c.read_part.new.desk in
    let call = replay_call c.args.call.now in
    rw (p.1, p.2) (read_behind a b e (subject_files call.subject) ((files.Witness, call.witness) ∷ []) c.in_err-bytes.field-0.0 c.read_subject.ensures.text c.in_ok-circuit.ensures.read
    c.in_err-bytes.ensures.left)

pub returns-in_err-witness-clause-cause : goal.returns-in_err-witness-clause-cause
returns-in_err-witness-clause-cause g c =
    let p = err_from_is_err_and c.from_residual-in_err-witness.result c.from_residual-in_err-witness.ensures.1 in
    let a = g.D.Desk.state c.args.desk.now in
    let b = g.D.Desk.state c.read_subject.new.desk in
    let e = g.D.Desk.state c.read_part.new.desk in
    let call = replay_call c.args.call.now in
    let circuit = text-by a b e call.subject.circuit (IsCircuitText c.in_ok-circuit.circuit) c.in_ok-circuit.ensures.circuit in
    let signals = text-by a b e call.subject.signals (IsSignalsText c.in_ok-circuit.circuit c.in_ok-circuit.signals.lits) c.in_ok-circuit.ensures.signals in
    let bytes = c.in_ok-bytes.bytes.items in
    let told = subst (λ (o : Option (List ℕ)). IfSome o (λ t. bytes ≡ t)) (c.read_subject.ensures.text call.witness) c.in_ok-bytes.ensures.whole in
    rw (p.1, p.2) (witness_refused call (seen a e) c.in_ok-circuit.circuit c.in_ok-circuit.signals.lits bytes c.deref.result.now c.in_err-witness.field-0.0 c.deref.ensures.value
    c.in_ok-bytes.ensures.short circuit signals told c.in_err-witness.ensures.cause)

pub returns-in_err-witness-clause-left : goal.returns-in_err-witness-clause-left
returns-in_err-witness-clause-left g c =
    let p = err_from_is_err_and c.from_residual-in_err-witness.result c.from_residual-in_err-witness.ensures.1 in
    let a = g.D.Desk.state c.args.desk.now in
    let b = g.D.Desk.state c.read_subject.new.desk in
    let e = g.D.Desk.state c.read_part.new.desk in
    let call = replay_call c.args.call.now in
    let all = all_behind a b e (subject_files call.subject) ((files.Witness, call.witness) ∷ []) c.read_subject.ensures.text c.in_ok-circuit.ensures.read
    (all_one b e files.Witness call.witness c.in_ok-bytes.ensures.read) in
    rw (p.1, p.2) (read_then (files_of (Replay call)) (seen a e) c.in_err-witness.field-0.0 c.in_err-witness.ensures.read (all_fine _ _ all))

pub returns-clause-read : goal.returns-clause-read
returns-clause-read g c =
    let a = g.D.Desk.state c.args.desk.now in
    let b = g.D.Desk.state c.read_subject.new.desk in
    let e = g.D.Desk.state c.read_part.new.desk in
    let call = replay_call c.args.call.now in
    all_behind a b e (subject_files call.subject) ((files.Witness, call.witness) ∷ []) c.read_subject.ensures.text c.in_ok-circuit.ensures.read
    (all_one b e files.Witness call.witness c.in_ok-bytes.ensures.read)

pub returns-clause-circuit : goal.returns-clause-circuit
returns-clause-circuit g c =
    text-by (g.D.Desk.state c.args.desk.now) (g.D.Desk.state c.read_subject.new.desk) (g.D.Desk.state c.read_part.new.desk) (replay_call c.args.call.now).subject.circuit
    (IsCircuitText c.in_ok-circuit.circuit) c.in_ok-circuit.ensures.circuit

pub returns-clause-signals : goal.returns-clause-signals
returns-clause-signals g c =
    text-by (g.D.Desk.state c.args.desk.now) (g.D.Desk.state c.read_subject.new.desk) (g.D.Desk.state c.read_part.new.desk) (replay_call c.args.call.now).subject.signals
    (IsSignalsText c.in_ok-circuit.circuit c.in_ok-circuit.signals.lits) c.in_ok-circuit.ensures.signals

pub returns-clause-witness : goal.returns-clause-witness
returns-clause-witness g c =
    let call = replay_call c.args.call.now in
    let bytes = c.in_ok-bytes.bytes.items in
    let told = subst (λ (o : Option (List ℕ)). IfSome o (λ t. bytes ≡ t)) (c.read_subject.ensures.text call.witness) c.in_ok-bytes.ensures.whole in
    has_witness call (seen (g.D.Desk.state c.args.desk.now) (g.D.Desk.state c.read_part.new.desk)) bytes c.deref.result.now c.in_ok-circuit.circuit c.in_ok-witness.witness
    c.deref.ensures.value c.in_ok-bytes.ensures.short c.in_ok-witness.ensures.witness told
