use Rattle.std.proofs.Common.{◌≡◌, subst, List, [], ◌∷◌, ℕ, length, ◌≤◌, Option, IfSome}
use Rattle.std.proofs.lemmas.Result.{err_from_is_err_and}
use Rattle.cover_run.specs.CircuitText.{SpellsCircuit}
use Rattle.aig_model.specs.declared.parts.Parts.{Parts}
use Rattle.command_words.specs.declared.stop.File.TheVariants as files
use Rattle.command_words.specs.Commands.{subject_named}
use Rattle.cover_run.proofs.CircuitTexts.{is-circuit}
use Rattle.aig_model.specs.WellFormed.{IsCircuit}
use Rattle.signal_list.specs.SignalText.{SpellsSignals}
use Rattle.signal_list.proofs.InRange.{are-signals}
use Rattle.cover_run.specs.Covering.{HasCircuit, HasSignals}
use Rattle.command_words.specs.Limits.{limit_of}
use Rattle.cover_run.specs.Files.{subject_files}
use Rattle.cover_run.specs.Seen.{DeskSeen, seen}
use Rattle.command_words.specs.Words.{Subject}
use Rattle.cover_run.proofs.Reading.{fine_first, fine_after, all_one, all_after, read_after, read_more, read_then, part_after, circuit_unread, signals_unread, circuit_refused, signals_refused}
use Rattle.cover_run.proofs.subject.read_subject.Goals as goal

-- what is known of the bytes of a file is known of its text
has_circuit : (s : Subject) (d : DeskSeen) (bytes read : List ℕ) (c : Parts) → read ≡ bytes → length bytes ≤ limit_of files.Circuit → SpellsCircuit read c
    → IfSome (d.old.text s.circuit) (λ t. bytes ≡ t) → HasCircuit s d c
has_circuit s d bytes read c is short spells told = record {
  text = bytes;
  told = told;
  has = record { short = short; spells = subst (λ (xs : List ℕ). SpellsCircuit xs c) is spells; right = is-circuit read c spells };
}

has_signals : (s : Subject) (d : DeskSeen) (bytes read : List ℕ) (c : Parts) (sig : List ℕ) → read ≡ bytes → length bytes ≤ limit_of files.Signals → IsCircuit c
    → SpellsSignals c read sig → IfSome (d.old.text s.signals) (λ t. bytes ≡ t) → HasSignals s d c sig
has_signals s d bytes read c sig is short right spells told = record {
  text = bytes;
  told = told;
  has = record { short = short; spells = subst (λ (xs : List ℕ). SpellsSignals c xs sig) is spells; right = are-signals c read sig right spells };
}

pub returns-in_err-bytes-clause-cause : goal.returns-in_err-bytes-clause-cause
returns-in_err-bytes-clause-cause g c =
    let p = err_from_is_err_and c.from_residual.result c.from_residual.ensures.1 in
    rw (p.1, p.2) (circuit_unread (subject_named c.args.subject.now) (seen (g.D.Desk.state c.args.desk.now) (g.D.Desk.state c.read_part.new.desk)) c.in_err-bytes.field-0.0
    c.in_err-bytes.ensures.cause)

pub returns-in_err-bytes-clause-left : goal.returns-in_err-bytes-clause-left
returns-in_err-bytes-clause-left g c =
    let p = err_from_is_err_and c.from_residual.result c.from_residual.ensures.1 in
    rw (p.1, p.2) (read_more (seen (g.D.Desk.state c.args.desk.now) (g.D.Desk.state c.read_part.new.desk)) (files.Circuit, c.args.subject.now.circuit.now)
    ((files.Signals, c.args.subject.now.signals.now) ∷ []) c.in_err-bytes.field-0.0 c.in_err-bytes.ensures.cause
    c.in_err-bytes.ensures.left)

pub returns-in_err-circuit-clause-cause : goal.returns-in_err-circuit-clause-cause
returns-in_err-circuit-clause-cause g c =
    let p = err_from_is_err_and c.from_residual-in_err-circuit.result c.from_residual-in_err-circuit.ensures.1 in
    rw (p.1, p.2) (circuit_refused (subject_named c.args.subject.now) (seen (g.D.Desk.state c.args.desk.now) (g.D.Desk.state c.read_part.new.desk)) c.in_ok-bytes.bytes.items
    c.deref.result.now c.in_err-circuit.field-0.0 c.deref.ensures.value c.in_ok-bytes.ensures.short c.in_ok-bytes.ensures.whole
    c.in_err-circuit.ensures.cause)

pub returns-in_err-circuit-clause-left : goal.returns-in_err-circuit-clause-left
returns-in_err-circuit-clause-left g c =
    let p = err_from_is_err_and c.from_residual-in_err-circuit.result c.from_residual-in_err-circuit.ensures.1 in
    let a = g.D.Desk.state c.args.desk.now in
    let b = g.D.Desk.state c.read_part.new.desk in
    rw (p.1, p.2) (read_then (subject_files (subject_named c.args.subject.now)) (seen a b) c.in_err-circuit.field-0.0 c.in_err-circuit.ensures.read
    (fine_first a b files.Circuit c.args.subject.now.circuit.now ((files.Signals, c.args.subject.now.signals.now) ∷ []) c.in_ok-bytes.ensures.read))

pub returns-in_err-bytes-2-clause-cause : goal.returns-in_err-bytes-2-clause-cause
returns-in_err-bytes-2-clause-cause g c =
    let p = err_from_is_err_and c.from_residual-in_err-bytes-2.result c.from_residual-in_err-bytes-2.ensures.1 in
    let a = g.D.Desk.state c.args.desk.now in
    let b = g.D.Desk.state c.read_part.new.desk in
    let e = g.D.Desk.state c.read_part-2.new.desk in
    let s = subject_named c.args.subject.now in
    let has = has_circuit s (seen a e) c.in_ok-bytes.bytes.items c.deref.result.now _ c.deref.ensures.value c.in_ok-bytes.ensures.short c.in_ok-circuit.ensures.circuit c.in_ok-bytes.ensures.whole in
    rw (p.1, p.2) (signals_unread s (seen a e) c.in_err-bytes-2.field-0.0 (_, has)
    (part_after a b e files.Signals s.signals c.in_err-bytes-2.field-0.0 c.read_part.ensures.text c.read_part.ensures.counts c.in_err-bytes-2.ensures.cause))

pub returns-in_err-bytes-2-clause-left : goal.returns-in_err-bytes-2-clause-left
returns-in_err-bytes-2-clause-left g c =
    let p = err_from_is_err_and c.from_residual-in_err-bytes-2.result c.from_residual-in_err-bytes-2.ensures.1 in
    let a = g.D.Desk.state c.args.desk.now in
    let b = g.D.Desk.state c.read_part.new.desk in
    let e = g.D.Desk.state c.read_part-2.new.desk in
    rw (p.1, p.2) (read_after a b e files.Circuit c.args.subject.now.circuit.now ((files.Signals, c.args.subject.now.signals.now) ∷ []) c.in_err-bytes-2.field-0.0
    c.read_part.ensures.text c.in_ok-bytes.ensures.read c.in_err-bytes-2.ensures.left)

pub returns-in_err-signals-clause-cause : goal.returns-in_err-signals-clause-cause
returns-in_err-signals-clause-cause g c =
    let p = err_from_is_err_and c.from_residual-in_err-signals.result c.from_residual-in_err-signals.ensures.1 in
    let a = g.D.Desk.state c.args.desk.now in
    let e = g.D.Desk.state c.read_part-2.new.desk in
    let s = subject_named c.args.subject.now in
    let bytes = c.in_ok-bytes-2.bytes.items in
    let has = has_circuit s (seen a e) c.in_ok-bytes.bytes.items c.deref.result.now _ c.deref.ensures.value c.in_ok-bytes.ensures.short c.in_ok-circuit.ensures.circuit c.in_ok-bytes.ensures.whole in
    let told = subst (λ (o : Option (List ℕ)). IfSome o (λ t. bytes ≡ t)) (c.read_part.ensures.text s.signals) c.in_ok-bytes-2.ensures.whole in
    rw (p.1, p.2) (signals_refused s (seen a e) _ bytes c.deref-2.result.now c.in_err-signals.field-0.0 c.deref-2.ensures.value c.in_ok-bytes-2.ensures.short has told
    c.in_err-signals.ensures.cause)

pub returns-in_err-signals-clause-left : goal.returns-in_err-signals-clause-left
returns-in_err-signals-clause-left g c =
    let p = err_from_is_err_and c.from_residual-in_err-signals.result c.from_residual-in_err-signals.ensures.1 in
    let a = g.D.Desk.state c.args.desk.now in
    let b = g.D.Desk.state c.read_part.new.desk in
    let e = g.D.Desk.state c.read_part-2.new.desk in
    rw (p.1, p.2) (read_then (subject_files (subject_named c.args.subject.now)) (seen a e) c.in_err-signals.field-0.0 c.in_err-signals.ensures.read
    (fine_after a b e files.Circuit c.args.subject.now.circuit.now ((files.Signals, c.args.subject.now.signals.now) ∷ []) c.in_ok-bytes.ensures.read
    (fine_first b e files.Signals c.args.subject.now.signals.now [] c.in_ok-bytes-2.ensures.read)))

pub returns-clause-read : goal.returns-clause-read
returns-clause-read g c =
    let a = g.D.Desk.state c.args.desk.now in
    let b = g.D.Desk.state c.read_part.new.desk in
    let e = g.D.Desk.state c.read_part-2.new.desk in
    all_after a b e files.Circuit c.args.subject.now.circuit.now ((files.Signals, c.args.subject.now.signals.now) ∷ []) c.read_part.ensures.text c.in_ok-bytes.ensures.read
    (all_one b e files.Signals c.args.subject.now.signals.now c.in_ok-bytes-2.ensures.read)

pub returns-clause-circuit : goal.returns-clause-circuit
returns-clause-circuit g c =
    has_circuit (subject_named c.args.subject.now) (seen (g.D.Desk.state c.args.desk.now) (g.D.Desk.state c.read_part-2.new.desk)) c.in_ok-bytes.bytes.items c.deref.result.now _
    c.deref.ensures.value c.in_ok-bytes.ensures.short c.in_ok-circuit.ensures.circuit c.in_ok-bytes.ensures.whole

pub returns-clause-signals : goal.returns-clause-signals
returns-clause-signals g c =
    let s = subject_named c.args.subject.now in
    let bytes = c.in_ok-bytes-2.bytes.items in
    let told = subst (λ (o : Option (List ℕ)). IfSome o (λ t. bytes ≡ t)) (c.read_part.ensures.text s.signals) c.in_ok-bytes-2.ensures.whole in
    has_signals s (seen (g.D.Desk.state c.args.desk.now) (g.D.Desk.state c.read_part-2.new.desk)) bytes c.deref-2.result.now _ _ c.deref-2.ensures.value c.in_ok-bytes-2.ensures.short
    (is-circuit c.deref.result.now _ c.in_ok-circuit.ensures.circuit) c.in_ok-signals.ensures.signals told
