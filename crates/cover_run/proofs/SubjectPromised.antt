-- What the answer of a command that reads a circuit and signals promises of these.
use Rattle.std.proofs.Common.{◌≡◌, ℕ, ◌<◌, ◌≤◌, List, length, Some, inl, inr, ◌∙◌, ap, subst, arith}
use Rattle.std.specs.Prelude.{◌⊎◌}
use Rattle.aig_model.specs.declared.parts.Parts.{Parts}
use Rattle.cover_run.specs.CircuitText.{SpellsCircuit, IsFirstFault as IsFirstInCircuit}
use Rattle.command_words.specs.declared.stop.CircuitKind.{CircuitKind}
use Rattle.cover_run.proofs.CircuitTexts.{one-circuit, one-fault, no-fault}
use Rattle.signal_list.specs.SignalText.{SpellsSignals, IsFirstFault as IsFirstInSignals}
use Rattle.signal_list.specs.declared.fault.SigKind.{SigKind}
use Rattle.signal_list.proofs.OneReading as signals_text
use Rattle.command_words.specs.declared.stop.File.TheVariants as files
use Rattle.command_words.specs.declared.stop.Stop.{Stop}
use Rattle.command_words.specs.declared.stop.Stop.TheVariants as stops
use Rattle.command_words.specs.declared.stop.Status.{Status}
use Rattle.cover_run.specs.Answer.{IsAnswer}
use Rattle.cover_run.specs.Covering.{IsCircuitText, IsSignalsText, HasCircuitFault, HasSignalsFault, HasCircuit, HasSignals, HasSomeCircuit, RefusesCircuit, RefusesSignals}
use Rattle.command_words.specs.Limits.{limit_of}
use Rattle.cover_run.specs.Promises.{IsTold, IsToldTooLong, BadCircuitComes, BadSignalsComes, LongCircuitComes, LongSignalsComes}
use Rattle.cover_run.specs.Seen.{DeskSeen, SinkSeen}
use Rattle.command_words.specs.Words.{Subject, Meaning}
use Rattle.cover_run.proofs.WhereTold.{text-at}
use Rattle.cover_run.proofs.Promised.{told_long, stopped_so}
use Rattle.cover_run.proofs.Stopped.{ReadStops, circuit_unreadable, circuit_long, bad_circuit, signals_unreadable, signals_long, bad_signals, SubjectStops, subject_unread, subject_accepted, subject_memory, subject_stops, SubjectOutput, made_of, subject_output}

-- ---- the circuit that is told is the one meant
told_circuit : (s : Subject) (d : DeskSeen) (c : Parts) (t : List ℕ) → d.old.text s.circuit ≡ Some t → HasCircuit s d c → IsCircuitText c t
told_circuit s d c t told has = text-at d s.circuit t (IsCircuitText c) told has

told_fault : (s : Subject) (d : DeskSeen) (t : List ℕ) (at : ℕ) (kind : CircuitKind) → d.old.text s.circuit ≡ Some t → RefusesCircuit s d at kind → HasCircuitFault at kind t
told_fault s d t at kind told refused = text-at d s.circuit t (HasCircuitFault at kind) told refused

-- a text with a first fault spells no circuit
told_none : (s : Subject) (d : DeskSeen) (t : List ℕ) (at : ℕ) (kind : CircuitKind) → d.old.text s.circuit ≡ Some t → IsFirstInCircuit t at kind → HasSomeCircuit s d → ⊥
told_none s d t at kind told first (c, has) = no-fault t c at kind (told_circuit s d c t told has).spells first

pub same_told : (s : Subject) (d : DeskSeen) (t : List ℕ) (c e : Parts) → d.old.text s.circuit ≡ Some t → SpellsCircuit t c → HasCircuit s d e → e ≡ c
same_told s d t c e told spells has = one-circuit t e c (told_circuit s d e t told has).spells spells

pub signals_spelled : (s : Subject) (d : DeskSeen) (t u : List ℕ) (c e : Parts) (sig : List ℕ) → d.old.text s.circuit ≡ Some t → SpellsCircuit t c → d.old.text s.signals ≡ Some u
    → HasCircuit s d e → HasSignals s d e sig → IsSignalsText c sig u
signals_spelled s d t u c e sig told spells told_u has has_signals =
    subst (λ (x : Parts). IsSignalsText x sig u) (same_told s d t c e told spells has) (text-at d s.signals u (IsSignalsText e sig) told_u has_signals)

signals_fault : (s : Subject) (d : DeskSeen) (t u : List ℕ) (c : Parts) (line : ℕ) (kind : SigKind) → d.old.text s.circuit ≡ Some t → SpellsCircuit t c
    → d.old.text s.signals ≡ Some u → RefusesSignals s d line kind → HasSignalsFault c line kind u
signals_fault s d t u c line kind told spells told_u (e, has, fault) =
    subst (λ (x : Parts). HasSignalsFault x line kind u) (same_told s d t c e told spells has)
    (text-at d s.signals u (HasSignalsFault e line kind) told_u fault)

-- ---- a circuit with a fault
bad_circuit_stops : (s : Subject) (d : DeskSeen) (stop : Stop) (t : List ℕ) (at : ℕ) (kind : CircuitKind) → IsTold d files.Circuit s.circuit t → IsFirstInCircuit t at kind
    → ReadStops s d stop → stop ≡ stops.BadCircuit at kind
bad_circuit_stops s d stop t at kind told first (circuit_unreadable h) = absurd (told.no_fault h)
bad_circuit_stops s d stop t at kind told first (circuit_long e h) = absurd (told_long d files.Circuit s.circuit t told.told told.short h)
bad_circuit_stops s d stop t at kind told first (bad_circuit m k e h) =
    let same = one-fault t m at k kind (told_fault s d t m k told.told h).first first in
    e ∙ (ap (λ (x : ℕ). stops.BadCircuit x k) same.0 ∙ ap (λ (x : CircuitKind). stops.BadCircuit at x) same.1)
bad_circuit_stops s d stop t at kind told first (signals_unreadable has h) = absurd (told_none s d t at kind told.told first has)
bad_circuit_stops s d stop t at kind told first (signals_long e has h) = absurd (told_none s d t at kind told.told first has)
bad_circuit_stops s d stop t at kind told first (bad_signals line k e h) = absurd (told_none s d t at kind told.told first (h.0, h.1))

bad_circuit_ends : (s : Subject) (d : DeskSeen) (stop : Stop) (t : List ℕ) (at : ℕ) (kind : CircuitKind) → IsTold d files.Circuit s.circuit t → IsFirstInCircuit t at kind
    → SubjectStops s d stop → (stop ≡ stops.BadCircuit at kind) ⊎ (stop ≡ stops.OutOfMemory)
bad_circuit_ends s d stop t at kind told first (subject_unread r) = inl (bad_circuit_stops s d stop t at kind told first r)
bad_circuit_ends s d stop t at kind told first (subject_accepted c sig has also) = absurd (told_none s d t at kind told.told first (c, has))
bad_circuit_ends s d stop t at kind told first (subject_memory e) = inr e

bad_circuit_whole : (s : Subject) (d : DeskSeen) (t : List ℕ) (at : ℕ) (kind : CircuitKind) → IsTold d files.Circuit s.circuit t → IsFirstInCircuit t at kind → SubjectOutput s d → ⊥
bad_circuit_whole s d t at kind told first (made_of c sig has also) = told_none s d t at kind told.told first (c, has)

pub bad_circuit_comes : (command : Meaning) (d : DeskSeen) (out err : SinkSeen) (status : Status) → IsAnswer command d out err status → BadCircuitComes command d err status
bad_circuit_comes command d out err status (inl w) s t at kind e told first =
    absurd (bad_circuit_whole s d t at kind told first (subject_output command s d w.whole.bytes w.settled e w.whole.output))
bad_circuit_comes command d out err status (inr a) s t at kind e told first =
    stopped_so command d out err status (stops.BadCircuit at kind) a (bad_circuit_ends s d a.stop t at kind told first (subject_stops command s d out a.stop e a.stopped.cause))

-- ---- a circuit that is too long
past_limit : (d : DeskSeen) (name t : List ℕ) → IsToldTooLong d files.Circuit name t → length t ≤ limit_of files.Circuit → ⊥
past_limit d name t long short = let past : limit_of files.Circuit < length t = long.long in omega arith

long_circuit_stops : (s : Subject) (d : DeskSeen) (stop : Stop) (t : List ℕ) → IsToldTooLong d files.Circuit s.circuit t → ReadStops s d stop → stop ≡ stops.TooLong files.Circuit
long_circuit_stops s d stop t long (circuit_unreadable h) = absurd (long.no_fault h)
long_circuit_stops s d stop t long (circuit_long e h) = e
long_circuit_stops s d stop t long (bad_circuit at kind e h) = absurd (past_limit d s.circuit t long (told_fault s d t at kind long.told h).short)
long_circuit_stops s d stop t long (signals_unreadable has h) = absurd (past_limit d s.circuit t long (told_circuit s d has.0 t long.told has.1).short)
long_circuit_stops s d stop t long (signals_long e has h) = absurd (past_limit d s.circuit t long (told_circuit s d has.0 t long.told has.1).short)
long_circuit_stops s d stop t long (bad_signals line kind e h) = absurd (past_limit d s.circuit t long (told_circuit s d h.0 t long.told h.1).short)

long_circuit_ends : (s : Subject) (d : DeskSeen) (stop : Stop) (t : List ℕ) → IsToldTooLong d files.Circuit s.circuit t → SubjectStops s d stop
    → (stop ≡ stops.TooLong files.Circuit) ⊎ (stop ≡ stops.OutOfMemory)
long_circuit_ends s d stop t long (subject_unread r) = inl (long_circuit_stops s d stop t long r)
long_circuit_ends s d stop t long (subject_accepted c sig has also) = absurd (past_limit d s.circuit t long (told_circuit s d c t long.told has).short)
long_circuit_ends s d stop t long (subject_memory e) = inr e

long_circuit_whole : (s : Subject) (d : DeskSeen) (t : List ℕ) → IsToldTooLong d files.Circuit s.circuit t → SubjectOutput s d → ⊥
long_circuit_whole s d t long (made_of c sig has also) = past_limit d s.circuit t long (told_circuit s d c t long.told has).short

pub long_circuit_comes : (command : Meaning) (d : DeskSeen) (out err : SinkSeen) (status : Status) → IsAnswer command d out err status → LongCircuitComes command d err status
long_circuit_comes command d out err status (inl w) s t e long = absurd (long_circuit_whole s d t long (subject_output command s d w.whole.bytes w.settled e w.whole.output))
long_circuit_comes command d out err status (inr a) s t e long =
    stopped_so command d out err status (stops.TooLong files.Circuit) a (long_circuit_ends s d a.stop t long (subject_stops command s d out a.stop e a.stopped.cause))

-- ---- signals with a fault
-- a text with a first fault spells no signals
faulty : (s : Subject) (d : DeskSeen) (t u : List ℕ) (c e : Parts) (sig : List ℕ) (line : ℕ) (kind : SigKind) → d.old.text s.circuit ≡ Some t → SpellsCircuit t c
    → d.old.text s.signals ≡ Some u → IsFirstInSignals c u line kind → HasCircuit s d e → HasSignals s d e sig → ⊥
faulty s d t u c e sig line kind told spells told_u first has has_signals =
    signals_text.not-both c u sig line kind (signals_spelled s d t u c e sig told spells told_u has has_signals).spells first

bad_signals_stops : (s : Subject) (d : DeskSeen) (stop : Stop) (t u : List ℕ) (c : Parts) (line : ℕ) (kind : SigKind) → IsTold d files.Circuit s.circuit t → SpellsCircuit t c
    → IsTold d files.Signals s.signals u → IsFirstInSignals c u line kind → ReadStops s d stop → stop ≡ stops.BadSignals line kind
bad_signals_stops s d stop t u c line kind told spells also first (circuit_unreadable h) = absurd (told.no_fault h)
bad_signals_stops s d stop t u c line kind told spells also first (circuit_long e h) = absurd (told_long d files.Circuit s.circuit t told.told told.short h)
bad_signals_stops s d stop t u c line kind told spells also first (bad_circuit at k e h) = absurd (no-fault t c at k spells (told_fault s d t at k told.told h).first)
bad_signals_stops s d stop t u c line kind told spells also first (signals_unreadable has h) = absurd (also.no_fault h)
bad_signals_stops s d stop t u c line kind told spells also first (signals_long e has h) = absurd (told_long d files.Signals s.signals u also.told also.short h)
bad_signals_stops s d stop t u c line kind told spells also first (bad_signals m k e h) =
    let same = signals_text.one-fault c u m line k kind (signals_fault s d t u c m k told.told spells also.told h).first first in
    e ∙ (ap (λ (x : ℕ). stops.BadSignals x k) same.0 ∙ ap (λ (x : SigKind). stops.BadSignals line x) same.1)

bad_signals_ends : (s : Subject) (d : DeskSeen) (stop : Stop) (t u : List ℕ) (c : Parts) (line : ℕ) (kind : SigKind) → IsTold d files.Circuit s.circuit t → SpellsCircuit t c
    → IsTold d files.Signals s.signals u → IsFirstInSignals c u line kind → SubjectStops s d stop → (stop ≡ stops.BadSignals line kind) ⊎ (stop ≡ stops.OutOfMemory)
bad_signals_ends s d stop t u c line kind told spells also first (subject_unread r) = inl (bad_signals_stops s d stop t u c line kind told spells also first r)
bad_signals_ends s d stop t u c line kind told spells also first (subject_accepted e sig has has_signals) =
    absurd (faulty s d t u c e sig line kind told.told spells also.told first has has_signals)
bad_signals_ends s d stop t u c line kind told spells also first (subject_memory e) = inr e

bad_signals_whole : (s : Subject) (d : DeskSeen) (t u : List ℕ) (c : Parts) (line : ℕ) (kind : SigKind) → IsTold d files.Circuit s.circuit t → SpellsCircuit t c
    → IsTold d files.Signals s.signals u → IsFirstInSignals c u line kind → SubjectOutput s d → ⊥
bad_signals_whole s d t u c line kind told spells also first (made_of e sig has has_signals) =
    faulty s d t u c e sig line kind told.told spells also.told first has has_signals

pub bad_signals_comes : (command : Meaning) (d : DeskSeen) (out err : SinkSeen) (status : Status) → IsAnswer command d out err status → BadSignalsComes command d err status
bad_signals_comes command d out err status (inl w) s t c u line kind e told spells also first =
    absurd (bad_signals_whole s d t u c line kind told spells also first (subject_output command s d w.whole.bytes w.settled e w.whole.output))
bad_signals_comes command d out err status (inr a) s t c u line kind e told spells also first =
    stopped_so command d out err status (stops.BadSignals line kind) a
    (bad_signals_ends s d a.stop t u c line kind told spells also first (subject_stops command s d out a.stop e a.stopped.cause))

-- ---- signals that are too long
past_signals : (d : DeskSeen) (name u : List ℕ) → IsToldTooLong d files.Signals name u → length u ≤ limit_of files.Signals → ⊥
past_signals d name u past short = let over : limit_of files.Signals < length u = past.long in omega arith

long_signals_stops : (s : Subject) (d : DeskSeen) (stop : Stop) (t u : List ℕ) (c : Parts) → IsTold d files.Circuit s.circuit t → SpellsCircuit t c
    → IsToldTooLong d files.Signals s.signals u → ReadStops s d stop → stop ≡ stops.TooLong files.Signals
long_signals_stops s d stop t u c told spells past (circuit_unreadable h) = absurd (told.no_fault h)
long_signals_stops s d stop t u c told spells past (circuit_long e h) = absurd (told_long d files.Circuit s.circuit t told.told told.short h)
long_signals_stops s d stop t u c told spells past (bad_circuit at k e h) = absurd (no-fault t c at k spells (told_fault s d t at k told.told h).first)
long_signals_stops s d stop t u c told spells past (signals_unreadable has h) = absurd (past.no_fault h)
long_signals_stops s d stop t u c told spells past (signals_long e has h) = e
long_signals_stops s d stop t u c told spells past (bad_signals m k e h) =
    absurd (past_signals d s.signals u past (signals_fault s d t u c m k told.told spells past.told h).short)

long_signals_ends : (s : Subject) (d : DeskSeen) (stop : Stop) (t u : List ℕ) (c : Parts) → IsTold d files.Circuit s.circuit t → SpellsCircuit t c
    → IsToldTooLong d files.Signals s.signals u → SubjectStops s d stop → (stop ≡ stops.TooLong files.Signals) ⊎ (stop ≡ stops.OutOfMemory)
long_signals_ends s d stop t u c told spells past (subject_unread r) = inl (long_signals_stops s d stop t u c told spells past r)
long_signals_ends s d stop t u c told spells past (subject_accepted e sig has also) =
    absurd (past_signals d s.signals u past (signals_spelled s d t u c e sig told.told spells past.told has also).short)
long_signals_ends s d stop t u c told spells past (subject_memory e) = inr e

long_signals_whole : (s : Subject) (d : DeskSeen) (t u : List ℕ) (c : Parts) → IsTold d files.Circuit s.circuit t → SpellsCircuit t c → IsToldTooLong d files.Signals s.signals u
    → SubjectOutput s d → ⊥
long_signals_whole s d t u c told spells past (made_of e sig has also) =
    past_signals d s.signals u past (signals_spelled s d t u c e sig told.told spells past.told has also).short

pub long_signals_comes : (command : Meaning) (d : DeskSeen) (out err : SinkSeen) (status : Status) → IsAnswer command d out err status → LongSignalsComes command d err status
long_signals_comes command d out err status (inl w) s t c u e told spells past =
    absurd (long_signals_whole s d t u c told spells past (subject_output command s d w.whole.bytes w.settled e w.whole.output))
long_signals_comes command d out err status (inr a) s t c u e told spells past =
    stopped_so command d out err status (stops.TooLong files.Signals) a
    (long_signals_ends s d a.stop t u c told spells past (subject_stops command s d out a.stop e a.stopped.cause))

-- ---- a circuit and signals that are accepted
pub read_accepted : (s : Subject) (d : DeskSeen) (stop : Stop) (t u sig : List ℕ) (c : Parts) → IsTold d files.Circuit s.circuit t → SpellsCircuit t c
    → IsTold d files.Signals s.signals u → SpellsSignals c u sig → ReadStops s d stop → ⊥
read_accepted s d stop t u sig c told spells also spells_signals (circuit_unreadable h) = told.no_fault h
read_accepted s d stop t u sig c told spells also spells_signals (circuit_long e h) = told_long d files.Circuit s.circuit t told.told told.short h
read_accepted s d stop t u sig c told spells also spells_signals (bad_circuit at k e h) = no-fault t c at k spells (told_fault s d t at k told.told h).first
read_accepted s d stop t u sig c told spells also spells_signals (signals_unreadable has h) = also.no_fault h
read_accepted s d stop t u sig c told spells also spells_signals (signals_long e has h) = told_long d files.Signals s.signals u also.told also.short h
read_accepted s d stop t u sig c told spells also spells_signals (bad_signals m k e h) =
    signals_text.not-both c u sig m k spells_signals (signals_fault s d t u c m k told.told spells also.told h).first
