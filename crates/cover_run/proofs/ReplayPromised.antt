-- What the answer of a replay command promises.
use Rattle.std.proofs.Common.{◌≡◌, ℕ, ◌<◌, ◌≤◌, Bool, List, length, Some, inl, inr, refl, ◌∙◌, ap, subst, arith}
use Rattle.std.specs.Prelude.{◌⊎◌}
use Rattle.aig_model.specs.Replays.{Shows}
use Rattle.aig_model.specs.WellFormed.{IsCircuit}
use Rattle.aig_model.specs.declared.parts.Parts.{Parts}
use Rattle.aig_eval.specs.Replay.{StartsWrong, FailsAt}
use Rattle.aig_eval.proofs.Lists.{first_once}
use Rattle.aig_eval.proofs.Replays.{reset_not_wrong, shown_not_failing, shown_once}
use Rattle.cover_run.proofs.CircuitTexts.{is-circuit}
use Rattle.wit_text.specs.WitnessText.{SpellsWitness, IsFirstFault as IsFirstInWitness}
use Rattle.wit_text.specs.declared.fault.WitKind.{WitKind}
use Rattle.wit_text.specs.declared.witness.Witness.{Witness}
use Rattle.wit_text.proofs.Answering as witness_text
use Rattle.command_words.specs.declared.stop.File.TheVariants as files
use Rattle.command_words.specs.declared.stop.Misfit.{Misfit}
use Rattle.command_words.specs.declared.stop.Misfit.TheVariants as misfits
use Rattle.command_words.specs.declared.stop.Refusal.TheVariants as refusals
use Rattle.command_words.specs.declared.stop.Stop.{Stop}
use Rattle.command_words.specs.declared.stop.Stop.TheVariants as stops
use Rattle.command_words.specs.declared.stop.Status.{Status}
use Rattle.cover_run.specs.Answer.{IsOutput, IsAnswer, Cause}
use Rattle.cover_run.specs.Covering.{HasCircuit, HasSignals}
use Rattle.command_words.specs.Limits.{limit_of}
use Rattle.cover_run.specs.Promises.{IsTold, IsToldTooLong, Accepts, IsToldSubject, SpellsReplay, IsUndisturbed, IsReplayed, ReplayedCause, ReplayedComes, LongWitnessComes, BadWitnessComes, MisfitComes}
use Rattle.cover_run.specs.Replaying.{IsWitnessText, HasWitnessFault, HasWitness, IsMisfit, IsReplayOutput, replay_line}
use Rattle.cover_run.specs.Seen.{DeskSeen, SinkSeen, HasText, Took}
use Rattle.command_words.specs.Stops.{status_of, settled_status}
use Rattle.command_words.specs.Words.{ReplayCall, Meaning, Replay}
use Rattle.cover_run.proofs.GoalsPromised.{moved}
use Rattle.cover_run.proofs.Promised.{told_long, not_ended, stopped_so}
use Rattle.cover_run.proofs.SubjectPromised.{read_accepted}
use Rattle.cover_run.proofs.Stopped.{WitnessStops, witness_unreadable, witness_long, bad_witness, bad_trace, not_shown, ReplayStops, subject_not_read, after_subject, replay_memory, replay_stops}
use Rattle.cover_run.proofs.WhereTold.{text-at}

replay_output : (command : Meaning) (call : ReplayCall) (d : DeskSeen) (bytes : List ℕ) (settled : Bool) → command ≡ Replay call → IsOutput command d bytes settled
    → IsReplayOutput call d bytes settled
replay_output command call d bytes settled e o = subst (λ (x : Meaning). IsOutput x d bytes settled) e o

stops_of : (command : Meaning) (call : ReplayCall) (d : DeskSeen) (out : SinkSeen) (stop : Stop) → command ≡ Replay call → Cause command d out stop → ReplayStops call d out stop
stops_of command call d out stop e cause = replay_stops call d out stop (subst (λ (x : Meaning). Cause x d out stop) e cause)

-- what is true of the circuit and the signals that were read, is true of those that are told
told_of : (P : Parts → List ℕ → Type 0) (call : ReplayCall) (d : DeskSeen) (c e : Parts) (sig other : List ℕ) → Accepts call.subject d c sig → HasCircuit call.subject d e
    → HasSignals call.subject d e other → P e other → P c sig
told_of P call d c e sig other a has also p =
    moved P call.subject d a.circuit_text a.signals_text c e sig other a.circuit_told a.circuit a.signals_told a.signals has also p

-- with the circuit and signals that are told, what is left
told_stops : (call : ReplayCall) (d : DeskSeen) (out : SinkSeen) (c : Parts) (sig : List ℕ) (stop : Stop) → IsToldSubject call.subject d c sig → ReplayStops call d out stop
    → WitnessStops call d out c sig stop ⊎ (stop ≡ stops.OutOfMemory)
told_stops call d out c sig stop t (subject_not_read r) =
    let a = t.accepts in
    let told : IsTold d files.Circuit call.subject.circuit a.circuit_text = record { told = a.circuit_told; short = a.circuit_short; no_fault = t.circuit_no_fault } in
    let also : IsTold d files.Signals call.subject.signals a.signals_text = record { told = a.signals_told; short = a.signals_short; no_fault = t.signals_no_fault } in
    absurd (read_accepted call.subject d stop a.circuit_text a.signals_text sig c told a.circuit also a.signals r)
told_stops call d out c sig stop t (after_subject e other has also h) =
    inl (told_of (λ (x : Parts) (y : List ℕ). WitnessStops call d out x y stop) call d c e sig other t.accepts has also h)
told_stops call d out c sig stop t (replay_memory e) = inr e

-- ---- the witness that is told is the one meant
told_witness : (call : ReplayCall) (d : DeskSeen) (c : Parts) (w : Witness) (u : List ℕ) → d.old.text call.witness ≡ Some u → HasWitness call d c w → IsWitnessText c w u
told_witness call d c w u told has = text-at d call.witness u (IsWitnessText c w) told has

told_fault : (call : ReplayCall) (d : DeskSeen) (c : Parts) (at : ℕ) (kind : WitKind) (u : List ℕ) → d.old.text call.witness ≡ Some u
    → HasText d call.witness (HasWitnessFault c at kind) → HasWitnessFault c at kind u
told_fault call d c at kind u told has = text-at d call.witness u (HasWitnessFault c at kind) told has

same_witness : (call : ReplayCall) (d : DeskSeen) (c : Parts) (v w : Witness) (u : List ℕ) → d.old.text call.witness ≡ Some u
    → SpellsWitness (length c.latches) (length c.inputs) u w → HasWitness call d c v → v ≡ w
same_witness call d c v w u told spells has =
    witness_text.one-witness (length c.latches) (length c.inputs) u v w (told_witness call d c v u told has).spells spells

faulty : (call : ReplayCall) (d : DeskSeen) (c : Parts) (w : Witness) (at : ℕ) (kind : WitKind) (u : List ℕ) → d.old.text call.witness ≡ Some u
    → IsFirstInWitness (length c.latches) (length c.inputs) u at kind → HasWitness call d c w → ⊥
faulty call d c w at kind u told first has =
    witness_text.not-both (length c.latches) (length c.inputs) u w at kind (told_witness call d c w u told has).spells first

-- ---- one misfit
-- a trace that shows its property has none
shown_fits : (c : Parts) (sig : List ℕ) (w : Witness) (misfit : Misfit) → IsCircuit c → Shows c sig w.trace w.property → IsMisfit c sig w misfit → ⊥
shown_fits c sig w (misfits.NotReset k) ok shows h = reset_not_wrong c w.trace.start k shows.reset h.here
shown_fits c sig w (misfits.Constraint t) ok shows h = shown_not_failing c sig w.trace w.property t ok shows h.1.here
shown_fits c sig w misfits.Property ok shows h = h.2 (shown_once c sig w.trace h.0 w.property ok h.1 shows)

one_misfit : (c : Parts) (sig : List ℕ) (w : Witness) (m n : Misfit) → IsCircuit c → IsMisfit c sig w m → IsMisfit c sig w n → m ≡ n
one_misfit c sig w (misfits.NotReset j) (misfits.NotReset k) ok h i = ap (λ (x : ℕ). misfits.NotReset x) (first_once (StartsWrong c w.trace.start) j k h i)
one_misfit c sig w (misfits.NotReset j) (misfits.Constraint t) ok h i = absurd (reset_not_wrong c w.trace.start j i.0 h.here)
one_misfit c sig w (misfits.NotReset j) misfits.Property ok h i = absurd (reset_not_wrong c w.trace.start j i.1.reset h.here)
one_misfit c sig w (misfits.Constraint s) (misfits.NotReset k) ok h i = absurd (reset_not_wrong c w.trace.start k h.0 i.here)
one_misfit c sig w (misfits.Constraint s) (misfits.Constraint t) ok h i = ap (λ (x : ℕ). misfits.Constraint x) (first_once (FailsAt c w.trace) s t h.1 i.1)
one_misfit c sig w (misfits.Constraint s) misfits.Property ok h i = absurd (shown_not_failing c sig w.trace i.0 s ok i.1 h.1.here)
one_misfit c sig w misfits.Property (misfits.NotReset k) ok h i = absurd (reset_not_wrong c w.trace.start k h.1.reset i.here)
one_misfit c sig w misfits.Property (misfits.Constraint t) ok h i = absurd (shown_not_failing c sig w.trace h.0 t ok h.1 i.1.here)
one_misfit c sig w misfits.Property misfits.Property ok h i = refl

-- ---- a whole output
shown_by : (call : ReplayCall) (d : DeskSeen) (c : Parts) (sig : List ℕ) (bytes : List ℕ) (settled : Bool) (u : List ℕ) → Accepts call.subject d c sig
    → d.old.text call.witness ≡ Some u → IsReplayOutput call d bytes settled → (v : Witness) × IsWitnessText c v u × Shows c sig v.trace v.property × (bytes ≡ replay_line v)
shown_by call d c sig bytes settled u a told o = (
  o.witness,
  told_of (λ (x : Parts) (y : List ℕ). IsWitnessText x o.witness u) call d c o.circuit sig o.signals a o.has_circuit o.has_signals
      (told_witness call d o.circuit o.witness u told o.has_witness),
  told_of (λ (x : Parts) (y : List ℕ). Shows x y o.witness.trace o.witness.property) call d c o.circuit sig o.signals a o.has_circuit o.has_signals o.shows,
  o.bytes_are,
)

replayed_by : (call : ReplayCall) (d : DeskSeen) (out : SinkSeen) (status : Status) (c : Parts) (sig : List ℕ) (w : Witness) (bytes : List ℕ) (settled : Bool)
    → Accepts call.subject d c sig → SpellsReplay call d c w → IsReplayOutput call d bytes settled → Took out bytes → status ≡ settled_status settled
    → IsReplayed c sig w out status
replayed_by call d out status c sig w bytes settled a s o took e =
    let found = shown_by call d c sig bytes settled s.text a s.told o in
    let same : found.0 ≡ w = witness_text.one-witness (length c.latches) (length c.inputs) s.text found.0 w found.1.spells s.is_text.spells in
    record {
      settled = e ∙ ap settled_status o.settled_is;
      shows = subst (λ (x : Witness). Shows c sig x.trace x.property) same found.2;
      took = subst (λ (xs : List ℕ). Took out xs) (found.3 ∙ ap replay_line same) took;
    }

pub replayed : (command : Meaning) (d : DeskSeen) (out err : SinkSeen) (status : Status) → IsAnswer command d out err status → ReplayedCause command d out status
replayed command d out err status (inl w) call c sig v e a s ended =
    replayed_by call d out status c sig v w.whole.bytes w.settled a s (replay_output command call d w.whole.bytes w.settled e w.whole.output) w.whole.took w.status_is
replayed command d out err status (inr n) call c sig v e a s ended = absurd (not_ended n.stop status n.status_is ended)

shown_stop : (call : ReplayCall) (d : DeskSeen) (out : SinkSeen) (c : Parts) (sig : List ℕ) (w : Witness) (stop : Stop) → IsCircuit c → SpellsReplay call d c w
    → Shows c sig w.trace w.property → IsUndisturbed (Replay call) d out → WitnessStops call d out c sig stop → ⊥
shown_stop call d out c sig w stop ok s shows u (witness_unreadable h) = u.files files.Witness h
shown_stop call d out c sig w stop ok s shows u (witness_long e h) = told_long d files.Witness call.witness s.text s.told s.is_text.short h
shown_stop call d out c sig w stop ok s shows u (bad_witness at kind e h) =
    witness_text.not-both (length c.latches) (length c.inputs) s.text w at kind s.is_text.spells (told_fault call d c at kind s.text s.told h).first
shown_stop call d out c sig w stop ok s shows u (bad_trace misfit e v has h) =
    shown_fits c sig w misfit ok shows (subst (λ (x : Witness). IsMisfit c sig x misfit) (same_witness call d c v w s.text s.told s.is_text.spells has) h)
shown_stop call d out c sig w stop ok s shows u (not_shown h v has other) = u.output h

undisturbed_stop : (call : ReplayCall) (d : DeskSeen) (out : SinkSeen) (c : Parts) (sig : List ℕ) (w : Witness) (stop : Stop) → IsCircuit c → Accepts call.subject d c sig
    → SpellsReplay call d c w → Shows c sig w.trace w.property → IsUndisturbed (Replay call) d out → ReplayStops call d out stop → stop ≡ stops.OutOfMemory
undisturbed_stop call d out c sig w stop ok a s shows u h =
    let told : IsToldSubject call.subject d c sig = record { accepts = a; circuit_no_fault = u.files files.Circuit; signals_no_fault = u.files files.Signals } in
    elim (told_stops call d out c sig stop told h) [
      | inl left ↦ absurd (shown_stop call d out c sig w stop ok s shows u left)
      | inr e ↦ e
    ]

pub replayed_comes : (command : Meaning) (d : DeskSeen) (out err : SinkSeen) (status : Status) → IsAnswer command d out err status → ReplayedComes command d out status
replayed_comes command d out err status (inl w) call c sig v e a s shows u =
    inl (replayed_by call d out status c sig v w.whole.bytes w.settled a s (replay_output command call d w.whole.bytes w.settled e w.whole.output) w.whole.took w.status_is)
replayed_comes command d out err status (inr n) call c sig v e a s shows u =
    let by = stops_of command call d out n.stop e n.stopped.cause in
    let memory = undisturbed_stop call d out c sig v n.stop (is-circuit a.circuit_text c a.circuit) a s shows (subst (λ (x : Meaning). IsUndisturbed x d out) e u) by in
    inr (n.status_is ∙ ap status_of memory)

-- ---- the refusals of the witness come
past_witness : (d : DeskSeen) (name u : List ℕ) → IsToldTooLong d files.Witness name u → length u ≤ limit_of files.Witness → ⊥
past_witness d name u past short = let over : limit_of files.Witness < length u = past.long in omega arith

long_stops : (call : ReplayCall) (d : DeskSeen) (out : SinkSeen) (c : Parts) (sig : List ℕ) (stop : Stop) (u : List ℕ) → IsToldTooLong d files.Witness call.witness u
    → WitnessStops call d out c sig stop → stop ≡ stops.TooLong files.Witness
long_stops call d out c sig stop u past (witness_unreadable h) = absurd (past.no_fault h)
long_stops call d out c sig stop u past (witness_long e h) = e
long_stops call d out c sig stop u past (bad_witness at kind e h) = absurd (past_witness d call.witness u past (told_fault call d c at kind u past.told h).short)
long_stops call d out c sig stop u past (bad_trace misfit e v has h) = absurd (past_witness d call.witness u past (told_witness call d c v u past.told has).short)
long_stops call d out c sig stop u past (not_shown h v has other) = absurd (past_witness d call.witness u past (told_witness call d c v u past.told has).short)

-- a stop that is this one, or memory ran out
either : (call : ReplayCall) (d : DeskSeen) (out : SinkSeen) (c : Parts) (sig : List ℕ) (stop wanted : Stop) → IsToldSubject call.subject d c sig
    → (WitnessStops call d out c sig stop → stop ≡ wanted) → ReplayStops call d out stop → (stop ≡ wanted) ⊎ (stop ≡ stops.OutOfMemory)
either call d out c sig stop wanted t then_ h = elim (told_stops call d out c sig stop t h) [
  | inl left ↦ inl (then_ left)
  | inr e ↦ inr e
]

pub long_witness_comes : (command : Meaning) (d : DeskSeen) (out err : SinkSeen) (status : Status) → IsAnswer command d out err status → LongWitnessComes command d err status
long_witness_comes command d out err status (inl w) call c sig u e t past =
    let found = shown_by call d c sig w.whole.bytes w.settled u t.accepts past.told (replay_output command call d w.whole.bytes w.settled e w.whole.output) in
    absurd (past_witness d call.witness u past found.1.short)
long_witness_comes command d out err status (inr n) call c sig u e t past =
    stopped_so command d out err status (stops.TooLong files.Witness) n
    (either call d out c sig n.stop (stops.TooLong files.Witness) t (long_stops call d out c sig n.stop u past) (stops_of command call d out n.stop e n.stopped.cause))

bad_witness_stops : (call : ReplayCall) (d : DeskSeen) (out : SinkSeen) (c : Parts) (sig : List ℕ) (stop : Stop) (u : List ℕ) (at : ℕ) (kind : WitKind)
    → IsTold d files.Witness call.witness u → IsFirstInWitness (length c.latches) (length c.inputs) u at kind → WitnessStops call d out c sig stop
    → stop ≡ stops.Refused (refusals.Witness at kind)
bad_witness_stops call d out c sig stop u at kind told first (witness_unreadable h) = absurd (told.no_fault h)
bad_witness_stops call d out c sig stop u at kind told first (witness_long e h) = absurd (told_long d files.Witness call.witness u told.told told.short h)
bad_witness_stops call d out c sig stop u at kind told first (bad_witness m k e h) =
    let same = witness_text.one-fault (length c.latches) (length c.inputs) u m at k kind (told_fault call d c m k u told.told h).first first in
    e ∙ (ap (λ (x : ℕ). stops.Refused (refusals.Witness x k)) same.0 ∙ ap (λ (x : WitKind). stops.Refused (refusals.Witness at x)) same.1)
bad_witness_stops call d out c sig stop u at kind told first (bad_trace misfit e v has h) = absurd (faulty call d c v at kind u told.told first has)
bad_witness_stops call d out c sig stop u at kind told first (not_shown h v has other) = absurd (faulty call d c v at kind u told.told first has)

pub bad_witness_comes : (command : Meaning) (d : DeskSeen) (out err : SinkSeen) (status : Status) → IsAnswer command d out err status → BadWitnessComes command d err status
bad_witness_comes command d out err status (inl w) call c sig u at kind e t told first =
    let found = shown_by call d c sig w.whole.bytes w.settled u t.accepts told.told (replay_output command call d w.whole.bytes w.settled e w.whole.output) in
    absurd (witness_text.not-both (length c.latches) (length c.inputs) u found.0 at kind found.1.spells first)
bad_witness_comes command d out err status (inr n) call c sig u at kind e t told first =
    stopped_so command d out err status (stops.Refused (refusals.Witness at kind)) n
    (either call d out c sig n.stop (stops.Refused (refusals.Witness at kind)) t (bad_witness_stops call d out c sig n.stop u at kind told first)
    (stops_of command call d out n.stop e n.stopped.cause))

misfit_stops : (call : ReplayCall) (d : DeskSeen) (out : SinkSeen) (c : Parts) (sig : List ℕ) (stop : Stop) (u : List ℕ) (w : Witness) (misfit : Misfit) → IsCircuit c
    → IsTold d files.Witness call.witness u → SpellsWitness (length c.latches) (length c.inputs) u w → IsMisfit c sig w misfit → WitnessStops call d out c sig stop
    → stop ≡ stops.Refused (refusals.Trace misfit)
misfit_stops call d out c sig stop u w misfit ok told spells is (witness_unreadable h) = absurd (told.no_fault h)
misfit_stops call d out c sig stop u w misfit ok told spells is (witness_long e h) = absurd (told_long d files.Witness call.witness u told.told told.short h)
misfit_stops call d out c sig stop u w misfit ok told spells is (bad_witness at kind e h) =
    absurd (witness_text.not-both (length c.latches) (length c.inputs) u w at kind spells (told_fault call d c at kind u told.told h).first)
misfit_stops call d out c sig stop u w misfit ok told spells is (bad_trace other e v has h) =
    let here = subst (λ (x : Witness). IsMisfit c sig x other) (same_witness call d c v w u told.told spells has) h in
    e ∙ ap (λ (x : Misfit). stops.Refused (refusals.Trace x)) (one_misfit c sig w other misfit ok here is)
misfit_stops call d out c sig stop u w misfit ok told spells is (not_shown h v has shows) =
    absurd (shown_fits c sig w misfit ok (subst (λ (x : Witness). Shows c sig x.trace x.property) (same_witness call d c v w u told.told spells has) shows) is)

pub misfit_comes : (command : Meaning) (d : DeskSeen) (out err : SinkSeen) (status : Status) → IsAnswer command d out err status → MisfitComes command d err status
misfit_comes command d out err status (inl w) call c sig u v misfit e t told spells is =
    let found = shown_by call d c sig w.whole.bytes w.settled u t.accepts told.told (replay_output command call d w.whole.bytes w.settled e w.whole.output) in
    let same : found.0 ≡ v = witness_text.one-witness (length c.latches) (length c.inputs) u found.0 v found.1.spells spells in
    absurd (shown_fits c sig v misfit (is-circuit t.accepts.circuit_text c t.accepts.circuit) (subst (λ (x : Witness). Shows c sig x.trace x.property) same found.2) is)
misfit_comes command d out err status (inr n) call c sig u v misfit e t told spells is =
    stopped_so command d out err status (stops.Refused (refusals.Trace misfit)) n
    (either call d out c sig n.stop (stops.Refused (refusals.Trace misfit)) t
    (misfit_stops call d out c sig n.stop u v misfit (is-circuit t.accepts.circuit_text c t.accepts.circuit) told spells is)
    (stops_of command call d out n.stop e n.stopped.cause))
