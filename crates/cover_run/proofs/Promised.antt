-- What the answer of a run promises, whatever the command.
use Rattle.std.proofs.Common.{◌≡◌, ◌↔◌, ℕ, ◌<◌, ◌≤◌, Bool, true, false, List, [], ◌∷◌, length, Some, inl, inr, refl, sym, ◌∙◌, ap, subst, arith}
use Rattle.std.specs.Prelude.{◌⊎◌, IsSomeAnd}
use Rattle.std.proofs.lemmas.Option.{none-some}
use Rattle.run_io.specs.Desk.{FileGiven, HasSameFaults}
use Rattle.command_words.specs.declared.stop.CircuitKind.{CircuitKind}
use Rattle.signal_list.specs.declared.fault.SigKind.{SigKind}
use Rattle.command_words.specs.declared.stop.File.{File}
use Rattle.command_words.specs.declared.stop.Measure.{Measure}
use Rattle.command_words.specs.declared.stop.Refusal.{Refusal}
use Rattle.command_words.specs.declared.stop.Stop.{Stop}
use Rattle.command_words.specs.declared.stop.Stop.TheVariants as stops
use Rattle.command_words.specs.declared.stop.Status.{Status}
use Rattle.command_words.specs.declared.stop.Status.TheVariants as statuses
use Rattle.cover_run.specs.Answer.{HasBadCircuit, HasBadSignals, IsTooLarge, IsRefused, IsOutput, IsPartial, IsStopped, IsAnswer, IsStoppedAnswer, Cause}
use Rattle.command_words.specs.Limits.{limit_of}
use Rattle.cover_run.specs.Files.{NamedFile, files_of, name_of, IsTooLong, AreWithin, EndsAt, EndsFailed, IsWithin, HasFailed, IsPast, IsAllRead, HasRead}
use Rattle.cover_run.specs.Promises.{fixed_text, IsPrinted, PrintedCause, PrintedComes, HasEnded, Answers, ReadFaultCause, BadCircuitCause, BadSignalsCause, LimitCause, WithinLimits, AllRead, NoFault, WrittenCause, RefusedCause, PrefixAfterFault, SaysLine}
use Rattle.cover_run.specs.Seen.{DeskSeen, SinkSeen, HasFaulted, Failed, Took, TookWhatItCould}
use Rattle.command_words.specs.Stops.{line_of, status_of, settled_status}
use Rattle.command_words.specs.Words.{Meaning, Usage, Help, Version, Cover, Goals, Replay, Lrat}
use Rattle.command_words.specs.About.{help_text, version_text}
use Rattle.cover_run.proofs.Opening.{within_none, all_within}
use Rattle.cover_run.proofs.Stopped.{fixed_stops}
use Rattle.cover_run.proofs.WhereTold.{IfSome-at}

pub told_long : (d : DeskSeen) (f : File) (name t : List ℕ) → d.old.text name ≡ Some t → length t ≤ limit_of f → IsTooLong d f name → ⊥
told_long d f name t told short long =
    let past : limit_of f < length t = IfSome-at (λ (x : List ℕ). limit_of f < length x) (d.old.text name) t told long in
    omega arith

-- ---- a whole output has status 0 or 1, and a stop has neither
pub settled_either : (settled : Bool) (status : Status) → status ≡ settled_status settled → HasEnded status
settled_either true status e = inl e
settled_either false status e = inr e

pub not_ended : (stop : Stop) (status : Status) → status ≡ status_of stop → HasEnded status → ⊥
not_ended stops.Usage status e ended = elim ended [ inl h ↦ cc | inr h ↦ cc ]
not_ended (stops.Unreadable f) status e ended = elim ended [ inl h ↦ cc | inr h ↦ cc ]
not_ended (stops.TooLong f) status e ended = elim ended [ inl h ↦ cc | inr h ↦ cc ]
not_ended (stops.TooLarge m) status e ended = elim ended [ inl h ↦ cc | inr h ↦ cc ]
not_ended (stops.BadCircuit at kind) status e ended = elim ended [ inl h ↦ cc | inr h ↦ cc ]
not_ended (stops.BadSignals line kind) status e ended = elim ended [ inl h ↦ cc | inr h ↦ cc ]
not_ended (stops.Refused why) status e ended = elim ended [ inl h ↦ cc | inr h ↦ cc ]
not_ended stops.CannotWrite status e ended = elim ended [ inl h ↦ cc | inr h ↦ cc ]
not_ended stops.OutOfMemory status e ended = elim ended [ inl h ↦ cc | inr h ↦ cc ]

-- ---- what each status of a stop says
abbrev Says : Meaning → DeskSeen → SinkSeen → SinkSeen → Status → Type 0
Says command d out err statuses.Settled = ⊥
Says command d out err statuses.Open = ⊥
Says command d out err statuses.Usage = command ≡ Usage
Says command d out err statuses.ReadFault =
    (f : File) × IsSomeAnd (name_of command f) (HasFaulted d) × HasFailed (files_of command) d f × TookWhatItCould err (line_of (stops.Unreadable f))
Says command d out err statuses.BadCircuit = (at : ℕ) × (kind : CircuitKind) × HasBadCircuit command d at kind × TookWhatItCould err (line_of (stops.BadCircuit at kind))
Says command d out err statuses.BadSignals = (line : ℕ) × (kind : SigKind) × HasBadSignals command d line kind × TookWhatItCould err (line_of (stops.BadSignals line kind))
Says command d out err statuses.Limit =
    ((f : File) × IsSomeAnd (name_of command f) (IsTooLong d f) × IsPast (files_of command) d f × TookWhatItCould err (line_of (stops.TooLong f)))
    ⊎ ((m : Measure) × IsTooLarge command d m × IsWithin (files_of command) d × TookWhatItCould err (line_of (stops.TooLarge m)))
Says command d out err statuses.WriteFault = Failed out × IsPartial command d out
Says command d out err statuses.OutOfMemory = Unit {0}
Says command d out err statuses.Refused = (why : Refusal) × IsRefused command d why × TookWhatItCould err (line_of (stops.Refused why))

says : (command : Meaning) (d : DeskSeen) (out err : SinkSeen) (stop : Stop) → IsStopped command d out stop → TookWhatItCould err (line_of stop) → Says command d out err (status_of stop)
says command d out err stops.Usage h said = h.cause
says command d out err (stops.Unreadable f) h said = (f, h.cause.1, h.read, said)
says command d out err (stops.TooLong f) h said = inl (f, h.cause.1, h.read.0, said)
says command d out err (stops.TooLarge m) h said = inr (m, h.cause, h.read.within, said)
says command d out err (stops.BadCircuit at kind) h said = (at, kind, h.cause, said)
says command d out err (stops.BadSignals line kind) h said = (line, kind, h.cause, said)
says command d out err (stops.Refused why) h said = (why, h.cause, said)
says command d out err stops.CannotWrite h said = (h.cause.0, h.left)
says command d out err stops.OutOfMemory h said = tt

-- a status other than 0 and 1 comes from a stop, and so it says what it must
meant : (command : Meaning) (d : DeskSeen) (out err : SinkSeen) (status wanted : Status) → IsAnswer command d out err status → status ≡ wanted → (HasEnded wanted → ⊥)
    → Says command d out err wanted
meant command d out err status wanted (inl w) e other = absurd (other (subst HasEnded e (settled_either w.settled status w.status_is)))
meant command d out err status wanted (inr s) e other = subst (Says command d out err) (sym s.status_is ∙ e) (says command d out err s.stop s.stopped s.said)

none_ended : (stop : Stop) → HasEnded (status_of stop) → ⊥
none_ended stop ended = not_ended stop (status_of stop) refl ended

pub read_fault : (command : Meaning) (d : DeskSeen) (out err : SinkSeen) (status : Status) → IsAnswer command d out err status → ReadFaultCause command d err status
read_fault command d out err status a e = meant command d out err status statuses.ReadFault a e (λ h. elim h [ inl i ↦ cc | inr i ↦ cc ])

pub bad_circuit : (command : Meaning) (d : DeskSeen) (out err : SinkSeen) (status : Status) → IsAnswer command d out err status → BadCircuitCause command d err status
bad_circuit command d out err status a e = meant command d out err status statuses.BadCircuit a e (λ h. elim h [ inl i ↦ cc | inr i ↦ cc ])

pub bad_signals : (command : Meaning) (d : DeskSeen) (out err : SinkSeen) (status : Status) → IsAnswer command d out err status → BadSignalsCause command d err status
bad_signals command d out err status a e = meant command d out err status statuses.BadSignals a e (λ h. elim h [ inl i ↦ cc | inr i ↦ cc ])

pub limit : (command : Meaning) (d : DeskSeen) (out err : SinkSeen) (status : Status) → IsAnswer command d out err status → LimitCause command d err status
limit command d out err status a e = meant command d out err status statuses.Limit a e (λ h. elim h [ inl i ↦ cc | inr i ↦ cc ])

pub write_fault : (command : Meaning) (d : DeskSeen) (out err : SinkSeen) (status : Status) → IsAnswer command d out err status → status ≡ statuses.WriteFault → Failed out
write_fault command d out err status a e = (meant command d out err status statuses.WriteFault a e (none_ended stops.CannotWrite)).0

pub refused : (command : Meaning) (d : DeskSeen) (out err : SinkSeen) (status : Status) → IsAnswer command d out err status → RefusedCause command d err status
refused command d out err status a e = meant command d out err status statuses.Refused a e (λ h. elim h [ inl i ↦ cc | inr i ↦ cc ])

-- ---- Usage
-- a command that was called never ends so
used : (command : Meaning) (d : DeskSeen) (out : SinkSeen) (stop : Stop) → Cause command d out stop → command ≡ Usage → status_of stop ≡ statuses.Usage
used command d out stops.Usage cause e = refl
used command d out (stops.Unreadable f) cause e = absurd (let none = subst (λ (x : Meaning). Cause x d out (stops.Unreadable f)) e cause in none.1)
used command d out (stops.TooLong f) cause e = absurd (let none = subst (λ (x : Meaning). Cause x d out (stops.TooLong f)) e cause in none.1)
used command d out (stops.TooLarge m) cause e = absurd (subst (λ (x : Meaning). Cause x d out (stops.TooLarge m)) e cause)
used command d out (stops.BadCircuit at kind) cause e = absurd (subst (λ (x : Meaning). Cause x d out (stops.BadCircuit at kind)) e cause)
used command d out (stops.BadSignals line kind) cause e = absurd (subst (λ (x : Meaning). Cause x d out (stops.BadSignals line kind)) e cause)
used command d out (stops.Refused why) cause e = absurd (subst (λ (x : Meaning). Cause x d out (stops.Refused why)) e cause)
used command d out stops.CannotWrite cause e = absurd (let none = subst (λ (x : Meaning). Cause x d out stops.CannotWrite) e cause in none.1.2)
used command d out stops.OutOfMemory cause e = absurd (cause e)

pub usage : (command : Meaning) (d : DeskSeen) (out err : SinkSeen) (status : Status) → IsAnswer command d out err status → (status ≡ statuses.Usage) ↔ (command ≡ Usage)
usage Usage d out err status (inl w) = absurd w.whole.output
usage Help d out err status (inl w) = (λ e. absurd (not_ended stops.Usage status e (settled_either w.settled status w.status_is)), λ e. absurd cc)
usage Version d out err status (inl w) = (λ e. absurd (not_ended stops.Usage status e (settled_either w.settled status w.status_is)), λ e. absurd cc)
usage (Cover call) d out err status (inl w) = (λ e. absurd (not_ended stops.Usage status e (settled_either w.settled status w.status_is)), λ e. absurd cc)
usage (Goals s) d out err status (inl w) = (λ e. absurd (not_ended stops.Usage status e (settled_either w.settled status w.status_is)), λ e. absurd cc)
usage (Replay call) d out err status (inl w) = (λ e. absurd (not_ended stops.Usage status e (settled_either w.settled status w.status_is)), λ e. absurd cc)
usage (Lrat call) d out err status (inl w) = (λ e. absurd (not_ended stops.Usage status e (settled_either w.settled status w.status_is)), λ e. absurd cc)
usage command d out err status (inr s) =
    (λ e. meant command d out err status statuses.Usage (inr s) e (none_ended stops.Usage), λ e. s.status_is ∙ used command d out s.stop s.stopped.cause e)

-- ---- what was given, and faults
failed_first : (f : NamedFile) (fs : List NamedFile) (last : File) (g : FileGiven) (gs : List FileGiven) → EndsFailed last f (g ∷ gs) → AreWithin (f ∷ fs) (g ∷ gs)
failed_first f fs last g [] h = (h.1, h.2, within_none fs)
failed_first f fs last g (k ∷ gs) h = absurd h

failed_within : (d : DeskSeen) (last : File) (fs : List NamedFile) (gs : List FileGiven) → EndsAt d (EndsFailed last) fs gs → AreWithin fs gs
failed_within d last [] gs h = absurd h
failed_within d last (f ∷ fs) [] h = tt
failed_within d last (f ∷ fs) (g ∷ gs) (inl here) = failed_first f fs last g gs here
failed_within d last (f ∷ fs) (g ∷ gs) (inr later) = (later.0.named, later.0.within, failed_within d last fs gs later.1)

fine_within : (command : Meaning) (d : DeskSeen) (stop : Stop) → HasRead (files_of command) d stop → (status_of stop ≡ statuses.Limit → ⊥) → IsWithin (files_of command) d
fine_within command d stops.Usage h other = h.within
fine_within command d (stops.Unreadable f) h other = (h.0, h.1, failed_within d f (files_of command) h.0 h.2)
fine_within command d (stops.TooLong f) h other = absurd (other refl)
fine_within command d (stops.TooLarge m) h other = h.within
fine_within command d (stops.BadCircuit at kind) h other = h.within
fine_within command d (stops.BadSignals line kind) h other = h.within
fine_within command d (stops.Refused why) h other = h.within
fine_within command d stops.CannotWrite h other = all_within (files_of command) d h
fine_within command d stops.OutOfMemory h other = h.within

unfaulted : (command : Meaning) (d : DeskSeen) (stop : Stop) → HasRead (files_of command) d stop → (status_of stop ≡ statuses.ReadFault → ⊥) → HasSameFaults d.old d.new
unfaulted command d stops.Usage h other = h.no_fault
unfaulted command d (stops.Unreadable f) h other = absurd (other refl)
unfaulted command d (stops.TooLong f) h other = h.1
unfaulted command d (stops.TooLarge m) h other = h.no_fault
unfaulted command d (stops.BadCircuit at kind) h other = h.no_fault
unfaulted command d (stops.BadSignals line kind) h other = h.no_fault
unfaulted command d (stops.Refused why) h other = h.no_fault
unfaulted command d stops.CannotWrite h other = h.no_fault
unfaulted command d stops.OutOfMemory h other = h.no_fault

pub within_limits : (command : Meaning) (d : DeskSeen) (out err : SinkSeen) (status : Status) → IsAnswer command d out err status → WithinLimits command d status
within_limits command d out err status (inl w) other = all_within (files_of command) d w.whole.read
within_limits command d out err status (inr s) other = fine_within command d s.stop s.stopped.read (λ e. other (s.status_is ∙ e))

pub no_fault : (command : Meaning) (d : DeskSeen) (out err : SinkSeen) (status : Status) → IsAnswer command d out err status → NoFault d status
no_fault command d out err status (inl w) other = w.whole.read.no_fault
no_fault command d out err status (inr s) other = unfaulted command d s.stop s.stopped.read (λ e. other (s.status_is ∙ e))

-- a stop with status 7 is one of writing
not_written : (command : Meaning) (d : DeskSeen) (stop : Stop) → HasRead (files_of command) d stop → status_of stop ≡ statuses.WriteFault → IsAllRead (files_of command) d
not_written command d stops.Usage h e = absurd cc
not_written command d (stops.Unreadable f) h e = absurd cc
not_written command d (stops.TooLong f) h e = absurd cc
not_written command d (stops.TooLarge m) h e = absurd cc
not_written command d (stops.BadCircuit at kind) h e = absurd cc
not_written command d (stops.BadSignals line kind) h e = absurd cc
not_written command d (stops.Refused why) h e = absurd cc
not_written command d stops.CannotWrite h e = h
not_written command d stops.OutOfMemory h e = absurd cc

pub all_read : (command : Meaning) (d : DeskSeen) (out err : SinkSeen) (status : Status) → IsAnswer command d out err status → AllRead command d status
all_read command d out err status (inl w) ended = w.whole.read
all_read command d out err status (inr s) (inl ended) = absurd (not_ended s.stop status s.status_is ended)
all_read command d out err status (inr s) (inr fault) = not_written command d s.stop s.stopped.read (sym s.status_is ∙ fault)

-- ---- what is written
pub written : (command : Meaning) (d : DeskSeen) (out err : SinkSeen) (status : Status) → IsAnswer command d out err status → WrittenCause command d out status
written command d out err status (inl w) ended =
    record { bytes = w.whole.bytes; settled = w.settled; output = w.whole.output; took = w.whole.took; counts = w.whole.counts; status_is = w.status_is }
written command d out err status (inr s) ended = absurd (not_ended s.stop status s.status_is ended)

pub prefix_after_fault : (command : Meaning) (d : DeskSeen) (out err : SinkSeen) (status : Status) → IsAnswer command d out err status → PrefixAfterFault command d out status
prefix_after_fault command d out err status a e = (meant command d out err status statuses.WriteFault a e (none_ended stops.CannotWrite)).1

pub says_line : (command : Meaning) (d : DeskSeen) (out err : SinkSeen) (status : Status) → IsAnswer command d out err status → SaysLine command d out err status
says_line command d out err status (inl w) = inl (settled_either w.settled status w.status_is)
says_line command d out err status (inr s) = inr (s.stop, s.status_is, s.stopped.cause, s.said)

-- a run that stops so, or for a lack of memory, answers so
pub stopped_so : (command : Meaning) (d : DeskSeen) (out err : SinkSeen) (status : Status) (wanted : Stop) → (s : IsStoppedAnswer command d out err status)
    → (s.stop ≡ wanted) ⊎ (s.stop ≡ stops.OutOfMemory) → Answers err status wanted
stopped_so command d out err status wanted s (inl e) = inl (s.status_is ∙ ap status_of e, subst (λ (x : Stop). TookWhatItCould err (line_of x)) e s.said)
stopped_so command d out err status wanted s (inr e) = inr (s.status_is ∙ ap status_of e)

-- ---- a fixed text
text_whole : (command : Meaning) (d : DeskSeen) (text bytes : List ℕ) (settled : Bool) → fixed_text command ≡ Some text → IsOutput command d bytes settled
    → (bytes ≡ text) × (settled ≡ true)
text_whole Usage d text bytes settled e o = absurd o
text_whole Help d text bytes settled e o = (let same : help_text ≡ text = cc in o.0 ∙ same, o.1)
text_whole Version d text bytes settled e o = (let same : version_text ≡ text = cc in o.0 ∙ same, o.1)
text_whole (Cover call) d text bytes settled e o = absurd (none-some text e)
text_whole (Goals s) d text bytes settled e o = absurd (none-some text e)
text_whole (Replay call) d text bytes settled e o = absurd (none-some text e)
text_whole (Lrat call) d text bytes settled e o = absurd (none-some text e)

with_text : (command : Meaning) (text : List ℕ) → fixed_text command ≡ Some text → (command ≡ Help) ⊎ (command ≡ Version)
with_text Usage text e = absurd (none-some text e)
with_text Help text e = inl refl
with_text Version text e = inr refl
with_text (Cover call) text e = absurd (none-some text e)
with_text (Goals s) text e = absurd (none-some text e)
with_text (Replay call) text e = absurd (none-some text e)
with_text (Lrat call) text e = absurd (none-some text e)

printed_by : (command : Meaning) (d : DeskSeen) (out : SinkSeen) (status : Status) (text bytes : List ℕ) (settled : Bool) → fixed_text command ≡ Some text
    → IsOutput command d bytes settled → Took out bytes → status ≡ settled_status settled → IsPrinted text out status
printed_by command d out status text bytes settled e o took at =
    let same = text_whole command d text bytes settled e o in
    record { settled = at ∙ ap settled_status same.1; took = subst (λ (xs : List ℕ). Took out xs) same.0 took }

pub printed : (command : Meaning) (d : DeskSeen) (out err : SinkSeen) (status : Status) → IsAnswer command d out err status → PrintedCause command out status
printed command d out err status (inl w) text e ended = printed_by command d out status text w.whole.bytes w.settled e w.whole.output w.whole.took w.status_is
printed command d out err status (inr s) text e ended = absurd (not_ended s.stop status s.status_is ended)

pub printed_comes : (command : Meaning) (d : DeskSeen) (out err : SinkSeen) (status : Status) → IsAnswer command d out err status → PrintedComes command out status
printed_comes command d out err status (inl w) text e fine = inl (printed_by command d out status text w.whole.bytes w.settled e w.whole.output w.whole.took w.status_is)
printed_comes command d out err status (inr s) text e fine =
    elim (fixed_stops command d out s.stop (with_text command text e) s.stopped.cause) [
      | inl failed ↦ absurd (fine failed)
      | inr memory ↦ inr (s.status_is ∙ ap status_of memory)
    ]
