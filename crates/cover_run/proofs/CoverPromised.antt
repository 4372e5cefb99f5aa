-- What the answer of a cover command promises.
use Rattle.std.proofs.Common.{◌≡◌, ◌↔◌, ℕ, ◌<◌, ◌≤◌, Bool, true, false, List, inl, inr, refl, sym, ◌∙◌, ap, subst, arith, nat_eq}
use Rattle.std.specs.Prelude.{◌⊎◌}
use Rattle.std.proofs.lemmas.Bool.Decides.{nat_tests}
use Rattle.aig_model.specs.declared.parts.Parts.{Parts}
use Rattle.sim_walk.specs.declared.options.Options.{Options}
use Rattle.cover_run.specs.CircuitText.{SpellsCircuit}
use Rattle.signal_list.specs.SignalText.{SpellsSignals}
use Rattle.signal_list.proofs.OneReading as signals_text
use Rattle.command_words.specs.declared.stop.File.TheVariants as files
use Rattle.command_words.specs.declared.stop.Measure.{Measure}
use Rattle.command_words.specs.declared.stop.Measure.TheVariants as measures
use Rattle.command_words.specs.declared.stop.Stop.{Stop}
use Rattle.command_words.specs.declared.stop.Stop.TheVariants as stops
use Rattle.command_words.specs.declared.stop.Status.{Status}
use Rattle.command_words.specs.declared.stop.Status.TheVariants as statuses
use Rattle.cover_run.specs.Answer.{IsOutput, IsAnswer, Cause}
use Rattle.cover_run.specs.Covering.{frames_of, walk_of, HasRoom, IsTooMuch, IsSignalsText, IsCoverOutput}
use Rattle.cover_run.specs.Promises.{IsTold, Accepts, IsUndisturbed, IsCovered, Headline, Completeness, TooMuchComes}
use Rattle.cover_run.specs.Seen.{DeskSeen, SinkSeen, Took}
use Rattle.command_words.specs.Stops.{status_of, settled_status}
use Rattle.command_words.specs.Words.{CoverCall, Meaning, Cover}
use Rattle.run_report.specs.Scope.{whole}
use Rattle.run_report.proofs.TrueReports.{settles_asked}
use Rattle.cover_run.proofs.Promised.{settled_either, not_ended, stopped_so}
use Rattle.cover_run.proofs.SubjectPromised.{same_told, signals_spelled, read_accepted}
use Rattle.cover_run.proofs.Stopped.{CoverStops, unread, too_much, not_written, memory, cover_stops}

cover_output : (command : Meaning) (call : CoverCall) (d : DeskSeen) (bytes : List ℕ) (settled : Bool) → command ≡ Cover call → IsOutput command d bytes settled → IsCoverOutput call d bytes settled
cover_output command call d bytes settled e o = subst (λ (x : Meaning). IsOutput x d bytes settled) e o

stops_of : (command : Meaning) (call : CoverCall) (d : DeskSeen) (out : SinkSeen) (stop : Stop) → command ≡ Cover call → Cause command d out stop → CoverStops call d out stop
stops_of command call d out stop e cause = cover_stops call d out stop (subst (λ (x : Meaning). Cause x d out stop) e cause)

-- ---- what is asked is too much
not_too_much : (o : Options) (c : Parts) (m : Measure) → HasRoom o c → IsTooMuch o c m → ⊥
not_too_much o c measures.Formula room h = h
not_too_much o c measures.Goals room h = h
not_too_much o c measures.Frames room h = let fits : frames_of o c ≤ 4000000 = room.frames in omega arith
not_too_much o c measures.Walk room h = let fits : walk_of o c ≤ 2000000 = room.walk in let past : 2000000 < walk_of o c = h.1 in omega arith

-- the first measure past its limit is one
one_measure : (o : Options) (c : Parts) (m n : Measure) → IsTooMuch o c m → IsTooMuch o c n → m ≡ n
one_measure o c measures.Formula n h i = absurd h
one_measure o c measures.Goals n h i = absurd h
one_measure o c measures.Frames measures.Formula h i = absurd i
one_measure o c measures.Frames measures.Goals h i = absurd i
one_measure o c measures.Frames measures.Frames h i = refl
one_measure o c measures.Frames measures.Walk h i = absurd (let fits : frames_of o c ≤ 4000000 = i.0 in omega arith)
one_measure o c measures.Walk measures.Formula h i = absurd i
one_measure o c measures.Walk measures.Goals h i = absurd i
one_measure o c measures.Walk measures.Frames h i = absurd (let fits : frames_of o c ≤ 4000000 = h.0 in omega arith)
one_measure o c measures.Walk measures.Walk h i = refl

too_much_stops : (call : CoverCall) (d : DeskSeen) (out : SinkSeen) (stop : Stop) (t u sig : List ℕ) (c : Parts) (m : Measure) → IsTold d files.Circuit call.subject.circuit t
    → SpellsCircuit t c → IsTold d files.Signals call.subject.signals u → SpellsSignals c u sig → IsTooMuch call.options c m → CoverStops call d out stop
    → (stop ≡ stops.TooLarge m) ⊎ (stop ≡ stops.OutOfMemory)
too_much_stops call d out stop t u sig c m told spells also spells_signals much (unread r) =
    absurd (read_accepted call.subject d stop t u sig c told spells also spells_signals r)
too_much_stops call d out stop t u sig c m told spells also spells_signals much (too_much n e k other has has_signals h) =
    let here = subst (λ (x : Parts). IsTooMuch call.options x n) (same_told call.subject d t c k told.told spells has) h in
    inl (e ∙ ap (λ (x : Measure). stops.TooLarge x) (one_measure call.options c n m here much))
too_much_stops call d out stop t u sig c m told spells also spells_signals much (not_written h bytes settled o) =
    absurd (not_too_much call.options c m (subst (λ (x : Parts). HasRoom call.options x) (same_told call.subject d t c o.circuit told.told spells o.has_circuit) o.room) much)
too_much_stops call d out stop t u sig c m told spells also spells_signals much (memory e) = inr e

pub too_much_comes : (command : Meaning) (d : DeskSeen) (out err : SinkSeen) (status : Status) → IsAnswer command d out err status → TooMuchComes command d err status
too_much_comes command d out err status (inl w) call t c u sig m e told spells also spells_signals much =
    let o = cover_output command call d w.whole.bytes w.settled e w.whole.output in
    absurd (not_too_much call.options c m (subst (λ (x : Parts). HasRoom call.options x) (same_told call.subject d t c o.circuit told.told spells o.has_circuit) o.room) much)
too_much_comes command d out err status (inr s) call t c u sig m e told spells also spells_signals much =
    stopped_so command d out err status (stops.TooLarge m) s
    (too_much_stops call d out s.stop t u sig c m told spells also spells_signals much (stops_of command call d out s.stop e s.stopped.cause))

-- ---- a whole output of a command whose texts are accepted
settled_means : (settled : Bool) (status : Status) (n : ℕ) → status ≡ settled_status settled → settled ≡ nat_eq n 0 → (status ≡ statuses.Settled) ↔ (n ≡ 0)
settled_means true status n e s = (λ _. grind (arith, nat_tests), λ _. e)
settled_means false status n e s = (λ h. absurd (let clash : statuses.Open ≡ statuses.Settled = sym e ∙ h in cc), λ h. absurd (grind (arith, nat_tests)))

covered_by : (call : CoverCall) (d : DeskSeen) (out : SinkSeen) (status : Status) (bytes : List ℕ) (settled : Bool) → (o : IsCoverOutput call d bytes settled) → Took out bytes
    → status ≡ settled_status settled → IsCovered call o.circuit o.signals out status
covered_by call d out status bytes settled o took e = record {
  bytes = bytes;
  took = took;
  room = o.room;
  is_report = o.is_report;
  ended = settled_either settled status e;
  settled = settled_means settled status o.is_report.report.unsettled e o.settled_is;
}

covered : (call : CoverCall) (d : DeskSeen) (out : SinkSeen) (status : Status) (c : Parts) (sig : List ℕ) (bytes : List ℕ) (settled : Bool) → Accepts call.subject d c sig
    → IsCoverOutput call d bytes settled → Took out bytes → status ≡ settled_status settled → IsCovered call c sig out status
covered call d out status c sig bytes settled accepts o took e =
    let same_circuit : o.circuit ≡ c = same_told call.subject d accepts.circuit_text c o.circuit accepts.circuit_told accepts.circuit o.has_circuit in
    let spelled : IsSignalsText c o.signals accepts.signals_text =
    signals_spelled call.subject d accepts.circuit_text accepts.signals_text c o.circuit o.signals accepts.circuit_told accepts.circuit accepts.signals_told o.has_circuit o.has_signals in
    let same_signals : o.signals ≡ sig = signals_text.one-list c accepts.signals_text o.signals sig spelled.spells accepts.signals in
    subst (λ (x : Parts). IsCovered call x sig out status) same_circuit
    (subst (λ (xs : List ℕ). IsCovered call o.circuit xs out status) same_signals (covered_by call d out status bytes settled o took e))

pub headline : (command : Meaning) (d : DeskSeen) (out err : SinkSeen) (status : Status) → IsAnswer command d out err status → Headline command d out status
headline command d out err status (inl w) call c sig e accepts ended =
    covered call d out status c sig w.whole.bytes w.settled accepts (cover_output command call d w.whole.bytes w.settled e w.whole.output) w.whole.took w.status_is
headline command d out err status (inr s) call c sig e accepts ended = absurd (not_ended s.stop status s.status_is ended)

-- ---- completeness
undisturbed_stop : (call : CoverCall) (d : DeskSeen) (out : SinkSeen) (c : Parts) (sig : List ℕ) (stop : Stop) → Accepts call.subject d c sig → HasRoom call.options c → IsUndisturbed (Cover call) d out
    → CoverStops call d out stop → stop ≡ stops.OutOfMemory
undisturbed_stop call d out c sig stop a room u (unread r) =
    let told : IsTold d files.Circuit call.subject.circuit a.circuit_text = record { told = a.circuit_told; short = a.circuit_short; no_fault = u.files files.Circuit } in
    let also : IsTold d files.Signals call.subject.signals a.signals_text = record { told = a.signals_told; short = a.signals_short; no_fault = u.files files.Signals } in
    absurd (read_accepted call.subject d stop a.circuit_text a.signals_text sig c told a.circuit also a.signals r)
undisturbed_stop call d out c sig stop a room u (too_much m e k other has has_signals h) =
    absurd (not_too_much call.options c m room (subst (λ (x : Parts). IsTooMuch call.options x m) (same_told call.subject d a.circuit_text c k a.circuit_told a.circuit has) h))
undisturbed_stop call d out c sig stop a room u (not_written h bytes settled o) = absurd (u.output h)
undisturbed_stop call d out c sig stop a room u (memory e) = e

pub completeness : (command : Meaning) (d : DeskSeen) (out err : SinkSeen) (status : Status) → IsAnswer command d out err status → Completeness command d out status
completeness command d out err status (inl w) call c sig e accepts room undisturbed =
    let told = covered call d out status c sig w.whole.bytes w.settled accepts (cover_output command call d w.whole.bytes w.settled e w.whole.output) w.whole.took w.status_is in
    inl (record { covered = told; asked = settles_asked c sig call.options whole told.is_report.report told.is_report.tells })
completeness command d out err status (inr s) call c sig e accepts room undisturbed =
    let by = stops_of command call d out s.stop e s.stopped.cause in
    let memory = undisturbed_stop call d out c sig s.stop accepts room (subst (λ (x : Meaning). IsUndisturbed x d out) e undisturbed) by in
    inr (s.status_is ∙ ap status_of memory)
