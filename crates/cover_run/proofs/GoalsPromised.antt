-- What the answer of a goals command promises.
use Rattle.std.proofs.Common.{◌≡◌, ℕ, Bool, List, Some, inl, inr, ◌∙◌, ap, subst}
use Rattle.std.specs.Prelude.{◌⊎◌}
use Rattle.aig_model.specs.declared.parts.Parts.{Parts}
use Rattle.cover_run.specs.CircuitText.{SpellsCircuit}
use Rattle.signal_list.specs.SignalText.{SpellsSignals}
use Rattle.signal_list.proofs.OneReading as signals_text
use Rattle.command_words.specs.declared.stop.File.TheVariants as files
use Rattle.command_words.specs.declared.stop.Measure.TheVariants as measures
use Rattle.command_words.specs.declared.stop.Stop.{Stop}
use Rattle.command_words.specs.declared.stop.Stop.TheVariants as stops
use Rattle.command_words.specs.declared.stop.Status.{Status}
use Rattle.cover_run.specs.Answer.{IsOutput, IsAnswer, Cause}
use Rattle.cover_run.specs.Covering.{HasCircuit, HasSignals, IsSignalsText}
use Rattle.cover_run.specs.Exporting.{IsTooManyGoals, IsGoalText, IsGoalsOutput}
use Rattle.cover_run.specs.Promises.{IsTold, Accepts, IsUndisturbed, IsExported, ExportedCause, ExportedComes, ManyGoalsComes}
use Rattle.cover_run.specs.Seen.{DeskSeen, SinkSeen, Took}
use Rattle.command_words.specs.Stops.{status_of, settled_status}
use Rattle.command_words.specs.Words.{Subject, Meaning, Goals}
use Rattle.cover_run.proofs.Promised.{not_ended, stopped_so}
use Rattle.cover_run.proofs.SubjectPromised.{same_told, signals_spelled, read_accepted}
use Rattle.cover_run.proofs.Stopped.{GoalsStops, not_read, too_many, not_exported, lack_of_memory, goals_stops}

goals_output : (command : Meaning) (s : Subject) (d : DeskSeen) (bytes : List ℕ) (settled : Bool) → command ≡ Goals s → IsOutput command d bytes settled → IsGoalsOutput s d bytes settled
goals_output command s d bytes settled e o = subst (λ (x : Meaning). IsOutput x d bytes settled) e o

stops_of : (command : Meaning) (s : Subject) (d : DeskSeen) (out : SinkSeen) (stop : Stop) → command ≡ Goals s → Cause command d out stop → GoalsStops s d out stop
stops_of command s d out stop e cause = goals_stops s d out stop (subst (λ (x : Meaning). Cause x d out stop) e cause)

-- ---- the circuit and signals that are told are the ones meant
same_signals : (s : Subject) (d : DeskSeen) (t u : List ℕ) (c e : Parts) (sig other : List ℕ) → d.old.text s.circuit ≡ Some t → SpellsCircuit t c → d.old.text s.signals ≡ Some u
    → SpellsSignals c u sig → HasCircuit s d e → HasSignals s d e other → other ≡ sig
same_signals s d t u c e sig other told spells told_u spells_signals has has_signals =
    let spelled : IsSignalsText c other u = signals_spelled s d t u c e other told spells told_u has has_signals in
    signals_text.one-list c u other sig spelled.spells spells_signals

-- what is true of a circuit and signals that are accepted, is true of those that are told
pub moved : (P : Parts → List ℕ → Type 0) (s : Subject) (d : DeskSeen) (t u : List ℕ) (c e : Parts) (sig other : List ℕ) → d.old.text s.circuit ≡ Some t → SpellsCircuit t c
    → d.old.text s.signals ≡ Some u → SpellsSignals c u sig → HasCircuit s d e → HasSignals s d e other → P e other → P c sig
moved P s d t u c e sig other told spells told_u spells_signals has has_signals p =
    subst (λ (x : List ℕ). P c x) (same_signals s d t u c e sig other told spells told_u spells_signals has has_signals)
    (subst (λ (x : Parts). P x other) (same_told s d t c e told spells has) p)

text_moved : (s : Subject) (d : DeskSeen) (c : Parts) (sig bytes : List ℕ) (settled : Bool) → Accepts s d c sig → (o : IsGoalsOutput s d bytes settled) → IsGoalText c sig bytes
text_moved s d c sig bytes settled a o =
    moved (λ (x : Parts) (y : List ℕ). IsGoalText x y bytes) s d a.circuit_text a.signals_text c o.circuit sig o.signals a.circuit_told a.circuit a.signals_told a.signals
    o.has_circuit o.has_signals o.is_text

-- ---- a whole output
exported_by : (s : Subject) (d : DeskSeen) (out : SinkSeen) (status : Status) (c : Parts) (sig bytes : List ℕ) (settled : Bool) → Accepts s d c sig
    → IsGoalsOutput s d bytes settled → Took out bytes → status ≡ settled_status settled → IsExported c sig out status
exported_by s d out status c sig bytes settled a o took e = record {
  settled = e ∙ ap settled_status o.settled_is;
  bytes = bytes;
  took = took;
  is_text = text_moved s d c sig bytes settled a o;
}

pub exported : (command : Meaning) (d : DeskSeen) (out err : SinkSeen) (status : Status) → IsAnswer command d out err status → ExportedCause command d out status
exported command d out err status (inl w) s c sig e accepts ended =
    exported_by s d out status c sig w.whole.bytes w.settled accepts (goals_output command s d w.whole.bytes w.settled e w.whole.output) w.whole.took w.status_is
exported command d out err status (inr a) s c sig e accepts ended = absurd (not_ended a.stop status a.status_is ended)

undisturbed_stop : (s : Subject) (d : DeskSeen) (out : SinkSeen) (c : Parts) (sig : List ℕ) (stop : Stop) → Accepts s d c sig → (IsTooManyGoals c sig → ⊥)
    → IsUndisturbed (Goals s) d out → GoalsStops s d out stop → stop ≡ stops.OutOfMemory
undisturbed_stop s d out c sig stop a room u (not_read r) =
    let told : IsTold d files.Circuit s.circuit a.circuit_text = record { told = a.circuit_told; short = a.circuit_short; no_fault = u.files files.Circuit } in
    let also : IsTold d files.Signals s.signals a.signals_text = record { told = a.signals_told; short = a.signals_short; no_fault = u.files files.Signals } in
    absurd (read_accepted s d stop a.circuit_text a.signals_text sig c told a.circuit also a.signals r)
undisturbed_stop s d out c sig stop a room u (too_many e k other has has_signals h) =
    absurd (room (moved IsTooManyGoals s d a.circuit_text a.signals_text c k sig other a.circuit_told a.circuit a.signals_told a.signals has has_signals h))
undisturbed_stop s d out c sig stop a room u (not_exported h bytes settled o) = absurd (u.output h)
undisturbed_stop s d out c sig stop a room u (lack_of_memory e) = e

pub exported_comes : (command : Meaning) (d : DeskSeen) (out err : SinkSeen) (status : Status) → IsAnswer command d out err status → ExportedComes command d out status
exported_comes command d out err status (inl w) s c sig e accepts room undisturbed =
    inl (exported_by s d out status c sig w.whole.bytes w.settled accepts (goals_output command s d w.whole.bytes w.settled e w.whole.output) w.whole.took w.status_is)
exported_comes command d out err status (inr a) s c sig e accepts room undisturbed =
    let by = stops_of command s d out a.stop e a.stopped.cause in
    let memory = undisturbed_stop s d out c sig a.stop accepts room (subst (λ (x : Meaning). IsUndisturbed x d out) e undisturbed) by in
    inr (a.status_is ∙ ap status_of memory)

-- ---- a goal circuit that would be too large
many_goals_stops : (s : Subject) (d : DeskSeen) (out : SinkSeen) (stop : Stop) (t u sig : List ℕ) (c : Parts) → IsTold d files.Circuit s.circuit t → SpellsCircuit t c
    → IsTold d files.Signals s.signals u → SpellsSignals c u sig → IsTooManyGoals c sig → GoalsStops s d out stop
    → (stop ≡ stops.TooLarge measures.Goals) ⊎ (stop ≡ stops.OutOfMemory)
many_goals_stops s d out stop t u sig c told spells also spells_signals many (not_read r) =
    absurd (read_accepted s d stop t u sig c told spells also spells_signals r)
many_goals_stops s d out stop t u sig c told spells also spells_signals many (too_many e k other has has_signals h) = inl e
many_goals_stops s d out stop t u sig c told spells also spells_signals many (not_exported h bytes settled o) =
    absurd ((moved (λ (x : Parts) (y : List ℕ). IsGoalText x y bytes) s d t u c o.circuit sig o.signals told.told spells also.told spells_signals o.has_circuit o.has_signals o.is_text).room many)
many_goals_stops s d out stop t u sig c told spells also spells_signals many (lack_of_memory e) = inr e

pub many_goals_comes : (command : Meaning) (d : DeskSeen) (out err : SinkSeen) (status : Status) → IsAnswer command d out err status → ManyGoalsComes command d err status
many_goals_comes command d out err status (inl w) s t c u sig e told spells also spells_signals many =
    let o = goals_output command s d w.whole.bytes w.settled e w.whole.output in
    absurd ((moved (λ (x : Parts) (y : List ℕ). IsGoalText x y w.whole.bytes) s d t u c o.circuit sig o.signals told.told spells also.told spells_signals o.has_circuit o.has_signals o.is_text).room many)
many_goals_comes command d out err status (inr a) s t c u sig e told spells also spells_signals many =
    stopped_so command d out err status (stops.TooLarge measures.Goals) a
    (many_goals_stops s d out a.stop t u sig c told spells also spells_signals many (stops_of command s d out a.stop e a.stopped.cause))
