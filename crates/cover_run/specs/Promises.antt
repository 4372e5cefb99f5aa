-- The promises of a run, each readable by itself.
use Rattle.std.specs.Prelude.{◌≡◌, ◌⊎◌, ◌↔◌, ℕ, ◌<◌, ◌≤◌, Bool, List, length, codes, Option, Some, None, IfSome, IsSomeAnd}
use Rattle.aig_model.specs.declared.parts.Parts.{Parts}
use Rattle.cnf_base.specs.Dimacs.{SpellsFormula, IsFirstFault as IsFirstInFormula}
use Rattle.cnf_base.specs.Meaning.{CnfFormula, HasNoModel}
use Rattle.cnf_base.specs.declared.fault.DimacsKind.{DimacsKind}
use Rattle.lrat_text.specs.Lrat.{SpellsProof, IsFirstFault as IsFirstInProof}
use Rattle.lrat_text.specs.declared.fault.LratKind.{LratKind}
use Rattle.lrat_text.specs.declared.proof.LratStep.{LratStep}
use Rattle.cover_run.specs.CircuitText.{SpellsCircuit, IsFirstFault as IsFirstInCircuit}
use Rattle.command_words.specs.declared.stop.CircuitKind.{CircuitKind}
use Rattle.signal_list.specs.SignalText.{SpellsSignals, IsFirstFault as IsFirstInSignals}
use Rattle.signal_list.specs.declared.fault.SigKind.{SigKind}
use Rattle.lrat_text.specs.Accepted.{Accepted}
use Rattle.lrat_check.specs.FirstFault.{first_fault}
use Rattle.lrat_check.specs.declared.fault.ProofKind.{ProofKind}
use Rattle.command_words.specs.declared.stop.File.{File}
use Rattle.command_words.specs.declared.stop.File.TheVariants as files
use Rattle.command_words.specs.declared.stop.Measure.{Measure}
use Rattle.command_words.specs.declared.stop.Measure.TheVariants as measures
use Rattle.command_words.specs.declared.stop.Refusal.{Refusal}
use Rattle.command_words.specs.declared.stop.Refusal.TheVariants as refusals
use Rattle.command_words.specs.declared.stop.Stop.{Stop}
use Rattle.command_words.specs.declared.stop.Stop.TheVariants as stops
use Rattle.command_words.specs.declared.stop.Status.{Status}
use Rattle.command_words.specs.declared.stop.Status.TheVariants as statuses
use Rattle.run_io.specs.Desk.{HasSameFaults}
use Rattle.cover_run.specs.Answer.{Cause, HasBadCircuit, HasBadSignals, IsTooLarge, IsRefused, IsOutput, IsPartial}
use Rattle.command_words.specs.About.{help_text, version_text}
use Rattle.cover_run.specs.Checking.{formula_stop}
use Rattle.cover_run.specs.Covering.{HasRoom, IsTooMuch}
use Rattle.cover_run.specs.Exporting.{IsTooManyGoals, IsGoalText}
use Rattle.command_words.specs.Limits.{limit_of}
use Rattle.cover_run.specs.Files.{subject_of, files_of, name_of, IsTooLong, IsWithin, HasFailed, IsPast, IsAllRead}
use Rattle.aig_model.specs.Replays.{Shows}
use Rattle.wit_text.specs.WitnessText.{SpellsWitness, IsFirstFault as IsFirstInWitness}
use Rattle.wit_text.specs.declared.fault.WitKind.{WitKind}
use Rattle.wit_text.specs.declared.witness.Witness.{Witness}
use Rattle.command_words.specs.declared.stop.Misfit.{Misfit}
use Rattle.cover_run.specs.Replaying.{IsWitnessText, IsMisfit, replay_line}
use Rattle.run_report.specs.Report.{IsReport, SettlesAsked}
use Rattle.run_report.specs.Scope.{whole}
use Rattle.cover_run.specs.Seen.{DeskSeen, SinkSeen, HasFaulted, Failed, HasSameCounts, Took, TookWhatItCould}
use Rattle.command_words.specs.Stops.{line_of, status_of, settled_status}
use Rattle.command_words.specs.Words.{Subject, CoverCall, ReplayCall, LratCall, Meaning, Help, Version, Cover, Goals, Replay, Lrat}

-- ---- premises
-- the desk tells this text of the file's name, within the file's limit, and no fault of the name was counted
pub record IsTold (d : DeskSeen) (f : File) (name t : List ℕ) : Type 0 where
  pub told : d.old.text name ≡ Some t
  pub short : length t ≤ limit_of f
  pub no_fault : ¬ HasFaulted d name

-- the desk tells a text past the file's limit, and no fault of the name was counted
pub record IsToldTooLong (d : DeskSeen) (f : File) (name t : List ℕ) : Type 0 where
  pub told : d.old.text name ≡ Some t
  pub long : limit_of f < length t
  pub no_fault : ¬ HasFaulted d name

-- the texts that the desk tells are accepted within their limits as this circuit and these signals
pub record Accepts (s : Subject) (d : DeskSeen) (c : Parts) (sig : List ℕ) : Type 0 where
  pub circuit_text : List ℕ
  pub circuit_told : d.old.text s.circuit ≡ Some circuit_text
  pub circuit_short : length circuit_text ≤ limit_of files.Circuit
  pub circuit : SpellsCircuit circuit_text c
  pub signals_text : List ℕ
  pub signals_told : d.old.text s.signals ≡ Some signals_text
  pub signals_short : length signals_text ≤ limit_of files.Signals
  pub signals : SpellsSignals c signals_text sig

-- the texts that the desk tells spell this formula and this proof within their limits
pub record Spells (call : LratCall) (d : DeskSeen) (f : CnfFormula) (p : List LratStep) : Type 0 where
  pub formula_text : List ℕ
  pub formula_told : d.old.text call.formula ≡ Some formula_text
  pub formula_short : length formula_text ≤ limit_of files.Formula
  pub formula : SpellsFormula formula_text f
  pub proof_text : List ℕ
  pub proof_told : d.old.text call.proof ≡ Some proof_text
  pub proof_short : length proof_text ≤ limit_of files.Proof
  pub proof : SpellsProof proof_text p

-- no fault of the command's files, and no fault and no idle write of the output, was counted
pub record IsUndisturbed (command : Meaning) (d : DeskSeen) (out : SinkSeen) : Type 0 where
  pub files : (f : File) → IfSome (name_of command f) (λ name. ¬ HasFaulted d name)
  pub output : ¬ Failed out

abbrev pub HasEnded : Status → Type 0
HasEnded status = (status ≡ statuses.Settled) ⊎ (status ≡ statuses.Open)

-- this stop is the answer, and its line was said, out of memory aside
abbrev pub Answers : SinkSeen → Status → Stop → Type 0
Answers err status stop = ((status ≡ status_of stop) × TookWhatItCould err (line_of stop)) ⊎ (status ≡ statuses.OutOfMemory)

-- ---- the headline
-- The output took exactly the text of a true report of the circuit, the signals and the options, and
-- the status says whether a goal is open.
pub record IsCovered (call : CoverCall) (c : Parts) (sig : List ℕ) (out : SinkSeen) (status : Status) : Type 0 where
  pub bytes : List ℕ
  pub took : Took out bytes
  pub room : HasRoom call.options c
  pub is_report : IsReport c sig call.options whole bytes
  pub ended : HasEnded status
  pub settled : (status ≡ statuses.Settled) ↔ (is_report.report.unsettled ≡ 0)

abbrev pub Headline : Meaning → DeskSeen → SinkSeen → Status → Type 0
Headline command d out status =
    (call : CoverCall) (c : Parts) (sig : List ℕ) → command ≡ Cover call → Accepts call.subject d c sig → HasEnded status → IsCovered call c sig out status

-- ---- completeness
pub record IsComplete (call : CoverCall) (c : Parts) (sig : List ℕ) (out : SinkSeen) (status : Status) : Type 0 where
  pub covered : IsCovered call c sig out status
  pub asked : SettlesAsked c sig whole covered.is_report.report

-- with no cause of a refusal and no fault, the whole report is written, out of memory aside
abbrev pub Completeness : Meaning → DeskSeen → SinkSeen → Status → Type 0
Completeness command d out status =
    (call : CoverCall) (c : Parts) (sig : List ℕ) → command ≡ Cover call → Accepts call.subject d c sig → HasRoom call.options c → IsUndisturbed command d out
    → IsComplete call c sig out status ⊎ (status ≡ statuses.OutOfMemory)

-- ---- a proof is accepted
-- the proof is accepted, the formula has no model, and the output took exactly the line that says so
pub record IsProved (f : CnfFormula) (p : List LratStep) (out : SinkSeen) (status : Status) : Type 0 where
  pub settled : status ≡ statuses.Settled
  pub accepted : Accepted f p
  pub no_model : HasNoModel f.clauses
  pub took : Took out (codes "accepted\n")

-- status 0 or 1 comes only where the proof is accepted, and is 0
abbrev pub AcceptedCause : Meaning → DeskSeen → SinkSeen → Status → Type 0
AcceptedCause command d out status =
    (call : LratCall) (f : CnfFormula) (p : List LratStep) → command ≡ Lrat call → Spells call d f p → HasEnded status → IsProved f p out status

-- and there it comes, where nothing failed
abbrev pub AcceptedComes : Meaning → DeskSeen → SinkSeen → Status → Type 0
AcceptedComes command d out status =
    (call : LratCall) (f : CnfFormula) (p : List LratStep) → command ≡ Lrat call → Spells call d f p → Accepted f p → IsUndisturbed command d out
    → IsProved f p out status ⊎ (status ≡ statuses.OutOfMemory)

-- ---- a text that is always the same
abbrev pub fixed_text : Meaning → Option (List ℕ)
fixed_text Help = Some help_text
fixed_text Version = Some version_text
fixed_text command = None

-- the output took exactly the text
pub record IsPrinted (text : List ℕ) (out : SinkSeen) (status : Status) : Type 0 where
  pub settled : status ≡ statuses.Settled
  pub took : Took out text

-- status 0 or 1 comes only with the text, and is 0
abbrev pub PrintedCause : Meaning → SinkSeen → Status → Type 0
PrintedCause command out status = (text : List ℕ) → fixed_text command ≡ Some text → HasEnded status → IsPrinted text out status

-- and there it comes, where nothing failed
abbrev pub PrintedComes : Meaning → SinkSeen → Status → Type 0
PrintedComes command out status = (text : List ℕ) → fixed_text command ≡ Some text → ¬ Failed out → IsPrinted text out status ⊎ (status ≡ statuses.OutOfMemory)

-- ---- statuses 0 and 1, on any desk
-- the whole output was taken, with no fault and no idle write, it is one that is right for what was read, and the status says
-- whether it leaves something open
pub record IsWritten (command : Meaning) (d : DeskSeen) (out : SinkSeen) (status : Status) : Type 0 where
  pub bytes : List ℕ
  pub settled : Bool
  pub output : IsOutput command d bytes settled
  pub took : Took out bytes
  pub counts : HasSameCounts out
  pub status_is : status ≡ settled_status settled

abbrev pub WrittenCause : Meaning → DeskSeen → SinkSeen → Status → Type 0
WrittenCause command d out status = HasEnded status → IsWritten command d out status

-- ---- causes, status by status
-- only where the faults of the file in the line rose, the files before it were read to their ends, and it couldn't be started
-- or is the last that was
abbrev pub ReadFaultCause : Meaning → DeskSeen → SinkSeen → Status → Type 0
ReadFaultCause command d err status =
    status ≡ statuses.ReadFault
    → (f : File) × IsSomeAnd (name_of command f) (HasFaulted d) × HasFailed (files_of command) d f × TookWhatItCould err (line_of (stops.Unreadable f))

-- only where the circuit's text has the first fault that the line says
abbrev pub BadCircuitCause : Meaning → DeskSeen → SinkSeen → Status → Type 0
BadCircuitCause command d err status =
    status ≡ statuses.BadCircuit → (at : ℕ) × (kind : CircuitKind) × HasBadCircuit command d at kind × TookWhatItCould err (line_of (stops.BadCircuit at kind))

-- only where a circuit is spelled, and the signals' text has the first fault that the line says
abbrev pub BadSignalsCause : Meaning → DeskSeen → SinkSeen → Status → Type 0
BadSignalsCause command d err status =
    status ≡ statuses.BadSignals → (line : ℕ) × (kind : SigKind) × HasBadSignals command d line kind × TookWhatItCould err (line_of (stops.BadSignals line kind))

-- only where a byte past the limit of the file in the line was given, which is the last that was started, and the files before it
-- were read to their ends; or where the number in the line is past its limit
abbrev pub LimitCause : Meaning → DeskSeen → SinkSeen → Status → Type 0
LimitCause command d err status =
    status ≡ statuses.Limit
    → ((f : File) × IsSomeAnd (name_of command f) (IsTooLong d f) × IsPast (files_of command) d f × TookWhatItCould err (line_of (stops.TooLong f)))
    ⊎ ((m : Measure) × IsTooLarge command d m × IsWithin (files_of command) d × TookWhatItCould err (line_of (stops.TooLarge m)))

-- under every other status no file was given past its limit
abbrev pub WithinLimits : Meaning → DeskSeen → Status → Type 0
WithinLimits command d status = ¬ (status ≡ statuses.Limit) → IsWithin (files_of command) d

-- under 0, 1 and 7 all files of the command were read to their ends, and no others were started
abbrev pub AllRead : Meaning → DeskSeen → Status → Type 0
AllRead command d status = HasEnded status ⊎ (status ≡ statuses.WriteFault) → IsAllRead (files_of command) d

-- under every other status than 3 no fault was counted
abbrev pub NoFault : DeskSeen → Status → Type 0
NoFault d status = ¬ (status ≡ statuses.ReadFault) → HasSameFaults d.old d.new

-- only where the reader or checker that the line names refuses so
abbrev pub RefusedCause : Meaning → DeskSeen → SinkSeen → Status → Type 0
RefusedCause command d err status = status ≡ statuses.Refused → (why : Refusal) × IsRefused command d why × TookWhatItCould err (line_of (stops.Refused why))

-- ---- the refusals of a circuit and of signals come, whatever command reads them
abbrev pub BadCircuitComes : Meaning → DeskSeen → SinkSeen → Status → Type 0
BadCircuitComes command d err status =
    (s : Subject) (t : List ℕ) (at : ℕ) (kind : CircuitKind) → subject_of command ≡ Some s → IsTold d files.Circuit s.circuit t → IsFirstInCircuit t at kind
    → Answers err status (stops.BadCircuit at kind)

abbrev pub BadSignalsComes : Meaning → DeskSeen → SinkSeen → Status → Type 0
BadSignalsComes command d err status =
    (s : Subject) (t : List ℕ) (c : Parts) (u : List ℕ) (line : ℕ) (kind : SigKind) → subject_of command ≡ Some s → IsTold d files.Circuit s.circuit t
    → SpellsCircuit t c → IsTold d files.Signals s.signals u → IsFirstInSignals c u line kind → Answers err status (stops.BadSignals line kind)

-- a circuit that is told and too long is refused so
abbrev pub LongCircuitComes : Meaning → DeskSeen → SinkSeen → Status → Type 0
LongCircuitComes command d err status =
    (s : Subject) (t : List ℕ) → subject_of command ≡ Some s → IsToldTooLong d files.Circuit s.circuit t → Answers err status (stops.TooLong files.Circuit)

-- and signals, where the circuit is accepted
abbrev pub LongSignalsComes : Meaning → DeskSeen → SinkSeen → Status → Type 0
LongSignalsComes command d err status =
    (s : Subject) (t : List ℕ) (c : Parts) (u : List ℕ) → subject_of command ≡ Some s → IsTold d files.Circuit s.circuit t → SpellsCircuit t c
    → IsToldTooLong d files.Signals s.signals u → Answers err status (stops.TooLong files.Signals)

-- ---- the refusal of `cover` alone comes
-- what is asked of a circuit and signals that are accepted is too much
abbrev pub TooMuchComes : Meaning → DeskSeen → SinkSeen → Status → Type 0
TooMuchComes command d err status =
    (call : CoverCall) (t : List ℕ) (c : Parts) (u sig : List ℕ) (m : Measure) → command ≡ Cover call → IsTold d files.Circuit call.subject.circuit t → SpellsCircuit t c
    → IsTold d files.Signals call.subject.signals u → SpellsSignals c u sig → IsTooMuch call.options c m → Answers err status (stops.TooLarge m)

-- ---- the goal circuit is printed
-- the goal circuit isn't too large, and the output took exactly a text of it, which spells it
pub record IsExported (c : Parts) (sig : List ℕ) (out : SinkSeen) (status : Status) : Type 0 where
  pub settled : status ≡ statuses.Settled
  pub bytes : List ℕ
  pub took : Took out bytes
  pub is_text : IsGoalText c sig bytes

-- status 0 or 1 comes only with a text of the goal circuit, and is 0
abbrev pub ExportedCause : Meaning → DeskSeen → SinkSeen → Status → Type 0
ExportedCause command d out status =
    (s : Subject) (c : Parts) (sig : List ℕ) → command ≡ Goals s → Accepts s d c sig → HasEnded status → IsExported c sig out status

-- and there it comes, where nothing failed
abbrev pub ExportedComes : Meaning → DeskSeen → SinkSeen → Status → Type 0
ExportedComes command d out status =
    (s : Subject) (c : Parts) (sig : List ℕ) → command ≡ Goals s → Accepts s d c sig → ¬ IsTooManyGoals c sig → IsUndisturbed command d out
    → IsExported c sig out status ⊎ (status ≡ statuses.OutOfMemory)

-- a goal circuit that would be too large is refused so
abbrev pub ManyGoalsComes : Meaning → DeskSeen → SinkSeen → Status → Type 0
ManyGoalsComes command d err status =
    (s : Subject) (t : List ℕ) (c : Parts) (u sig : List ℕ) → command ≡ Goals s → IsTold d files.Circuit s.circuit t → SpellsCircuit t c
    → IsTold d files.Signals s.signals u → SpellsSignals c u sig → IsTooManyGoals c sig → Answers err status (stops.TooLarge measures.Goals)

-- ---- a witness is replayed
-- no fault of the two files, of which the texts are told and accepted, was counted
pub record IsToldSubject (s : Subject) (d : DeskSeen) (c : Parts) (sig : List ℕ) : Type 0 where
  pub accepts : Accepts s d c sig
  pub circuit_no_fault : ¬ HasFaulted d s.circuit
  pub signals_no_fault : ¬ HasFaulted d s.signals

-- the desk tells a text that spells this witness within its limit
pub record SpellsReplay (call : ReplayCall) (d : DeskSeen) (c : Parts) (w : Witness) : Type 0 where
  pub text : List ℕ
  pub told : d.old.text call.witness ≡ Some text
  pub is_text : IsWitnessText c w text

-- the trace replays from reset and shows the goal that the witness names, and the output took exactly the line that says so
pub record IsReplayed (c : Parts) (sig : List ℕ) (w : Witness) (out : SinkSeen) (status : Status) : Type 0 where
  pub settled : status ≡ statuses.Settled
  pub shows : Shows c sig w.trace w.property
  pub took : Took out (replay_line w)

-- status 0 or 1 comes only so, and is 0
abbrev pub ReplayedCause : Meaning → DeskSeen → SinkSeen → Status → Type 0
ReplayedCause command d out status =
    (call : ReplayCall) (c : Parts) (sig : List ℕ) (w : Witness) → command ≡ Replay call → Accepts call.subject d c sig → SpellsReplay call d c w → HasEnded status
    → IsReplayed c sig w out status

-- and there it comes, where nothing failed
abbrev pub ReplayedComes : Meaning → DeskSeen → SinkSeen → Status → Type 0
ReplayedComes command d out status =
    (call : ReplayCall) (c : Parts) (sig : List ℕ) (w : Witness) → command ≡ Replay call → Accepts call.subject d c sig → SpellsReplay call d c w
    → Shows c sig w.trace w.property → IsUndisturbed command d out → IsReplayed c sig w out status ⊎ (status ≡ statuses.OutOfMemory)

-- a witness that is told and too long is refused so, where the circuit and the signals are accepted
abbrev pub LongWitnessComes : Meaning → DeskSeen → SinkSeen → Status → Type 0
LongWitnessComes command d err status =
    (call : ReplayCall) (c : Parts) (sig u : List ℕ) → command ≡ Replay call → IsToldSubject call.subject d c sig → IsToldTooLong d files.Witness call.witness u
    → Answers err status (stops.TooLong files.Witness)

-- a witness's text has a first fault
abbrev pub BadWitnessComes : Meaning → DeskSeen → SinkSeen → Status → Type 0
BadWitnessComes command d err status =
    (call : ReplayCall) (c : Parts) (sig u : List ℕ) (at : ℕ) (kind : WitKind) → command ≡ Replay call → IsToldSubject call.subject d c sig
    → IsTold d files.Witness call.witness u → IsFirstInWitness (length c.latches) (length c.inputs) u at kind → Answers err status (stops.Refused (refusals.Witness at kind))

-- the witness is spelled, and its trace doesn't show its property
abbrev pub MisfitComes : Meaning → DeskSeen → SinkSeen → Status → Type 0
MisfitComes command d err status =
    (call : ReplayCall) (c : Parts) (sig u : List ℕ) (w : Witness) (misfit : Misfit) → command ≡ Replay call → IsToldSubject call.subject d c sig
    → IsTold d files.Witness call.witness u → SpellsWitness (length c.latches) (length c.inputs) u w → IsMisfit c sig w misfit
    → Answers err status (stops.Refused (refusals.Trace misfit))

-- ---- the refusals of `lrat` come
-- a formula's text has a first fault
abbrev pub BadFormulaComes : Meaning → DeskSeen → SinkSeen → Status → Type 0
BadFormulaComes command d err status =
    (call : LratCall) (t : List ℕ) (line : ℕ) (kind : DimacsKind) → command ≡ Lrat call → IsTold d files.Formula call.formula t → IsFirstInFormula t line kind
    → Answers err status (formula_stop line kind)

-- the formula is spelled, and the proof's text has a first fault
abbrev pub BadProofComes : Meaning → DeskSeen → SinkSeen → Status → Type 0
BadProofComes command d err status =
    (call : LratCall) (t : List ℕ) (f : CnfFormula) (u : List ℕ) (line : ℕ) (kind : LratKind) → command ≡ Lrat call → IsTold d files.Formula call.formula t
    → SpellsFormula t f → IsTold d files.Proof call.proof u → IsFirstInProof u line kind → Answers err status (stops.Refused (refusals.Proof line kind))

-- both are spelled, and the proof has a first fault
abbrev pub BadStepComes : Meaning → DeskSeen → SinkSeen → Status → Type 0
BadStepComes command d err status =
    (call : LratCall) (t : List ℕ) (f : CnfFormula) (u : List ℕ) (p : List LratStep) (step : ℕ) (kind : ProofKind) → command ≡ Lrat call
    → IsTold d files.Formula call.formula t → SpellsFormula t f → IsTold d files.Proof call.proof u → SpellsProof u p → first_fault f p ≡ Some (step, kind)
    → Answers err status (stops.Refused (refusals.Step step kind))

-- a formula that is told and too long is refused so
abbrev pub LongFormulaComes : Meaning → DeskSeen → SinkSeen → Status → Type 0
LongFormulaComes command d err status =
    (call : LratCall) (t : List ℕ) → command ≡ Lrat call → IsToldTooLong d files.Formula call.formula t → Answers err status (stops.TooLong files.Formula)

-- and a proof, where the formula is spelled
abbrev pub LongProofComes : Meaning → DeskSeen → SinkSeen → Status → Type 0
LongProofComes command d err status =
    (call : LratCall) (t : List ℕ) (f : CnfFormula) (u : List ℕ) → command ≡ Lrat call → IsTold d files.Formula call.formula t → SpellsFormula t f
    → IsToldTooLong d files.Proof call.proof u → Answers err status (stops.TooLong files.Proof)

-- ---- what is left of the output
-- the statuses under which the output is untouched
abbrev pub IsEarly : Status → Type 0
IsEarly status =
    (status ≡ statuses.Usage) ⊎ (status ≡ statuses.ReadFault) ⊎ (status ≡ statuses.BadCircuit) ⊎ (status ≡ statuses.BadSignals) ⊎ (status ≡ statuses.Limit)
    ⊎ (status ≡ statuses.OutOfMemory) ⊎ (status ≡ statuses.Refused)

-- under a write fault it grew by a part of a whole output, from its front and not all, which is right for what was read
abbrev pub PrefixAfterFault : Meaning → DeskSeen → SinkSeen → Status → Type 0
PrefixAfterFault command d out status = status ≡ statuses.WriteFault → IsPartial command d out

-- ---- the error stream
-- every status but the first two has a cause, whose line went there as far as the stream took it
abbrev pub SaysLine : Meaning → DeskSeen → SinkSeen → SinkSeen → Status → Type 0
SaysLine command d out err status =
    HasEnded status ⊎ ((stop : Stop) × (status ≡ status_of stop) × Cause command d out stop × TookWhatItCould err (line_of stop))
