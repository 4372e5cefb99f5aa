-- Why each command can stop: its causes alone, without the stops that are never its own.
use Rattle.std.proofs.Common.{◌≡◌, ℕ, Bool, List, Some, refl, inl, inr, subst}
use Rattle.std.specs.Prelude.{◌≢◌, ◌⊎◌}
use Rattle.std.proofs.lemmas.Option.{none-some}
use Rattle.aig_model.specs.declared.parts.Parts.{Parts}
use Rattle.cnf_base.specs.Meaning.{CnfFormula}
use Rattle.cnf_base.specs.declared.fault.DimacsKind.{DimacsKind}
use Rattle.cnf_base.specs.declared.fault.DimacsKind.TheVariants as dimacs
use Rattle.lrat_text.specs.declared.fault.LratKind.{LratKind}
use Rattle.lrat_text.specs.declared.proof.LratStep.{LratStep}
use Rattle.lrat_check.specs.declared.fault.ProofKind.{ProofKind}
use Rattle.lrat_check.specs.FirstFault.{first_fault}
use Rattle.command_words.specs.declared.stop.CircuitKind.{CircuitKind}
use Rattle.signal_list.specs.declared.fault.SigKind.{SigKind}
use Rattle.command_words.specs.declared.stop.File.TheVariants as files
use Rattle.command_words.specs.declared.stop.Measure.{Measure}
use Rattle.command_words.specs.declared.stop.Measure.TheVariants as measures
use Rattle.command_words.specs.declared.stop.Refusal.TheVariants as refusals
use Rattle.command_words.specs.declared.stop.Stop.{Stop}
use Rattle.command_words.specs.declared.stop.Stop.TheVariants as stops
use Rattle.cover_run.specs.Answer.{Cause, IsOutput}
use Rattle.cover_run.specs.Checking.{formula_stop, HasFormula, HasProof, HasFormulaFault, HasProofFault, HasSomeFormula, IsLratOutput}
use Rattle.cover_run.specs.Covering.{HasCircuit, HasSignals, IsTooMuch, HasSomeCircuit, RefusesCircuit, RefusesSignals, IsCoverOutput}
use Rattle.cover_run.specs.Exporting.{IsTooManyGoals, IsGoalsOutput}
use Rattle.cover_run.specs.Files.{subject_of, IsTooLong}
use Rattle.aig_model.specs.Replays.{Shows}
use Rattle.wit_text.specs.declared.fault.WitKind.{WitKind}
use Rattle.wit_text.specs.declared.witness.Witness.{Witness}
use Rattle.command_words.specs.declared.stop.Misfit.{Misfit}
use Rattle.cover_run.specs.Replaying.{HasSomeSubject, HasWitness, HasWitnessFault, IsMisfit, IsReplayOutput}
use Rattle.cover_run.specs.Seen.{DeskSeen, SinkSeen, HasText, HasFaulted, Failed}
use Rattle.command_words.specs.Words.{Subject, CoverCall, ReplayCall, LratCall, Meaning, Usage, Help, Version, Cover, Goals, Replay, Lrat}

-- a circuit and its signals aren't read
pub data ReadStops (s : Subject) (d : DeskSeen) (stop : Stop) : Type 0 where
  circuit_unreadable : HasFaulted d s.circuit → ReadStops s d stop
  circuit_long : stop ≡ stops.TooLong files.Circuit → IsTooLong d files.Circuit s.circuit → ReadStops s d stop
  bad_circuit : (at : ℕ) (kind : CircuitKind) → stop ≡ stops.BadCircuit at kind → RefusesCircuit s d at kind → ReadStops s d stop
  signals_unreadable : HasSomeCircuit s d → HasFaulted d s.signals → ReadStops s d stop
  signals_long : stop ≡ stops.TooLong files.Signals → HasSomeCircuit s d → IsTooLong d files.Signals s.signals → ReadStops s d stop
  bad_signals : (line : ℕ) (kind : SigKind) → stop ≡ stops.BadSignals line kind → RefusesSignals s d line kind → ReadStops s d stop

-- `cover` stops
pub data CoverStops (call : CoverCall) (d : DeskSeen) (out : SinkSeen) (stop : Stop) : Type 0 where
  unread : ReadStops call.subject d stop → CoverStops call d out stop
  too_much : (m : Measure) → stop ≡ stops.TooLarge m → (c : Parts) (sig : List ℕ) → HasCircuit call.subject d c → HasSignals call.subject d c sig
      → IsTooMuch call.options c m → CoverStops call d out stop
  not_written : Failed out → (bytes : List ℕ) (settled : Bool) → IsCoverOutput call d bytes settled → CoverStops call d out stop
  memory : stop ≡ stops.OutOfMemory → CoverStops call d out stop

pub cover_stops : (call : CoverCall) (d : DeskSeen) (out : SinkSeen) (stop : Stop) → Cause (Cover call) d out stop → CoverStops call d out stop
cover_stops call d out stops.Usage cause = absurd cc
cover_stops call d out (stops.Unreadable files.Circuit) cause = unread (circuit_unreadable cause.1)
cover_stops call d out (stops.Unreadable files.Signals) cause = unread (signals_unreadable cause.0 cause.1)
cover_stops call d out (stops.Unreadable files.Formula) cause = absurd cause.1
cover_stops call d out (stops.Unreadable files.Proof) cause = absurd cause.1
cover_stops call d out (stops.Unreadable files.Witness) cause = absurd cause.1
cover_stops call d out (stops.TooLong files.Circuit) cause = unread (circuit_long refl cause.1)
cover_stops call d out (stops.TooLong files.Signals) cause = unread (signals_long refl cause.0 cause.1)
cover_stops call d out (stops.TooLong files.Formula) cause = absurd cause.1
cover_stops call d out (stops.TooLong files.Proof) cause = absurd cause.1
cover_stops call d out (stops.TooLong files.Witness) cause = absurd cause.1
cover_stops call d out (stops.TooLarge m) cause = too_much m refl cause.0 cause.1 cause.2 cause.3 cause.4
cover_stops call d out (stops.BadCircuit at kind) cause = unread (bad_circuit at kind refl cause)
cover_stops call d out (stops.BadSignals line kind) cause = unread (bad_signals line kind refl cause)
cover_stops call d out (stops.Refused why) cause = absurd cause
cover_stops call d out stops.CannotWrite cause = not_written cause.0 cause.1.0 cause.1.1 cause.1.2
cover_stops call d out stops.OutOfMemory cause = memory refl

-- `goals` stops
pub data GoalsStops (s : Subject) (d : DeskSeen) (out : SinkSeen) (stop : Stop) : Type 0 where
  not_read : ReadStops s d stop → GoalsStops s d out stop
  too_many : stop ≡ stops.TooLarge measures.Goals → (c : Parts) (sig : List ℕ) → HasCircuit s d c → HasSignals s d c sig → IsTooManyGoals c sig
      → GoalsStops s d out stop
  not_exported : Failed out → (bytes : List ℕ) (settled : Bool) → IsGoalsOutput s d bytes settled → GoalsStops s d out stop
  lack_of_memory : stop ≡ stops.OutOfMemory → GoalsStops s d out stop

pub goals_stops : (s : Subject) (d : DeskSeen) (out : SinkSeen) (stop : Stop) → Cause (Goals s) d out stop → GoalsStops s d out stop
goals_stops s d out stops.Usage cause = absurd cc
goals_stops s d out (stops.Unreadable files.Circuit) cause = not_read (circuit_unreadable cause.1)
goals_stops s d out (stops.Unreadable files.Signals) cause = not_read (signals_unreadable cause.0 cause.1)
goals_stops s d out (stops.Unreadable files.Formula) cause = absurd cause.1
goals_stops s d out (stops.Unreadable files.Proof) cause = absurd cause.1
goals_stops s d out (stops.Unreadable files.Witness) cause = absurd cause.1
goals_stops s d out (stops.TooLong files.Circuit) cause = not_read (circuit_long refl cause.1)
goals_stops s d out (stops.TooLong files.Signals) cause = not_read (signals_long refl cause.0 cause.1)
goals_stops s d out (stops.TooLong files.Formula) cause = absurd cause.1
goals_stops s d out (stops.TooLong files.Proof) cause = absurd cause.1
goals_stops s d out (stops.TooLong files.Witness) cause = absurd cause.1
goals_stops s d out (stops.TooLarge measures.Formula) cause = absurd cause
goals_stops s d out (stops.TooLarge measures.Frames) cause = absurd cause
goals_stops s d out (stops.TooLarge measures.Walk) cause = absurd cause
goals_stops s d out (stops.TooLarge measures.Goals) cause = too_many refl cause.0 cause.1 cause.2 cause.3 cause.4
goals_stops s d out (stops.BadCircuit at kind) cause = not_read (bad_circuit at kind refl cause)
goals_stops s d out (stops.BadSignals line kind) cause = not_read (bad_signals line kind refl cause)
goals_stops s d out (stops.Refused why) cause = absurd cause
goals_stops s d out stops.CannotWrite cause = not_exported cause.0 cause.1.0 cause.1.1 cause.1.2
goals_stops s d out stops.OutOfMemory cause = lack_of_memory refl

-- with a circuit and signals that are accepted, `replay` stops
pub data WitnessStops (call : ReplayCall) (d : DeskSeen) (out : SinkSeen) (c : Parts) (sig : List ℕ) (stop : Stop) : Type 0 where
  witness_unreadable : HasFaulted d call.witness → WitnessStops call d out c sig stop
  witness_long : stop ≡ stops.TooLong files.Witness → IsTooLong d files.Witness call.witness → WitnessStops call d out c sig stop
  bad_witness : (at : ℕ) (kind : WitKind) → stop ≡ stops.Refused (refusals.Witness at kind) → HasText d call.witness (HasWitnessFault c at kind)
      → WitnessStops call d out c sig stop
  bad_trace : (misfit : Misfit) → stop ≡ stops.Refused (refusals.Trace misfit) → (w : Witness) → HasWitness call d c w → IsMisfit c sig w misfit
      → WitnessStops call d out c sig stop
  not_shown : Failed out → (w : Witness) → HasWitness call d c w → Shows c sig w.trace w.property → WitnessStops call d out c sig stop

-- `replay` stops
pub data ReplayStops (call : ReplayCall) (d : DeskSeen) (out : SinkSeen) (stop : Stop) : Type 0 where
  subject_not_read : ReadStops call.subject d stop → ReplayStops call d out stop
  after_subject : (c : Parts) (sig : List ℕ) → HasCircuit call.subject d c → HasSignals call.subject d c sig → WitnessStops call d out c sig stop
      → ReplayStops call d out stop
  replay_memory : stop ≡ stops.OutOfMemory → ReplayStops call d out stop

-- a file of the witness isn't read, after the circuit and the signals were accepted
witness_after : (call : ReplayCall) (d : DeskSeen) (out : SinkSeen) (stop : Stop) → HasSomeSubject call.subject d
    → ((c : Parts) (sig : List ℕ) → WitnessStops call d out c sig stop) → ReplayStops call d out stop
witness_after call d out stop has then_ = after_subject has.0 has.1 has.2 has.3 (then_ has.0 has.1)

replay_unwritten : (call : ReplayCall) (d : DeskSeen) (out : SinkSeen) (stop : Stop) (bytes : List ℕ) (settled : Bool) → Failed out → IsReplayOutput call d bytes settled
    → ReplayStops call d out stop
replay_unwritten call d out stop bytes settled failed o =
    after_subject o.circuit o.signals o.has_circuit o.has_signals (not_shown failed o.witness o.has_witness o.shows)

pub replay_stops : (call : ReplayCall) (d : DeskSeen) (out : SinkSeen) (stop : Stop) → Cause (Replay call) d out stop → ReplayStops call d out stop
replay_stops call d out stops.Usage cause = absurd cc
replay_stops call d out (stops.Unreadable files.Circuit) cause = subject_not_read (circuit_unreadable cause.1)
replay_stops call d out (stops.Unreadable files.Signals) cause = subject_not_read (signals_unreadable cause.0 cause.1)
replay_stops call d out (stops.Unreadable files.Formula) cause = absurd cause.1
replay_stops call d out (stops.Unreadable files.Proof) cause = absurd cause.1
replay_stops call d out (stops.Unreadable files.Witness) cause =
    witness_after call d out (stops.Unreadable files.Witness) cause.0 (λ c sig. witness_unreadable cause.1)
replay_stops call d out (stops.TooLong files.Circuit) cause = subject_not_read (circuit_long refl cause.1)
replay_stops call d out (stops.TooLong files.Signals) cause = subject_not_read (signals_long refl cause.0 cause.1)
replay_stops call d out (stops.TooLong files.Formula) cause = absurd cause.1
replay_stops call d out (stops.TooLong files.Proof) cause = absurd cause.1
replay_stops call d out (stops.TooLong files.Witness) cause =
    witness_after call d out (stops.TooLong files.Witness) cause.0 (λ c sig. witness_long refl cause.1)
replay_stops call d out (stops.TooLarge m) cause = absurd cause
replay_stops call d out (stops.BadCircuit at kind) cause = subject_not_read (bad_circuit at kind refl cause)
replay_stops call d out (stops.BadSignals line kind) cause = subject_not_read (bad_signals line kind refl cause)
replay_stops call d out (stops.Refused (refusals.Formula line kind)) cause = absurd cause
replay_stops call d out (stops.Refused (refusals.Proof line kind)) cause = absurd cause
replay_stops call d out (stops.Refused (refusals.Step step kind)) cause = absurd cause
replay_stops call d out (stops.Refused (refusals.Witness at kind)) cause = after_subject cause.0 cause.1 cause.2 cause.3 (bad_witness at kind refl cause.4)
replay_stops call d out (stops.Refused (refusals.Trace misfit)) cause = after_subject cause.0 cause.1 cause.3 cause.4 (bad_trace misfit refl cause.2 cause.5 cause.6)
replay_stops call d out stops.CannotWrite cause = replay_unwritten call d out stops.CannotWrite cause.1.0 cause.1.1 cause.0 cause.1.2
replay_stops call d out stops.OutOfMemory cause = replay_memory refl

-- a command that reads a circuit and signals stops before both are accepted, or after, or for a lack of memory
pub data SubjectStops (s : Subject) (d : DeskSeen) (stop : Stop) : Type 0 where
  subject_unread : ReadStops s d stop → SubjectStops s d stop
  subject_accepted : (c : Parts) (sig : List ℕ) → HasCircuit s d c → HasSignals s d c sig → SubjectStops s d stop
  subject_memory : stop ≡ stops.OutOfMemory → SubjectStops s d stop

subject_of_cover : (call : CoverCall) (d : DeskSeen) (out : SinkSeen) (stop : Stop) → CoverStops call d out stop → SubjectStops call.subject d stop
subject_of_cover call d out stop (unread r) = subject_unread r
subject_of_cover call d out stop (too_much m e c sig has also h) = subject_accepted c sig has also
subject_of_cover call d out stop (not_written h bytes settled o) = subject_accepted o.circuit o.signals o.has_circuit o.has_signals
subject_of_cover call d out stop (memory e) = subject_memory e

subject_of_goals : (s : Subject) (d : DeskSeen) (out : SinkSeen) (stop : Stop) → GoalsStops s d out stop → SubjectStops s d stop
subject_of_goals s d out stop (not_read r) = subject_unread r
subject_of_goals s d out stop (too_many e c sig has also h) = subject_accepted c sig has also
subject_of_goals s d out stop (not_exported h bytes settled o) = subject_accepted o.circuit o.signals o.has_circuit o.has_signals
subject_of_goals s d out stop (lack_of_memory e) = subject_memory e

subject_of_replay : (call : ReplayCall) (d : DeskSeen) (out : SinkSeen) (stop : Stop) → ReplayStops call d out stop → SubjectStops call.subject d stop
subject_of_replay call d out stop (subject_not_read r) = subject_unread r
subject_of_replay call d out stop (after_subject c sig has also h) = subject_accepted c sig has also
subject_of_replay call d out stop (replay_memory e) = subject_memory e

pub subject_stops : (command : Meaning) (s : Subject) (d : DeskSeen) (out : SinkSeen) (stop : Stop) → subject_of command ≡ Some s → Cause command d out stop → SubjectStops s d stop
subject_stops Usage s d out stop e cause = absurd (none-some s e)
subject_stops Help s d out stop e cause = absurd (none-some s e)
subject_stops Version s d out stop e cause = absurd (none-some s e)
subject_stops (Cover call) s d out stop e cause =
    let same : call.subject ≡ s = cc in
    subst (λ (x : Subject). SubjectStops x d stop) same (subject_of_cover call d out stop (cover_stops call d out stop cause))
subject_stops (Goals r) s d out stop e cause =
    let same : r ≡ s = cc in
    subst (λ (x : Subject). SubjectStops x d stop) same (subject_of_goals r d out stop (goals_stops r d out stop cause))
subject_stops (Replay call) s d out stop e cause =
    let same : call.subject ≡ s = cc in
    subst (λ (x : Subject). SubjectStops x d stop) same (subject_of_replay call d out stop (replay_stops call d out stop cause))
subject_stops (Lrat call) s d out stop e cause = absurd (none-some s e)

-- the circuit and the signals of which a whole output is
pub data SubjectOutput (s : Subject) (d : DeskSeen) : Type 0 where
  made_of : (c : Parts) (sig : List ℕ) → HasCircuit s d c → HasSignals s d c sig → SubjectOutput s d

pub subject_output : (command : Meaning) (s : Subject) (d : DeskSeen) (bytes : List ℕ) (settled : Bool) → subject_of command ≡ Some s → IsOutput command d bytes settled → SubjectOutput s d
subject_output Usage s d bytes settled e o = absurd o
subject_output Help s d bytes settled e o = absurd (none-some s e)
subject_output Version s d bytes settled e o = absurd (none-some s e)
subject_output (Cover call) s d bytes settled e o =
    let same : call.subject ≡ s = cc in subst (λ (x : Subject). SubjectOutput x d) same (made_of o.circuit o.signals o.has_circuit o.has_signals)
subject_output (Goals r) s d bytes settled e o =
    let same : r ≡ s = cc in subst (λ (x : Subject). SubjectOutput x d) same (made_of o.circuit o.signals o.has_circuit o.has_signals)
subject_output (Replay call) s d bytes settled e o =
    let same : call.subject ≡ s = cc in subst (λ (x : Subject). SubjectOutput x d) same (made_of o.circuit o.signals o.has_circuit o.has_signals)
subject_output (Lrat call) s d bytes settled e o = absurd (none-some s e)

pub data LratStops (call : LratCall) (d : DeskSeen) (out : SinkSeen) (stop : Stop) : Type 0 where
  formula_unreadable : stop ≡ stops.Unreadable files.Formula → HasFaulted d call.formula → LratStops call d out stop
  formula_long : stop ≡ stops.TooLong files.Formula → IsTooLong d files.Formula call.formula → LratStops call d out stop
  bad_formula : (line : ℕ) (kind : DimacsKind) → stop ≡ formula_stop line kind → HasText d call.formula (HasFormulaFault line kind) → LratStops call d out stop
  proof_unreadable : stop ≡ stops.Unreadable files.Proof → HasSomeFormula call d → HasFaulted d call.proof → LratStops call d out stop
  proof_long : stop ≡ stops.TooLong files.Proof → HasSomeFormula call d → IsTooLong d files.Proof call.proof → LratStops call d out stop
  bad_proof : (line : ℕ) (kind : LratKind) → stop ≡ stops.Refused (refusals.Proof line kind) → HasSomeFormula call d
      → HasText d call.proof (HasProofFault line kind) → LratStops call d out stop
  bad_step : (step : ℕ) (kind : ProofKind) → stop ≡ stops.Refused (refusals.Step step kind) → (f : CnfFormula) (p : List LratStep) → HasFormula call d f → HasProof call d p
      → first_fault f p ≡ Some (step, kind) → LratStops call d out stop
  not_accepted_written : stop ≡ stops.CannotWrite → Failed out → (bytes : List ℕ) (settled : Bool) → IsLratOutput call d bytes settled → LratStops call d out stop
  no_memory : stop ≡ stops.OutOfMemory → LratStops call d out stop

refused_formula : (line : ℕ) (kind : DimacsKind) → kind ≢ dimacs.Limit → stops.Refused (refusals.Formula line kind) ≡ formula_stop line kind
refused_formula line dimacs.Header other = refl
refused_formula line dimacs.Literal other = refl
refused_formula line dimacs.Count other = refl
refused_formula line dimacs.Truncated other = refl
refused_formula line dimacs.Limit other = absurd (other refl)

pub lrat_stops : (call : LratCall) (d : DeskSeen) (out : SinkSeen) (stop : Stop) → Cause (Lrat call) d out stop → LratStops call d out stop
lrat_stops call d out stops.Usage cause = absurd cc
lrat_stops call d out (stops.Unreadable files.Circuit) cause = absurd cause.1
lrat_stops call d out (stops.Unreadable files.Signals) cause = absurd cause.1
lrat_stops call d out (stops.Unreadable files.Formula) cause = formula_unreadable refl cause.1
lrat_stops call d out (stops.Unreadable files.Proof) cause = proof_unreadable refl cause.0 cause.1
lrat_stops call d out (stops.Unreadable files.Witness) cause = absurd cause.1
lrat_stops call d out (stops.TooLong files.Circuit) cause = absurd cause.1
lrat_stops call d out (stops.TooLong files.Signals) cause = absurd cause.1
lrat_stops call d out (stops.TooLong files.Formula) cause = formula_long refl cause.1
lrat_stops call d out (stops.TooLong files.Proof) cause = proof_long refl cause.0 cause.1
lrat_stops call d out (stops.TooLong files.Witness) cause = absurd cause.1
lrat_stops call d out (stops.TooLarge measures.Formula) cause = bad_formula cause.0 dimacs.Limit refl cause.1
lrat_stops call d out (stops.TooLarge measures.Frames) cause = absurd cause
lrat_stops call d out (stops.TooLarge measures.Walk) cause = absurd cause
lrat_stops call d out (stops.TooLarge measures.Goals) cause = absurd cause
lrat_stops call d out (stops.BadCircuit at kind) cause = absurd cause
lrat_stops call d out (stops.BadSignals line kind) cause = absurd cause
lrat_stops call d out (stops.Refused (refusals.Formula line kind)) cause = bad_formula line kind (refused_formula line kind cause.0) cause.1
lrat_stops call d out (stops.Refused (refusals.Proof line kind)) cause = bad_proof line kind refl cause.0 cause.1
lrat_stops call d out (stops.Refused (refusals.Step step kind)) cause = bad_step step kind refl cause.0 cause.1 cause.2 cause.3 cause.4
lrat_stops call d out (stops.Refused (refusals.Witness at kind)) cause = absurd cause
lrat_stops call d out (stops.Refused (refusals.Trace misfit)) cause = absurd cause
lrat_stops call d out stops.CannotWrite cause = not_accepted_written refl cause.0 cause.1.0 cause.1.1 cause.1.2
lrat_stops call d out stops.OutOfMemory cause = no_memory refl

help_stops : (d : DeskSeen) (out : SinkSeen) (stop : Stop) → Cause Help d out stop → Failed out ⊎ (stop ≡ stops.OutOfMemory)
help_stops d out stops.Usage cause = absurd cc
help_stops d out (stops.Unreadable f) cause = absurd cause.1
help_stops d out (stops.TooLong f) cause = absurd cause.1
help_stops d out (stops.TooLarge m) cause = absurd cause
help_stops d out (stops.BadCircuit at kind) cause = absurd cause
help_stops d out (stops.BadSignals line kind) cause = absurd cause
help_stops d out (stops.Refused why) cause = absurd cause
help_stops d out stops.CannotWrite cause = inl cause.0
help_stops d out stops.OutOfMemory cause = inr refl

version_stops : (d : DeskSeen) (out : SinkSeen) (stop : Stop) → Cause Version d out stop → Failed out ⊎ (stop ≡ stops.OutOfMemory)
version_stops d out stops.Usage cause = absurd cc
version_stops d out (stops.Unreadable f) cause = absurd cause.1
version_stops d out (stops.TooLong f) cause = absurd cause.1
version_stops d out (stops.TooLarge m) cause = absurd cause
version_stops d out (stops.BadCircuit at kind) cause = absurd cause
version_stops d out (stops.BadSignals line kind) cause = absurd cause
version_stops d out (stops.Refused why) cause = absurd cause
version_stops d out stops.CannotWrite cause = inl cause.0
version_stops d out stops.OutOfMemory cause = inr refl

-- a command with a fixed text stops only where it isn't written, or for a lack of memory
pub fixed_stops : (command : Meaning) (d : DeskSeen) (out : SinkSeen) (stop : Stop) → (command ≡ Help) ⊎ (command ≡ Version) → Cause command d out stop
    → Failed out ⊎ (stop ≡ stops.OutOfMemory)
fixed_stops command d out stop (inl e) cause = help_stops d out stop (subst (λ (x : Meaning). Cause x d out stop) e cause)
fixed_stops command d out stop (inr e) cause = version_stops d out stop (subst (λ (x : Meaning). Cause x d out stop) e cause)
