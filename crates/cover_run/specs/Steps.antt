-- Causes of the steps of a command.
use Rattle.std.specs.Prelude.{◌≡◌, ◌≢◌, ℕ, Bool, List, length, [], ◌∷◌, Some}
use Rattle.aig_model.specs.declared.parts.Parts.{Parts}
use Rattle.sim_walk.specs.declared.options.Options.{Options}
use Rattle.run_io.specs.Desk.{HasSameFaults}
use Rattle.signal_list.specs.SignalText.{IsFirstFault as IsFirstInSignals}
use Rattle.cnf_base.specs.Dimacs.{IsFirstFault as IsFirstInFormula}
use Rattle.cnf_base.specs.Meaning.{CnfFormula}
use Rattle.cnf_base.specs.declared.fault.DimacsKind.TheVariants as dimacs
use Rattle.lrat_text.specs.Lrat.{IsFirstFault as IsFirstInProof}
use Rattle.lrat_text.specs.declared.proof.LratStep.{LratStep}
use Rattle.lrat_check.specs.FirstFault.{first_fault}
use Rattle.command_words.specs.declared.stop.File.{File}
use Rattle.command_words.specs.declared.stop.File.TheVariants as files
use Rattle.command_words.specs.declared.stop.Measure.TheVariants as measures
use Rattle.command_words.specs.declared.stop.Refusal.TheVariants as refusals
use Rattle.command_words.specs.declared.stop.Stop.{Stop}
use Rattle.command_words.specs.declared.stop.Stop.TheVariants as stops
use Rattle.cover_run.specs.CircuitText.{is_binary, IsFirstFaultIn}
use Rattle.cover_run.specs.Covering.{HasSomeCircuit, RefusesCircuit, RefusesSignals, IsTooMuch}
use Rattle.cover_run.specs.Exporting.{IsTooManyGoals}
use Rattle.cover_run.specs.Files.{IsTooLong, IsReadToEnd}
use Rattle.wit_text.specs.WitnessText.{IsFirstFault as IsFirstInWitness}
use Rattle.wit_text.specs.declared.witness.Witness.{Witness}
use Rattle.cover_run.specs.Replaying.{IsMisfit}
use Rattle.cover_run.specs.Seen.{DeskSeen, HasFaulted, Gave}
use Rattle.command_words.specs.Words.{Subject}

-- why one file isn't read: its faults rose, or it is too long
abbrev pub PartCause : DeskSeen → File → List ℕ → Stop → Type 0
PartCause d file name (stops.Unreadable f) = (f ≡ file) × HasFaulted d name
PartCause d file name (stops.TooLong f) = (f ≡ file) × IsTooLong d file name
PartCause d file name stops.OutOfMemory = Unit {0}
PartCause d file name stop = ⊥

-- one file was started, and given within its limit and to its end, and no fault was counted
pub record IsPartRead (d : DeskSeen) (file : File) (name : List ℕ) : Type 0 where
  pub given : ℕ
  pub gave : Gave d ((name, given) ∷ [])
  pub read : IsReadToEnd d (file, name) (name, given)
  pub no_fault : HasSameFaults d.old d.new

-- why a circuit and its signals aren't read
abbrev pub SubjectCause : Subject → DeskSeen → Stop → Type 0
SubjectCause s d (stops.Unreadable files.Circuit) = HasFaulted d s.circuit
SubjectCause s d (stops.TooLong files.Circuit) = IsTooLong d files.Circuit s.circuit
SubjectCause s d (stops.BadCircuit at kind) = RefusesCircuit s d at kind
SubjectCause s d (stops.Unreadable files.Signals) = HasSomeCircuit s d × HasFaulted d s.signals
SubjectCause s d (stops.TooLong files.Signals) = HasSomeCircuit s d × IsTooLong d files.Signals s.signals
SubjectCause s d (stops.BadSignals line kind) = RefusesSignals s d line kind
SubjectCause s d stops.OutOfMemory = Unit {0}
SubjectCause s d stop = ⊥

-- why a run isn't begun
abbrev pub RoomCause : Options → Parts → Stop → Type 0
RoomCause o c (stops.TooLarge m) = IsTooMuch o c m
RoomCause o c stop = ⊥

-- why there is no goal circuit
abbrev pub GoalsCause : Parts → List ℕ → Stop → Type 0
GoalsCause c sig (stops.TooLarge measures.Goals) = IsTooManyGoals c sig
GoalsCause c sig stops.OutOfMemory = Unit {0}
GoalsCause c sig stop = ⊥

-- why the bytes of a circuit, and those of its signals, are refused
abbrev pub CircuitCauseIn : Bool → List ℕ → Stop → Type 0
CircuitCauseIn binary bytes (stops.BadCircuit at kind) = IsFirstFaultIn binary bytes at kind
CircuitCauseIn binary bytes stops.OutOfMemory = Unit {0}
CircuitCauseIn binary bytes stop = ⊥

abbrev pub CircuitCause : List ℕ → Stop → Type 0
CircuitCause bytes stop = CircuitCauseIn (is_binary bytes) bytes stop

abbrev pub SignalsCause : Parts → List ℕ → Stop → Type 0
SignalsCause c bytes (stops.BadSignals line kind) = IsFirstInSignals c bytes line kind
SignalsCause c bytes stops.OutOfMemory = Unit {0}
SignalsCause c bytes stop = ⊥

-- why the bytes of a formula, and those of a proof, are refused
abbrev pub FormulaCause : List ℕ → Stop → Type 0
FormulaCause bytes (stops.TooLarge measures.Formula) = (line : ℕ) × IsFirstInFormula bytes line dimacs.Limit
FormulaCause bytes (stops.Refused (refusals.Formula line kind)) = (kind ≢ dimacs.Limit) × IsFirstInFormula bytes line kind
FormulaCause bytes stops.OutOfMemory = Unit {0}
FormulaCause bytes stop = ⊥

abbrev pub ProofCause : List ℕ → Stop → Type 0
ProofCause bytes (stops.Refused (refusals.Proof line kind)) = IsFirstInProof bytes line kind
ProofCause bytes stops.OutOfMemory = Unit {0}
ProofCause bytes stop = ⊥

-- why the bytes of a witness are refused, and why its trace isn't accepted
abbrev pub WitnessCause : Parts → List ℕ → Stop → Type 0
WitnessCause c bytes (stops.Refused (refusals.Witness at kind)) = IsFirstInWitness (length c.latches) (length c.inputs) bytes at kind
WitnessCause c bytes stops.OutOfMemory = Unit {0}
WitnessCause c bytes stop = ⊥

abbrev pub MisfitCause : Parts → List ℕ → Witness → Stop → Type 0
MisfitCause c sig w (stops.Refused (refusals.Trace misfit)) = IsMisfit c sig w misfit
MisfitCause c sig w stops.OutOfMemory = Unit {0}
MisfitCause c sig w stop = ⊥

-- why a proof isn't accepted
abbrev pub JudgeCause : CnfFormula → List LratStep → Stop → Type 0
JudgeCause f p (stops.Refused (refusals.Step step kind)) = first_fault f p ≡ Some (step, kind)
JudgeCause f p stops.OutOfMemory = Unit {0}
JudgeCause f p stop = ⊥
