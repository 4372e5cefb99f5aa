-- What `replay` reads and writes.
use Rattle.std.specs.Prelude.{◌≡◌, ◌≢◌, ◌-◌, ◌≤◌, ℕ, Bool, true, List, ◌++◌, length, codes, decimal}
use Rattle.ketch_base.specs.First.{IsFirst}
use Rattle.aig_model.specs.Meaning.{IsReset}
use Rattle.aig_model.specs.Replays.{Shows}
use Rattle.aig_model.specs.declared.parts.Parts.{Parts}
use Rattle.aig_eval.specs.Replay.{StartsWrong, FailsAt}
use Rattle.wit_text.specs.WitnessText.{SpellsWitness, IsFirstFault as IsFirstInWitness}
use Rattle.wit_text.specs.declared.fault.WitKind.{WitKind}
use Rattle.wit_text.specs.declared.witness.Witness.{Witness}
use Rattle.command_words.specs.declared.stop.File.TheVariants as files
use Rattle.command_words.specs.declared.stop.Misfit.{Misfit}
use Rattle.command_words.specs.declared.stop.Misfit.TheVariants as misfits
use Rattle.command_words.specs.declared.stop.Refusal.{Refusal}
use Rattle.command_words.specs.declared.stop.Refusal.TheVariants as refusals
use Rattle.cover_run.specs.Covering.{HasCircuit, HasSignals}
use Rattle.command_words.specs.Limits.{limit_of}
use Rattle.cover_run.specs.Seen.{DeskSeen, HasText}
use Rattle.command_words.specs.Words.{Subject, ReplayCall}

-- a text within its limit that spells the witness, for the circuit's latches and inputs
pub record IsWitnessText (c : Parts) (w : Witness) (t : List ℕ) : Type 0 where
  pub short : length t ≤ limit_of files.Witness
  pub spells : SpellsWitness (length c.latches) (length c.inputs) t w

-- a text within its limit with this first fault, as a witness for the circuit's latches and inputs
pub record HasWitnessFault (c : Parts) (at : ℕ) (kind : WitKind) (t : List ℕ) : Type 0 where
  pub short : length t ≤ limit_of files.Witness
  pub first : IsFirstInWitness (length c.latches) (length c.inputs) t at kind

-- a text spells this witness: the one that is told, where it is told
abbrev pub HasWitness : ReplayCall → DeskSeen → Parts → Witness → Type 0
HasWitness call d c w = HasText d call.witness (IsWitnessText c w)

-- the circuit and the signals were accepted before the witness was looked at
abbrev pub HasSomeSubject : Subject → DeskSeen → Type 0
HasSomeSubject s d = (c : Parts) × (sig : List ℕ) × HasCircuit s d c × HasSignals s d c sig

-- ---- the refusals
-- What is wrong first with a trace: the first latch that starts at another value than its fixed reset; from a reset state, the
-- first step at which a constraint is false; or it shows another goal than its property.
abbrev pub IsMisfit : Parts → List ℕ → Witness → Misfit → Type 0
IsMisfit c sig w (misfits.NotReset k) = IsFirst (StartsWrong c w.trace.start) k
IsMisfit c sig w (misfits.Constraint t) = IsReset c w.trace.start × IsFirst (FailsAt c w.trace) t
IsMisfit c sig w misfits.Property = (goal : ℕ) × Shows c sig w.trace goal × (goal ≢ w.property)

-- what is wrong first: in the witness's text, or in its trace
abbrev pub RefusesReplay : ReplayCall → DeskSeen → Refusal → Type 0
RefusesReplay call d (refusals.Witness at kind) =
    (c : Parts) × (sig : List ℕ) × HasCircuit call.subject d c × HasSignals call.subject d c sig × HasText d call.witness (HasWitnessFault c at kind)
RefusesReplay call d (refusals.Trace misfit) =
    (c : Parts) × (sig : List ℕ) × (w : Witness) × HasCircuit call.subject d c × HasSignals call.subject d c sig × HasWitness call d c w × IsMisfit c sig w misfit
RefusesReplay call d why = ⊥

-- ---- the output
-- the goal that a witness shows, and its last step
abbrev pub replay_line : Witness → List ℕ
replay_line w = codes "goal " ++ decimal w.property ++ codes " at step " ++ decimal (length w.trace.rows.rows - 1) ++ codes "\n"

-- These bytes are the whole output; a trace that shows its goal leaves nothing open.
pub record IsReplayOutput (call : ReplayCall) (d : DeskSeen) (bytes : List ℕ) (settled : Bool) : Type 0 where
  pub circuit : Parts
  pub signals : List ℕ
  pub witness : Witness
  pub has_circuit : HasCircuit call.subject d circuit
  pub has_signals : HasSignals call.subject d circuit signals
  pub has_witness : HasWitness call d circuit witness
  pub shows : Shows circuit signals witness.trace witness.property
  pub bytes_are : bytes ≡ replay_line witness
  pub settled_is : settled ≡ true
