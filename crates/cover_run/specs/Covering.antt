-- What `cover` reads and writes.
use Rattle.std.specs.Prelude.{◌≡◌, ℕ, ◌+◌, ◌*◌, ◌<◌, ◌≤◌, max, Bool, nat_eq, List, length}
use Rattle.aig_model.specs.SignalList.{IsSignals}
use Rattle.aig_model.specs.WellFormed.{IsCircuit}
use Rattle.aig_model.specs.declared.parts.Parts.{Parts}
use Rattle.cover_run.specs.CircuitText.{SpellsCircuit, IsFirstFault as IsFirstInCircuit}
use Rattle.command_words.specs.declared.stop.CircuitKind.{CircuitKind}
use Rattle.sim_walk.specs.declared.options.Options.{Options}
use Rattle.command_words.specs.declared.stop.File.TheVariants as files
use Rattle.command_words.specs.declared.stop.Measure.{Measure}
use Rattle.command_words.specs.declared.stop.Measure.TheVariants as measures
use Rattle.command_words.specs.Limits.{limit_of}
use Rattle.run_report.specs.Report.{IsReport}
use Rattle.run_report.specs.Scope.{whole}
use Rattle.cover_run.specs.Seen.{DeskSeen, HasText}
use Rattle.command_words.specs.Words.{Subject, CoverCall}
use Rattle.signal_list.specs.SignalText.{SpellsSignals, IsFirstFault as IsFirstInSignals}
use Rattle.signal_list.specs.declared.fault.SigKind.{SigKind}

-- a text within its limit that spells the circuit, and one that spells the signals; both are well formed
pub record IsCircuitText (c : Parts) (t : List ℕ) : Type 0 where
  pub short : length t ≤ limit_of files.Circuit
  pub spells : SpellsCircuit t c
  pub right : IsCircuit c

pub record IsSignalsText (c : Parts) (sig : List ℕ) (t : List ℕ) : Type 0 where
  pub short : length t ≤ limit_of files.Signals
  pub spells : SpellsSignals c t sig
  pub right : IsSignals c sig

-- a text within its limit with this first fault, as a circuit
pub record HasCircuitFault (at : ℕ) (kind : CircuitKind) (t : List ℕ) : Type 0 where
  pub short : length t ≤ limit_of files.Circuit
  pub first : IsFirstInCircuit t at kind

-- a text within its limit with this first fault, as signals of the circuit
pub record HasSignalsFault (c : Parts) (line : ℕ) (kind : SigKind) (t : List ℕ) : Type 0 where
  pub short : length t ≤ limit_of files.Signals
  pub first : IsFirstInSignals c t line kind

-- texts are accepted as this circuit and these signals: the ones that are told, where they are told
abbrev pub HasCircuit : Subject → DeskSeen → Parts → Type 0
HasCircuit s d c = HasText d s.circuit (IsCircuitText c)

abbrev pub HasSignals : Subject → DeskSeen → Parts → List ℕ → Type 0
HasSignals s d c sig = HasText d s.signals (IsSignalsText c sig)

-- the circuit is accepted
abbrev pub HasSomeCircuit : Subject → DeskSeen → Type 0
HasSomeCircuit s d = (c : Parts) × HasCircuit s d c

-- ---- the sizes of a run
-- the frames of the longest search, and a walk: how many truth values each may take
abbrev pub frames_of : Options → Parts → ℕ
frames_of o c = (max o.depth o.hop + 1) * (c.top + 1)

abbrev pub walk_of : Options → Parts → ℕ
walk_of o c = o.length * (length c.inputs + 1)

-- both are within their limits
pub record HasRoom (o : Options) (c : Parts) : Type 0 where
  pub frames : frames_of o c ≤ 4000000
  pub walk : walk_of o c ≤ 2000000

-- the first of them that is past its limit
abbrev pub IsTooMuch : Options → Parts → Measure → Type 0
IsTooMuch o c measures.Frames = 4000000 < frames_of o c
IsTooMuch o c measures.Walk = (frames_of o c ≤ 4000000) × (2000000 < walk_of o c)
IsTooMuch o c m = ⊥

-- ---- the refusals
abbrev pub RefusesCircuit : Subject → DeskSeen → ℕ → CircuitKind → Type 0
RefusesCircuit s d at kind = HasText d s.circuit (HasCircuitFault at kind)

abbrev pub RefusesSignals : Subject → DeskSeen → ℕ → SigKind → Type 0
RefusesSignals s d line kind = (c : Parts) × HasCircuit s d c × HasText d s.signals (HasSignalsFault c line kind)

-- both texts are accepted, and what is asked for is too much
abbrev pub HasTooMuch : CoverCall → DeskSeen → Measure → Type 0
HasTooMuch call d m = (c : Parts) × (sig : List ℕ) × HasCircuit call.subject d c × HasSignals call.subject d c sig × IsTooMuch call.options c m

-- ---- the output
-- these bytes are the whole output, and this says whether it leaves nothing open
pub record IsCoverOutput (call : CoverCall) (d : DeskSeen) (bytes : List ℕ) (settled : Bool) : Type 0 where
  pub circuit : Parts
  pub signals : List ℕ
  pub has_circuit : HasCircuit call.subject d circuit
  pub has_signals : HasSignals call.subject d circuit signals
  pub room : HasRoom call.options circuit
  pub is_report : IsReport circuit signals call.options whole bytes
  pub settled_is : settled ≡ nat_eq is_report.report.unsettled 0
