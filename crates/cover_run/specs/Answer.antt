-- How a run ends, and why.
use Rattle.std.specs.Prelude.{◌≡◌, ◌≢◌, ◌⊎◌, ℕ, Bool, true, List, IsSomeAnd}
use Rattle.run_io.specs.Sink.{GrewByPart}
use Rattle.command_words.specs.declared.stop.CircuitKind.{CircuitKind}
use Rattle.signal_list.specs.declared.fault.SigKind.{SigKind}
use Rattle.command_words.specs.declared.stop.File.{File}
use Rattle.command_words.specs.declared.stop.File.TheVariants as files
use Rattle.command_words.specs.declared.stop.Measure.{Measure}
use Rattle.command_words.specs.declared.stop.Measure.TheVariants as measures
use Rattle.command_words.specs.declared.stop.Refusal.{Refusal}
use Rattle.command_words.specs.declared.stop.Stop.{Stop}
use Rattle.command_words.specs.declared.stop.Stop.TheVariants as stops
use Rattle.command_words.specs.declared.stop.Status.{Status}
use Rattle.command_words.specs.About.{help_text, version_text}
use Rattle.cover_run.specs.Checking.{HasSomeFormula, HasLargeFormula, Refuses, IsLratOutput}
use Rattle.cover_run.specs.Covering.{HasSomeCircuit, RefusesCircuit, RefusesSignals, HasTooMuch, IsCoverOutput}
use Rattle.cover_run.specs.Exporting.{HasTooManyGoals, IsGoalsOutput}
use Rattle.cover_run.specs.Files.{subject_of, files_of, name_of, IsTooLong, IsAllRead, HasRead}
use Rattle.cover_run.specs.Replaying.{HasSomeSubject, RefusesReplay, IsReplayOutput}
use Rattle.cover_run.specs.Seen.{DeskSeen, SinkSeen, HasFaulted, Failed, HasSameCounts, Took, TookWhatItCould}
use Rattle.command_words.specs.Stops.{status_of, settled_status, line_of}
use Rattle.command_words.specs.Words.{Meaning, Usage, Help, Version, Cover, Goals, Replay, Lrat}

-- ---- the output of a command
-- these bytes are the whole output, and this says whether it leaves nothing open
abbrev pub IsOutput : Meaning → DeskSeen → List ℕ → Bool → Type 0
IsOutput Usage d bytes settled = ⊥
IsOutput Help d bytes settled = (bytes ≡ help_text) × (settled ≡ true)
IsOutput Version d bytes settled = (bytes ≡ version_text) × (settled ≡ true)
IsOutput (Cover call) d bytes settled = IsCoverOutput call d bytes settled
IsOutput (Goals s) d bytes settled = IsGoalsOutput s d bytes settled
IsOutput (Replay call) d bytes settled = IsReplayOutput call d bytes settled
IsOutput (Lrat call) d bytes settled = IsLratOutput call d bytes settled

-- ---- why a command stops, in the order of the refusals
-- the files before this one were accepted
abbrev pub IsReached : Meaning → DeskSeen → File → Type 0
IsReached command d files.Signals = IsSomeAnd (subject_of command) (λ s. HasSomeCircuit s d)
IsReached (Replay call) d files.Witness = HasSomeSubject call.subject d
IsReached (Lrat call) d files.Proof = HasSomeFormula call d
IsReached command d f = Unit {0}

abbrev pub HasBadCircuit : Meaning → DeskSeen → ℕ → CircuitKind → Type 0
HasBadCircuit command d at kind = IsSomeAnd (subject_of command) (λ s. RefusesCircuit s d at kind)

abbrev pub HasBadSignals : Meaning → DeskSeen → ℕ → SigKind → Type 0
HasBadSignals command d line kind = IsSomeAnd (subject_of command) (λ s. RefusesSignals s d line kind)

-- a number of the input is past its limit
abbrev pub IsTooLarge : Meaning → DeskSeen → Measure → Type 0
IsTooLarge (Cover call) d m = HasTooMuch call d m
IsTooLarge (Goals s) d m = HasTooManyGoals s d m
IsTooLarge (Lrat call) d measures.Formula = HasLargeFormula call d
IsTooLarge command d m = ⊥

abbrev pub IsRefused : Meaning → DeskSeen → Refusal → Type 0
IsRefused (Replay call) d why = RefusesReplay call d why
IsRefused (Lrat call) d why = Refuses call d why
IsRefused command d why = ⊥

-- before anything is written
abbrev pub EarlyCause : Meaning → DeskSeen → Stop → Type 0
EarlyCause command d stops.Usage = command ≡ Usage
EarlyCause command d (stops.Unreadable f) = IsReached command d f × IsSomeAnd (name_of command f) (HasFaulted d)
EarlyCause command d (stops.TooLong f) = IsReached command d f × IsSomeAnd (name_of command f) (IsTooLong d f)
EarlyCause command d (stops.TooLarge m) = IsTooLarge command d m
EarlyCause command d (stops.BadCircuit at kind) = HasBadCircuit command d at kind
EarlyCause command d (stops.BadSignals line kind) = HasBadSignals command d line kind
EarlyCause command d (stops.Refused why) = IsRefused command d why
EarlyCause command d stops.CannotWrite = ⊥
EarlyCause command d stops.OutOfMemory = command ≢ Usage

-- a write fault is counted after the output was made
abbrev pub Cause : Meaning → DeskSeen → SinkSeen → Stop → Type 0
Cause command d out stops.CannotWrite = Failed out × ((bytes : List ℕ) × (settled : Bool) × IsOutput command d bytes settled)
Cause command d out stop = EarlyCause command d stop

-- a part from the front of the whole output was taken, and not all
abbrev pub IsPartial : Meaning → DeskSeen → SinkSeen → Type 0
IsPartial command d out = (bytes : List ℕ) × (settled : Bool) × IsOutput command d bytes settled × GrewByPart out.old.taken out.new.taken bytes

-- what is left of the output: nothing, unless it couldn't be written
abbrev pub Leaves : Meaning → DeskSeen → SinkSeen → Stop → Type 0
Leaves command d out stops.CannotWrite = IsPartial command d out
Leaves command d out stop = Unit {0}

-- ---- the two ways in which a run ends
pub record IsStopped (command : Meaning) (d : DeskSeen) (out : SinkSeen) (stop : Stop) : Type 0 where
  pub cause : Cause command d out stop
  pub read : HasRead (files_of command) d stop
  pub left : Leaves command d out stop

pub record IsWhole (command : Meaning) (d : DeskSeen) (out : SinkSeen) (settled : Bool) : Type 0 where
  pub bytes : List ℕ
  pub output : IsOutput command d bytes settled
  pub read : IsAllRead (files_of command) d
  pub took : Took out bytes
  pub counts : HasSameCounts out

pub record IsWholeAnswer (command : Meaning) (d : DeskSeen) (out : SinkSeen) (status : Status) : Type 0 where
  pub settled : Bool
  pub status_is : status ≡ settled_status settled
  pub whole : IsWhole command d out settled

-- something stopped the run, and its line went to the error stream
pub record IsStoppedAnswer (command : Meaning) (d : DeskSeen) (out err : SinkSeen) (status : Status) : Type 0 where
  pub stop : Stop
  pub status_is : status ≡ status_of stop
  pub stopped : IsStopped command d out stop
  pub said : TookWhatItCould err (line_of stop)

abbrev pub IsAnswer : Meaning → DeskSeen → SinkSeen → SinkSeen → Status → Type 0
IsAnswer command d out err status = IsWholeAnswer command d out status ⊎ IsStoppedAnswer command d out err status
