-- The files of the commands.
use Rattle.std.specs.Prelude.{◌≡◌, ◌⊎◌, ℕ, ◌+◌, ◌<◌, ◌≤◌, List, [], ◌∷◌, ◌++◌, length, Option, Some, None, IfSome}
use Rattle.run_io.specs.Desk.{FileGiven, HasSameFaults}
use Rattle.command_words.specs.declared.stop.File.{File}
use Rattle.command_words.specs.declared.stop.File.TheVariants as files
use Rattle.command_words.specs.declared.stop.Stop.{Stop}
use Rattle.command_words.specs.declared.stop.Stop.TheVariants as stops
use Rattle.command_words.specs.Limits.{limit_of}
use Rattle.cover_run.specs.Seen.{DeskSeen, Gave}
use Rattle.command_words.specs.Words.{Subject, Meaning, Cover, Goals, Replay, Lrat}

-- the circuit's and the signals' file of a command that reads them
abbrev pub subject_of : Meaning → Option Subject
subject_of (Cover call) = Some call.subject
subject_of (Goals s) = Some s
subject_of (Replay call) = Some call.subject
subject_of command = None

-- a file of a command, and its name
abbrev pub NamedFile : Type 0
NamedFile = File × List ℕ

abbrev pub subject_files : Subject → List NamedFile
subject_files s = (files.Circuit, s.circuit) ∷ (files.Signals, s.signals) ∷ []

-- the files of a command, in the order in which they are read
abbrev pub files_of : Meaning → List NamedFile
files_of (Cover call) = subject_files call.subject
files_of (Goals s) = subject_files s
files_of (Replay call) = subject_files call.subject ++ (files.Witness, call.witness) ∷ []
files_of (Lrat call) = (files.Formula, call.formula) ∷ (files.Proof, call.proof) ∷ []
files_of command = []

abbrev pub subject_name : Subject → File → Option (List ℕ)
subject_name s files.Circuit = Some s.circuit
subject_name s files.Signals = Some s.signals
subject_name s f = None

-- the name of a command's file; None where the command has no such file
abbrev pub name_of : Meaning → File → Option (List ℕ)
name_of (Cover call) f = subject_name call.subject f
name_of (Goals s) f = subject_name s f
name_of (Replay call) files.Witness = Some call.witness
name_of (Replay call) f = subject_name call.subject f
name_of (Lrat call) files.Formula = Some call.formula
name_of (Lrat call) files.Proof = Some call.proof
name_of command f = None

-- ---- what was given of the files, one after the other
-- the first of these files were started, each once and in this order, and each was given within its limit
abbrev pub AreWithin : List NamedFile → List FileGiven → Type 0
AreWithin fs [] = Unit {0}
AreWithin [] (g ∷ gs) = ⊥
AreWithin (f ∷ fs) (g ∷ gs) = (g.0 ≡ f.1) × (g.1 ≤ limit_of f.0) × AreWithin fs gs

-- a file was given within its limit, and to its end, where its text is told
pub record IsReadToEnd (d : DeskSeen) (f : NamedFile) (g : FileGiven) : Type 0 where
  pub named : g.0 ≡ f.1
  pub within : g.1 ≤ limit_of f.0
  pub end : IfSome (d.old.text f.1) (λ t. g.1 ≡ length t)

-- these files were started, each once and in this order, and no others, and each was read to its end
abbrev pub AreRead : DeskSeen → List NamedFile → List FileGiven → Type 0
AreRead d [] [] = Unit {0}
AreRead d [] (g ∷ gs) = ⊥
AreRead d (f ∷ fs) [] = ⊥
AreRead d (f ∷ fs) (g ∷ gs) = IsReadToEnd d f g × AreRead d fs gs

-- the files before one of these were read to their ends, and this is true of that one and of what was given from it on
abbrev pub EndsAt : DeskSeen → (NamedFile → List FileGiven → Type 0) → List NamedFile → List FileGiven → Type 0
EndsAt d Last [] gs = ⊥
EndsAt d Last (f ∷ fs) [] = Last f []
EndsAt d Last (f ∷ fs) (g ∷ gs) = Last f (g ∷ gs) ⊎ (IsReadToEnd d f g × EndsAt d Last fs gs)

-- this file couldn't be started, or it is the last that was, and no more than its limit was given
abbrev pub EndsFailed : File → NamedFile → List FileGiven → Type 0
EndsFailed h f [] = f.0 ≡ h
EndsFailed h f (g ∷ []) = (f.0 ≡ h) × (g.0 ≡ f.1) × (g.1 ≤ limit_of f.0)
EndsFailed h f (g ∷ k ∷ gs) = ⊥

-- this file is the last that was started, and one byte past its limit was given
abbrev pub EndsPast : File → NamedFile → List FileGiven → Type 0
EndsPast h f [] = ⊥
EndsPast h f (g ∷ []) = (f.0 ≡ h) × (g.0 ≡ f.1) × (g.1 ≡ limit_of f.0 + 1)
EndsPast h f (g ∷ k ∷ gs) = ⊥

abbrev pub IsWithin : List NamedFile → DeskSeen → Type 0
IsWithin fs d = (given : List FileGiven) × Gave d given × AreWithin fs given

abbrev pub HasFailed : List NamedFile → DeskSeen → File → Type 0
HasFailed fs d h = (given : List FileGiven) × Gave d given × EndsAt d (EndsFailed h) fs given

abbrev pub IsPast : List NamedFile → DeskSeen → File → Type 0
IsPast fs d h = (given : List FileGiven) × Gave d given × EndsAt d (EndsPast h) fs given

-- no file was given past its limit, and no fault was counted
pub record IsFine (fs : List NamedFile) (d : DeskSeen) : Type 0 where
  pub within : IsWithin fs d
  pub no_fault : HasSameFaults d.old d.new

-- all files were read to their ends, and no fault was counted
pub record IsAllRead (fs : List NamedFile) (d : DeskSeen) : Type 0 where
  pub given : List FileGiven
  pub gave : Gave d given
  pub read : AreRead d fs given
  pub no_fault : HasSameFaults d.old d.new

-- what was given, and whether a fault was counted, where this stopped the command
abbrev pub HasRead : List NamedFile → DeskSeen → Stop → Type 0
HasRead fs d (stops.Unreadable f) = HasFailed fs d f
HasRead fs d (stops.TooLong f) = IsPast fs d f × HasSameFaults d.old d.new
HasRead fs d stops.CannotWrite = IsAllRead fs d
HasRead fs d stop = IsFine fs d

-- a text that is told is longer than the file's limit
abbrev pub IsTooLong : DeskSeen → File → List ℕ → Type 0
IsTooLong d f name = IfSome (d.old.text name) (λ t. limit_of f < length t)
