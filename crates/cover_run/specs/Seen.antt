-- What is seen of the devices in a call.
use Rattle.std.specs.Prelude.{◌⊎◌, ◌≡◌, List, ◌++◌, ℕ, IfSome}
use Rattle.run_io.specs.Count.{Rose}
use Rattle.run_io.specs.Desk.{DeskState, FileGiven, files_started}
use Rattle.run_io.specs.Sink.{SinkState, Grew, GrewByPrefix}

-- a device's state before and after the call
pub record Seen (S : Type 0) : Type 0 where
  pub old : S
  pub new : S

abbrev pub seen : {S : Type 0} → S → S → Seen S
seen old new = record { old = old; new = new }

abbrev pub DeskSeen : Type 0
DeskSeen = Seen DeskState

abbrev pub SinkSeen : Type 0
SinkSeen = Seen SinkState

-- faults of this file's name were counted
abbrev pub HasFaulted : DeskSeen → List ℕ → Type 0
HasFaulted d name = Rose (d.old.faults name) (d.new.faults name)

-- these files were started, one after the other, and so many bytes of each were given
abbrev pub Gave : DeskSeen → List FileGiven → Type 0
Gave d files = files_started d.new ≡ files_started d.old ++ files

-- some text has this property, and it is the one that the desk tells of the name, where it tells one
pub record HasText (d : DeskSeen) (name : List ℕ) (P : List ℕ → Type 0) : Type 0 where
  pub text : List ℕ
  pub told : IfSome (d.old.text name) (λ t. text ≡ t)
  pub has : P text

-- a fault or an idle write of the sink was counted
abbrev pub Failed : SinkSeen → Type 0
Failed s = Rose s.old.faults s.new.faults ⊎ Rose s.old.idle s.new.idle

-- no fault and no idle write of the sink was counted
pub record HasSameCounts (s : SinkSeen) : Type 0 where
  pub same_faults : s.new.faults ≡ s.old.faults
  pub same_idle : s.new.idle ≡ s.old.idle

-- the sink took just these bytes
abbrev pub Took : SinkSeen → List ℕ → Type 0
Took s bytes = Grew s.old.taken s.new.taken bytes

-- the sink took a prefix of these bytes, and all of them where no fault and no idle write was counted
pub record TookWhatItCould (s : SinkSeen) (bytes : List ℕ) : Type 0 where
  pub prefix : GrewByPrefix s.old.taken s.new.taken bytes
  pub whole : ¬ Failed s → Took s bytes
