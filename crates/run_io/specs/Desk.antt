-- What a desk shows, and what a call may do to it.
use Rattle.std.specs.Prelude.{ℕ, ◌≡◌, ◌+◌, ◌<◌, ◌≤◌, ◌↔◌, List, [], ◌∷◌, ◌++◌, length, take, drop, IfSome, Some, None}
use Rattle.std.specs.declared.option.Option.{Option}
use Rattle.run_io.specs.Count.{CountsOn}

-- a file that was started: its name, and how many of its bytes were given
abbrev pub FileGiven : Type 0
FileGiven = List ℕ × ℕ

-- the one text of each name, where the desk tells it; the files that were started before the open one, in order; the name of
-- the open one, what was left of it when it was started and what is left of it now, where these are told, and how many of its
-- bytes were given; and the faults of each name
pub record DeskState : Type 0 where
  pub text : List ℕ → Option (List ℕ)
  pub earlier : List FileGiven
  pub started : Option (List ℕ)
  pub whole : Option (List ℕ)
  pub left : Option (List ℕ)
  pub given : ℕ
  pub faults : List ℕ → ℕ

-- files, and after them the open one
abbrev pub with_open : List FileGiven → Option (List ℕ) → ℕ → List FileGiven
with_open earlier None given = earlier
with_open earlier (Some name) given = earlier ++ (name, given) ∷ []

-- all files that were started, in order
abbrev pub files_started : DeskState → List FileGiven
files_started d = with_open d.earlier d.started d.given

-- no text changes
abbrev pub HasSameTexts : DeskState → DeskState → Type 0
HasSameTexts old new = (name : List ℕ) → new.text name ≡ old.text name

-- no count of faults changes
abbrev pub HasSameFaults : DeskState → DeskState → Type 0
HasSameFaults old new = (name : List ℕ) → new.faults name ≡ old.faults name

-- no count of faults falls
abbrev pub CountsFaults : DeskState → DeskState → Type 0
CountsFaults old new = (name : List ℕ) → CountsOn (old.faults name) (new.faults name)

-- bytes stay as they are, where they were told
abbrev pub StaysTold : Option (List ℕ) → Option (List ℕ) → Type 0
StaysTold before now = IfSome before (λ bytes. now ≡ Some bytes)

-- the same files were started, and the last one is open at the same place
pub record IsKept (old new : DeskState) : Type 0 where
  pub same_earlier : new.earlier ≡ old.earlier
  pub same_name : new.started ≡ old.started
  pub same_whole : new.whole ≡ old.whole
  pub same_rest : StaysTold old.left new.left
  pub same_count : new.given ≡ old.given

-- so many bytes were given of what was left, where that was told
abbrev pub IsPast : Option (List ℕ) → Option (List ℕ) → ℕ → Type 0
IsPast before now given = IfSome before (λ bytes. (given ≤ length bytes) × (now ≡ Some (drop given bytes)))

-- all of the open file is the text of its name, where that is told
abbrev pub IsWhole : DeskState → DeskState → List ℕ → Type 0
IsWhole old new name = IfSome (old.text name) (λ text. new.whole ≡ Some text)

-- the file of this name was started, the only one, and what was given and what is left make up all of it, where that is told
pub record IsOpen (old new : DeskState) (name : List ℕ) : Type 0 where
  pub named : new.started ≡ Some name
  pub earlier : new.earlier ≡ files_started old
  pub whole : IsWhole old new name
  pub rest : IsPast new.whole new.left new.given

-- the file of this name was started, nothing of it was given, and all of it is left, where that is told
pub record IsStarted (old new : DeskState) (name : List ℕ) : Type 0 where
  pub named : new.started ≡ Some name
  pub earlier : new.earlier ≡ files_started old
  pub nothing : new.given ≡ 0
  pub whole : IsWhole old new name
  pub rest : new.left ≡ new.whole

-- nothing is left, where that is told
abbrev pub IsAtEnd : Option (List ℕ) → Type 0
IsAtEnd left = IfSome left (λ bytes. bytes ≡ [])

-- so many bytes at the front of a piece are the front of what was left, and there are none exactly at the end
pub record IsFront (bytes : List ℕ) (rest : Option (List ℕ)) (piece : List ℕ) (count : ℕ) : Type 0 where
  pub enough : count ≤ length bytes
  pub front : take count piece ≡ take count bytes
  pub left : rest ≡ Some (drop count bytes)
  pub ended : 0 < length piece → ((count ≡ 0) ↔ (bytes ≡ []))

-- a read gave so many bytes, at most those for which the piece has room: the front of what was left, where that is told
pub record Gives (old new : DeskState) (piece : List ℕ) (count : ℕ) : Type 0 where
  pub fits : count ≤ length piece
  pub counted : new.given ≡ old.given + count
  pub told : IfSome old.left (λ bytes. IsFront bytes new.left piece count)
  pub ended : count ≡ 0 → 0 < length piece → IsAtEnd new.left
