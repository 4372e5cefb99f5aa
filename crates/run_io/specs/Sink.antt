-- What a sink shows, and what a call may do to it.
use Rattle.std.specs.Prelude.{ℕ, ◌≡◌, ◌<◌, ◌≤◌, List, ◌++◌, length, take, IfSome, Some}
use Rattle.std.specs.declared.option.Option.{Option}

-- the bytes taken so far, where they are told; how many writes failed; and how many took nothing of a piece that isn't empty
pub record SinkState : Type 0 where
  pub taken : Option (List ℕ)
  pub faults : ℕ
  pub idle : ℕ

-- what the sink took grew by these bytes, where it is told
abbrev pub Grew : Option (List ℕ) → Option (List ℕ) → List ℕ → Type 0
Grew before now bytes = IfSome before (λ taken. now ≡ Some (taken ++ bytes))

-- what the sink took stays as it is, where it is told
abbrev pub TookNothing : SinkState → SinkState → Type 0
TookNothing old new = IfSome old.taken (λ taken. new.taken ≡ Some taken)

-- the sink took so many bytes from the front of a piece
pub record Takes (before now : Option (List ℕ)) (piece : List ℕ) (count : ℕ) : Type 0 where
  pub fits : count ≤ length piece
  pub grew : Grew before now (take count piece)

-- nothing was taken of a piece that isn't empty
pub record IsIdle (count : ℕ) (piece : List ℕ) : Type 0 where
  pub nothing : count ≡ 0
  pub some : 0 < length piece

-- the sink took bytes from the front of these
pub record GrewByPrefix (before now : Option (List ℕ)) (bytes : List ℕ) : Type 0 where
  pub count : ℕ
  pub takes : Takes before now bytes count

-- the sink took bytes from the front of these, and not all
pub record GrewByPart (before now : Option (List ℕ)) (bytes : List ℕ) : Type 0 where
  pub count : ℕ
  pub takes : Takes before now bytes count
  pub less : count < length bytes
