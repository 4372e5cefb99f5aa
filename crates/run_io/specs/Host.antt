-- Real files and streams.
use Rattle.std.specs.Prelude.{ℕ, List}
use Rattle.std.specs.declared.option.Option.{Option}
use Rattle.run_io.specs.Desk.{FileGiven}

-- what a desk over real files shows: what was left of the open file when it was opened, and what is left now, where the library states it
pub record DeskOnHost : Type 0 where
  pub earlier : List FileGiven
  pub started : Option (List ℕ)
  pub whole : Option (List ℕ)
  pub left : Option (List ℕ)
  pub given : ℕ
  pub faults : ℕ

-- what a sink over a real stream shows: what the library states that the stream holds
pub record SinkOnHost : Type 0 where
  pub contents : Option (List ℕ)
  pub faults : ℕ
  pub idle : ℕ
