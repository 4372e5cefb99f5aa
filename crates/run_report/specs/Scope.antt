-- What a run does beyond walks and searches.
use Rattle.std.specs.Prelude.{Bool, true}

-- It has a prover; it keeps the proofs of the queries that have no model, where the options ask for them.
pub record Scope : Type 0 where
  pub proves : Bool
  pub refutes : Bool

-- all that the options can ask for, as runs do
abbrev pub whole : Scope
whole = record { proves = true; refutes = true }
