-- A search over frames that are kept.
use Rattle.std.specs.Prelude.{ℕ, List}
use Rattle.aig_model.specs.declared.parts.Parts.{Parts}
use Rattle.unroll.specs.Framing.{Framing, HasFrames}
use Rattle.hop_search.specs.Answers.{Asks}

-- behind the same frames stands the question for a goal that isn't settled
pub record Queries (c : Parts) (sig : List ℕ) (settled : List ℕ) (old new : Framing) : Type 0 where
  pub frames : HasFrames c old.start old.last new
  pub asks : Asks c sig old.start old.last settled new.formula
