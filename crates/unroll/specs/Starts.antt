-- The states from which frames start.
use Rattle.std.specs.Prelude.{◌≡◌, Bool, List, length}
use Rattle.aig_model.specs.Meaning.{IsReset}
use Rattle.aig_model.specs.declared.parts.Parts.{Parts}
use Rattle.unroll.specs.declared.start.Start.{Start}
use Rattle.unroll.specs.declared.start.Start.TheVariants.{Any, Reset, State}

-- a given state has one value a latch
abbrev pub IsStart : Parts → Start → Type 0
IsStart c Any = Unit {0}
IsStart c Reset = Unit {0}
IsStart c (State given) = length given ≡ length c.latches

-- the start allows this state
abbrev pub Allows : Parts → Start → List Bool → Type 0
Allows c Any state = length state ≡ length c.latches
Allows c Reset state = IsReset c state
Allows c (State given) state = state ≡ given
