-- What the definitions give.
use Rattle.std.specs.Prelude.{ℕ, List}
use Rattle.aig_model.specs.declared.parts.Parts.{Parts}
use Rattle.sim_walk.specs.declared.options.Options.{Options}
use Rattle.board_core.specs.declared.entry.Source.{Source}
use Rattle.board_core.specs.History.{IsInRange, kind_of}
use Rattle.goal_facts.specs.Found.{Found, IsOfKind}

-- A goal that a source finds is of the kind that the source settles.
abbrev pub FoundIsTrue : Type 0
FoundIsTrue = (c : Parts) (sig : List ℕ) (o : Options) (source : Source) (goal : ℕ) → Found c sig o source goal → IsOfKind c sig (kind_of source) goal

-- Only the batches and rounds that the options have find goals.
abbrev pub FoundIsInRange : Type 0
FoundIsInRange = (c : Parts) (sig : List ℕ) (o : Options) (source : Source) (goal : ℕ) → Found c sig o source goal → IsInRange o source
