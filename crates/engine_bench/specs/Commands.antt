-- What the words of the command line mean.
use Rattle.std.specs.Prelude.{◌≡◌, ℕ, ◌≤◌, ◌^◌, Some, List}
use Rattle.text_words.specs.Numbers.{natural_of}
use Rattle.engine_bench.specs.declared.words.Command.{Command}

-- the numbers that are spelled, and so many lemmas as a search may be given
pub record IsCommand (number lemmas : List ℕ) (command : Command) : Type 0 where
  pub number_is : natural_of number ≡ Some command.number
  pub lemmas_are : natural_of lemmas ≡ Some command.lemmas
  pub small : command.number ≤ 4000000
  pub some : 1 ≤ command.lemmas
  pub few : command.lemmas ≤ 2 ^ 60
