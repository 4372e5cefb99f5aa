-- What the words of the command line mean.
use Rattle.std.specs.Prelude.{◌≡◌, ℕ, ◌≤◌, ◌^◌, Some, List}
use Rattle.text_words.specs.Numbers.{natural_of}

-- a word spells so many lemmas, of those that a search may be given
pub record IsBudget (word : List ℕ) (lemmas : ℕ) : Type 0 where
  pub spelled : natural_of word ≡ Some lemmas
  pub some : 1 ≤ lemmas
  pub few : lemmas ≤ 2 ^ 60
