-- The random words of a batch, and the bit of each word that belongs to a lane.
use Rattle.std.specs.Prelude.{ℕ, zero, suc, ◌+◌, ◌^◌, ◌%◌, Bool, nat_eq, List}
use Rattle.std.specs.Int.{bit_at}
use Rattle.rand_xoshiro.specs.Xoshiro256.{plus_plus, of_seed}
use Rattle.rand_xoshiro.specs.SplitMix64.{splitmix_seed}

-- the generator xoshiro256++ as SplitMix64 seeds it from a number
abbrev pub seeded : ℕ → List ℕ
seeded number = of_seed (splitmix_seed 32 number)

-- its state after so many words
unfoldable pub after_words : List ℕ → ℕ → List ℕ
after_words state zero = state
after_words state (suc count) = (plus_plus (after_words state count)).1

-- word k that a generator gives from this state on
unfoldable pub word_at : List ℕ → ℕ → ℕ
word_at state k = (plus_plus (after_words state k)).0

-- the generator of a batch: its seed is the sum of the option `seed` and the batch's number, which wraps at 2 ^ 64
abbrev pub batch_generator : ℕ → ℕ → List ℕ
batch_generator seed batch = seeded ((seed + batch) % 2 ^ 64)

-- word k of a batch
abbrev pub word : ℕ → ℕ → ℕ → ℕ
word seed batch k = word_at (batch_generator seed batch) k

-- bit j of a word, counted from the least significant
abbrev pub bit_of_word : ℕ → ℕ → Bool
bit_of_word j w = nat_eq (bit_at w j) 1

-- what lane j of a batch reads in word k
abbrev pub lane_bit : ℕ → ℕ → ℕ → ℕ → Bool
lane_bit seed batch j k = bit_of_word j (word seed batch k)
