use Rattle.std.proofs.Common.{◌≡◌, ℕ, ◌<◌, length, get_or}
use Rattle.sim_batch.specs.Words.{after_words, word_at}
use Rattle.sim_batch.proofs.words.draw.Given as goal

abbrev pub invariant-loop-place : goal.invariant-loop-place
invariant-loop-place l = record {
  size : length l.words.items ≡ length l.fn.words.items;
  state : l.generator ≡ after_words l.fn.generator l.place;
  words : (k : ℕ) → k < l.place → get_or l.words.items k 0 ≡ word_at l.fn.generator k;
}
