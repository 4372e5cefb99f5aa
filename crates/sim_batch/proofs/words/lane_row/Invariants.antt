use Rattle.std.proofs.Common.{◌≡◌, map, take}
use Rattle.sim_batch.specs.Words.{bit_of_word}
use Rattle.sim_batch.proofs.words.lane_row.Given as goal

abbrev pub invariant-loop-word : goal.invariant-loop-word
invariant-loop-word l = l.row ≡ map (bit_of_word l.lane) (take l.word-index l.words)
