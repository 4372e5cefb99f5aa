use Rattle.std.proofs.Common.{◌≡◌, length, refl, sym, ap, ◌∙◌, arith, length-set}
use Rattle.std.proofs.lemmas.List.FromFn.{fill_by_all}
use Rattle.std.proofs.lemmas.List.Edits.{fill_by_more}
use Rattle.sim_batch.specs.Words.{word_at}
use Rattle.sim_batch.proofs.Drawn.{after_none, next_drawn}
use Rattle.rand_xoshiro.specs.Xoshiro256.{plus_plus}
use Rattle.sim_batch.proofs.words.draw.Goals as goal

pub loop-place-init : goal.loop-place-init
loop-place-init c = record { size = refl; state = sym (after_none c.args.generator.now); words = λ k inside. absurd (omega (arith, inside)) }

pub loop-place-preserved : goal.loop-place-preserved
loop-place-preserved c =
    let s = c.args.generator.now in
    let i = c.loop-place.place in
    let drawn = next_drawn s c.next_word.new.self i c.next_word.result (c.next_word.ensures ∙ ap plus_plus c.loop-place.invariant.state) in
    record {
      size = length-set c.loop-place.words.items i c.next_word.result ∙ c.loop-place.invariant.size;
      state = drawn.1;
      words = rw drawn.0 (fill_by_more (word_at s) c.loop-place.words.items i 0 (omega (arith, c.loop-place.invariant.size)) c.loop-place.invariant.words);
    }

pub returns-clause-words : goal.returns-clause-words
returns-clause-words c =
    let all : c.loop-place.place ≡ length c.args.words.now.items = omega arith in
    fill_by_all (word_at c.args.generator.now) c.loop-place.words.items (length c.args.words.now.items) 0 c.loop-place.invariant.size
    (λ k inside. c.loop-place.invariant.words k (omega (arith, inside, all)))
