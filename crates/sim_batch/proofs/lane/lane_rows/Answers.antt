use Rattle.std.proofs.Common.{◌≡◌, ℕ, ◌+◌, ◌*◌, length, map, refl, sym, ap, ◌∙◌, arith}
use Rattle.std.specs.List.{range_with_len}
use Rattle.std.proofs.Math.Nat.{add-mul}
use Rattle.std.proofs.lemmas.List.{length-map, length-replicate}
use Rattle.std.proofs.lemmas.List.FromFn.{length-map-range_with_len, map-range_with_len_more}
use Rattle.sim_batch.specs.Batch.{row_of_bits}
use Rattle.sim_batch.specs.Words.{after_words, bit_of_word, word_at}
use Rattle.sim_batch.proofs.Drawn.{after_none, after_more, row_drawn}
use Rattle.sim_batch.proofs.lane.lane_rows.Goals as goal

pub loop-step-init : goal.loop-step-init
loop-step-init c =
    let none : 0 * length c.args.circuit.now.inputs ≡ 0 = omega arith in
    record {
      size = ap length (c.in_ok-words.ensures.items_if_clones_equal (λ y e. e)) ∙ (length-replicate (c.len-inputs.result) 0 ∙ (c.len-inputs.ensures ∙ ap length c.inputs.ensures));
      width = c.new-rows.ensures.width ∙ (c.len-inputs.ensures ∙ ap length c.inputs.ensures);
      state = sym (ap (after_words c.args.generator.now) none ∙ after_none c.args.generator.now);
      rows = c.new-rows.ensures.rows;
    }

pub push-requires : goal.push-requires
push-requires c =
    ap length c.in_ok-row.ensures
    ∙ (length-map c.as_slice.result.now (bit_of_word c.args.lane)
    ∙ (ap length (c.as_slice.ensures.value ∙ c.draw.ensures.words)
    ∙ (length-map-range_with_len (word_at c.loop-step.generator) 0 (length c.loop-step.words.items)
    ∙ (c.loop-step.invariant.size ∙ sym c.loop-step.invariant.width))))

pub loop-step-preserved : goal.loop-step-preserved
loop-step-preserved c =
    let s = c.args.generator.now in
    let inputs : ℕ = length c.args.circuit.now.inputs in
    let t : ℕ = c.loop-step._step in
    let next : t * inputs + inputs ≡ (t + 1) * inputs = omega (arith, add-mul t 1 inputs) in
    let skip : t * inputs ≡ 0 + t * inputs = omega arith in
    let row : c.in_ok-row.row ≡ row_of_bits (λ k. bit_of_word c.args.lane (word_at s k)) 0 inputs t =
    c.in_ok-row.ensures
    ∙ (ap (map (bit_of_word c.args.lane)) (c.as_slice.ensures.value ∙ c.draw.ensures.words)
    ∙ (ap (λ n. map (bit_of_word c.args.lane) (map (word_at c.loop-step.generator) (range_with_len 0 n))) c.loop-step.invariant.size
    ∙ (ap (λ g. map (bit_of_word c.args.lane) (map (word_at g) (range_with_len 0 inputs))) (c.loop-step.invariant.state ∙ ap (after_words s) skip)
    ∙ row_drawn s c.args.lane 0 inputs t))) in
    record {
      size = ap length c.draw.ensures.words ∙ (length-map-range_with_len (word_at c.loop-step.generator) 0 (length c.loop-step.words.items) ∙ c.loop-step.invariant.size);
      width = c.push.ensures.width ∙ c.loop-step.invariant.width;
      state = c.draw.ensures.generator ∙ (ap (λ g. after_words g (length c.loop-step.words.items)) c.loop-step.invariant.state
          ∙ (ap (after_words (after_words s (t * inputs))) c.loop-step.invariant.size
          ∙ (after_more s (t * inputs) inputs ∙ ap (after_words s) next)));
      rows = c.in_ok-push.ensures.ok ∙ (rw (c.loop-step.invariant.rows, row) refl
          ∙ sym (map-range_with_len_more (row_of_bits (λ k. bit_of_word c.args.lane (word_at s k)) 0 inputs) 0 t t (omega arith)));
    }
