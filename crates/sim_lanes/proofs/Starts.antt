-- The lanes before their first step.
use Rattle.std.proofs.Common.{◌≡◌, ℕ, zero, suc, ◌^◌, ◌<◌, Bool, cond, List, map, length, get_or, replicate, Option, None, Some, refl, sym, ap, ◌∙◌, subst, arith}
use Rattle.std.specs.List.{range_with_len}
use Rattle.std.proofs.lemmas.List.{length-replicate}
use Rattle.aig_model.specs.declared.parts.Parts.{Parts}
use Rattle.sim_walk.specs.Walk.{Lane}
use Rattle.sim_batch.specs.Batch.{BelongsTo, lane_start, lane_with, lanes_of, start_bits}
use Rattle.sim_batch.specs.Seeds.{SeedState, AreSeeds}
use Rattle.sim_batch.specs.Steps.{IsAt}
use Rattle.sim_batch.specs.Words.{batch_generator, bit_of_word, lane_bit, word_at}
use Rattle.sim_batch.proofs.Lanes.{at_first}
use Rattle.sim_batch.proofs.Shown.{lane_at, length-reset_state}
use Rattle.aig_model.proofs.Paths.{length-state_after}
use Rattle.sim_batch.proofs.Traced.{start_drawn}
use Rattle.sim_lanes.specs.LaneValues.{lane_values}
use Rattle.sim_lanes.specs.Lanes.{AreLanesAt, AreMarked, AreSized, IsFirst, IsLaneAt, lived_of}
use Rattle.sim_lanes.specs.declared.lanes.LaneWords.{LaneWords}
use Rattle.sim_lanes.proofs.Deciding.{false_not}
use Rattle.sim_lanes.proofs.LaneSteps.{length-lane_values}
use Rattle.sim_lanes.proofs.WordBits.{bit-none}

length-start : (c : Parts) (from : Option SeedState) (bits : ℕ → Bool) → AreSeeds from → BelongsTo c from → length (lane_start c from bits) ≡ length c.latches
length-start c None bits holds same = length-reset_state bits 0 c.latches
length-start c (Some s) bits holds same =
    ap length holds.leads ∙ (length-state_after s.circuit s.start holds.frames holds.reset.size ∙ ap (λ (x : Parts). length x.latches) same)

pub first_sized : (c : Parts) (sig : List ℕ) (from : Option SeedState) (words : List ℕ) (w : LaneWords) → AreSeeds from → BelongsTo c from
    → IsFirst c sig from words w → AreSized c sig w
first_sized c sig from words w holds same first =
    let low : 0 < 64 = omega arith in
    record {
      state = sym (length-lane_values 0 w.state.items) ∙ (ap length (first.state 0 low) ∙ length-start c from (λ k. bit_of_word 0 (get_or words k 0)) holds same);
      before = first.before;
      died = first.died;
      seen = ap length first.seen ∙ length-replicate (2 ^ length sig) 0;
    }

same_at : (z n k : ℕ) → get_or (replicate n z) k z ≡ z
same_at z zero k = refl
same_at z (suc n) zero = refl
same_at z (suc n) (suc k) = same_at z n k

none_marked : (c : Parts) (sig : List ℕ) (lane : Lane) (j n : ℕ) (seen : List ℕ) → seen ≡ replicate n 0 → AreMarked c sig lane 0 j seen
none_marked c sig lane j n seen e = record {
  shown = λ goal is. absurd (false_not (bit_of_word j (get_or seen goal 0))
      (ap (λ (s : List ℕ). bit_of_word j (get_or s goal 0)) e ∙ (ap (bit_of_word j) (same_at 0 n goal) ∙ bit-none j)) is);
  whole = λ u goal inside s. absurd (omega (arith, inside));
}

first_lane : (c : Parts) (sig : List ℕ) (seed batch : ℕ) (from : Option SeedState) (words : List ℕ) (w : LaneWords) (j : ℕ) → j < 64
    → words ≡ map (word_at (batch_generator seed batch)) (range_with_len 0 (start_bits c from)) → IsFirst c sig from words w
    → IsLaneAt c sig (lane_with c from (lane_bit seed batch j)) 0 j w
first_lane c sig seed batch from words w j low drawn first =
    let lane : Lane = lane_with c from (lane_bit seed batch j) in
    let lived : lived_of 0 w.live w.died.items j ≡ 0 = ap (λ b. cond b 0 (get_or w.died.items j 0)) (first.live j low) in
    let start : lane_values j w.state.items ≡ lane.start = first.state j low ∙ start_drawn c (batch_generator seed batch) from words j drawn in
    record {
      at = subst (λ (n : ℕ). IsAt c lane 0 n (lane_values j w.state.items)) (sym lived) (subst (λ (s : List Bool). IsAt c lane 0 0 s) (sym start) (at_first c lane));
      before = λ n e. absurd (omega (arith, lived, e));
      dead = λ none. absurd (none (first.live j low));
      marked = subst (λ (n : ℕ). AreMarked c sig lane n j w.seen.items) (sym lived) (none_marked c sig lane j (2 ^ length sig) w.seen.items first.seen);
    }

pub first_at : (c : Parts) (sig : List ℕ) (seed batch : ℕ) (from : Option SeedState) (words : List ℕ) (w : LaneWords)
    → words ≡ map (word_at (batch_generator seed batch)) (range_with_len 0 (start_bits c from)) → IsFirst c sig from words w
    → AreLanesAt c sig (lanes_of c seed batch from) 0 w
first_at c sig seed batch from words w drawn first = λ j lane place. (
    let at = lane_at c seed batch from j lane place in
    subst (λ (l : Lane). IsLaneAt c sig l 0 j w) (sym at.1) (first_lane c sig seed batch from words w j at.0 drawn first)
    )
